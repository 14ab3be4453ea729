-- The numbers of an open rule: what a part more needs, and what they are after it.
use Rattle.std.specs.Prelude.{ℕ, ◌+◌, ◌<◌, List}
use Rattle.grammar.specs.Atoms.{Head}
use Rattle.grammar.specs.Writing.{head_words, guard_words, body_words, FormedHead, FormedGuard, FormedBody}
use Rattle.grammar.specs.Sizes.{head_size, guard_size, body_size}
use Rattle.writer.specs.declared.part.Part.{Part}
use Rattle.writer.specs.declared.part.Part.TheVariants.{Kept, Taken, Guard, Body}
use Rattle.writer.specs.declared.tally.Tally.{Tally}
use Rattle.writer.specs.Variables.{Within, bind_head}

abbrev pub part_words : Part → List ℕ
part_words (Kept h) = head_words 2 h
part_words (Taken h) = head_words 3 h
part_words (Guard g) = guard_words g
part_words (Body b) = body_words b

-- numbers in range
abbrev pub Formed : Part → Type 0
Formed (Kept h) = FormedHead h
Formed (Taken h) = FormedHead h
Formed (Guard g) = FormedGuard g
Formed (Body b) = FormedBody b

-- not one part too many
abbrev pub HasPlace : Tally → Part → Type 0
HasPlace t (Kept h) = t.heads < 3
HasPlace t (Taken h) = t.heads < 3
HasPlace t (Guard g) = t.guards < 4
HasPlace t (Body b) = t.body < 3

abbrev pub Fits : Tally → Part → Type 0
Fits t p = Formed p × HasPlace t p

-- a head may bring variables; those of a guard or a body fact are among the heads' so far
abbrev pub IsBound : Tally → Part → Type 0
IsBound t (Kept h) = Unit {0}
IsBound t (Taken h) = Unit {0}
IsBound t (Guard g) = Within t.variables (guard_words g)
IsBound t (Body b) = Within t.variables (body_words b)

-- the numbers of a rule just begun, where n words and that many rules came before
abbrev pub begun : ℕ → ℕ → ℕ → Tally
begun n closed label =
    record { used = n + 1; rules = closed + 1; label = label; variables = 0; heads = 0; guards = 0; body = 0 }

abbrev pub head_added : Tally → Head → Tally
head_added t h = record t { used = t.used + head_size h; variables = bind_head t.variables h; heads = t.heads + 1 }

abbrev pub added : Tally → Part → Tally
added t (Kept h) = head_added t h
added t (Taken h) = head_added t h
added t (Guard g) = record t { used = t.used + guard_size g; guards = t.guards + 1 }
added t (Body b) = record t { used = t.used + body_size b; body = t.body + 1 }
