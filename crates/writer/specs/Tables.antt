-- What the words so far are the writing of.
use Rattle.std.specs.Prelude.{◌≡◌, ℕ, ◌+◌, ◌^◌, ◌<◌, ◌≤◌, List, [], ◌∷◌, ◌++◌, length, take, drop}
use Rattle.std.specs.List.{flat_map, AllByRecursion}
use Rattle.grammar.specs.declared.rule.Rule.{Rule}
use Rattle.grammar.specs.Parts.{Parts, parts}
use Rattle.grammar.specs.Writing.{standard, rule_words, written, FormedHead, FormedGuard, FormedBody, FormedRule}
use Rattle.grammar.specs.Validity.{binds, Bound, Valid, last_label}
use Rattle.grammar.specs.Reading.{read_table, ok}
use Rattle.writer.specs.declared.part.Part.{Part}
use Rattle.writer.specs.declared.part.Part.TheVariants.{Kept, Taken, Guard, Body}
use Rattle.writer.specs.declared.tally.Tally.{Tally}
use Rattle.writer.specs.declared.table.TableWriter.{TableWriter}
use Rattle.writer.specs.Variables.{has}

-- the first n words of the memory are these
abbrev pub Front : ℕ → List ℕ → List ℕ → Type 0
Front n memory ws = (n ≡ length ws) × (take n memory ≡ ws)

-- the table of a rule that is closed
abbrev pub closed_table : Tally → TableWriter
closed_table t = record { used = t.used; rules = t.rules; last = t.label }

-- a table with no open rule: the words so far are those of these rules
pub record Tabled (w : TableWriter) (memory : List ℕ) (rs : List Parts) : Type 0 where
  pub words : Front w.used memory (flat_map rule_words rs)
  pub valid : Valid rs
  pub rules : w.rules ≡ length rs
  pub last : w.last ≡ last_label 0 rs

-- an open rule: the words so far are those of the closed rules rs and of the parts so far
pub record Opened (t : Tally) (memory : List ℕ) (rs : List Parts) (r : Parts) : Type 0 where
  pub words : Front t.used memory (flat_map rule_words rs ++ rule_words r)
  pub valid : Valid rs
  -- the numbers tell these rules, the open one counted
  pub rules : t.rules ≡ length rs + 1
  pub label : t.label ≡ r.label
  pub heads : t.heads ≡ length r.kept + length r.taken
  pub guards : t.guards ≡ length r.guards
  pub body : t.body ≡ length r.body
  pub variables : (v : ℕ) → has t.variables v ≡ binds r v
  -- the parts so far are in range, in number too
  pub few : length rs < 32
  pub rising : last_label 0 rs < r.label
  pub small : r.label < 2 ^ 16
  pub good_kept : AllByRecursion FormedHead r.kept
  pub good_taken : AllByRecursion FormedHead r.taken
  pub good_guards : AllByRecursion FormedGuard r.guards
  pub good_body : AllByRecursion FormedBody r.body
  pub few_heads : length r.kept + length r.taken ≤ 3
  pub few_guards : length r.guards ≤ 4
  pub few_body : length r.body ≤ 3
  -- every variable of the guards and the body so far stands in a head
  pub bound : Bound r

-- a rule with its label alone, and a rule with one part more
abbrev pub labelled : ℕ → Parts
labelled n = record { label = n; kept = []; taken = []; guards = []; body = [] }

abbrev pub with_part : Parts → Part → Parts
with_part r (Kept h) = record r { kept = r.kept ++ h ∷ [] }
with_part r (Taken h) = record r { taken = r.taken ++ h ∷ [] }
with_part r (Guard g) = record r { guards = r.guards ++ g ∷ [] }
with_part r (Body b) = record r { body = r.body ++ b ∷ [] }

-- an ended table: the memory begins with the writing of these rules, n words, and loads as them
pub record Ended (n : ℕ) (before after : List ℕ) (rs : List Parts) : Type 0 where
  pub valid : Valid rs
  pub words : n ≡ length (written rs)
  pub memory : after ≡ written rs ++ drop n before
  pub loads : read_table standard after ≡ ok rs (drop n before)

-- the words of a rule, and that it is well formed
abbrev pub words_of : Rule → List ℕ
words_of r = rule_words (parts r)

abbrev pub FormedRuleOf : Rule → Type 0
FormedRuleOf r = FormedRule standard (parts r)
