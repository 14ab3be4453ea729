-- The words that rules are written as, and which tables are well formed.
use Rattle.std.specs.Prelude.{ℕ, ◌+◌, ◌*◌, ◌^◌, ◌<◌, ◌≤◌, List, [], ◌∷◌, ◌++◌, length}
use Rattle.std.specs.List.{flat_map, AllByRecursion}
use Rattle.words.specs.Words.{word, unsigned, FullRange}
use Rattle.grammar.specs.declared.part.Operand.{Operand}
use Rattle.grammar.specs.declared.part.Operand.TheVariants.{Var, Const}
use Rattle.grammar.specs.declared.part.Term.{Term}
use Rattle.grammar.specs.declared.part.Term.TheVariants.{One, Sum, Diff}
use Rattle.grammar.specs.declared.part.Test.{Test}
use Rattle.grammar.specs.declared.part.Test.TheVariants.{Equal, NotEqual, Less, AtMost}
use Rattle.grammar.specs.declared.part.Atom.{Atom}
use Rattle.grammar.specs.Atoms.{Head, BodyFact}
use Rattle.grammar.specs.declared.part.Guard.{Guard}
use Rattle.args.specs.Listed.{listed, amount}
use Rattle.grammar.specs.Parts.{Parts}

abbrev pub operand_words : Operand → List ℕ
operand_words (Var v) = word 6 v ∷ []
operand_words (Const n) = word 7 (unsigned n) ∷ []

abbrev pub term_words : Term → List ℕ
term_words (One a) = operand_words a
term_words (Sum a b) = word 8 0 ∷ (operand_words a ++ operand_words b)
term_words (Diff a b) = word 9 0 ∷ (operand_words a ++ operand_words b)

-- a word of that kind with the name and the amount, and the arguments
abbrev pub atom_words : {A : Type 0} → (A → List ℕ) → ℕ → Atom A → List ℕ
atom_words words k a = word k (a.name * 2 ^ 16 + amount a.args) ∷ flat_map words (listed a.args)

-- a head: by its kind it is kept or taken
abbrev pub head_words : ℕ → Head → List ℕ
head_words k h = atom_words operand_words k h

abbrev pub test_number : Test → ℕ
test_number Equal = 0
test_number NotEqual = 1
test_number Less = 2
test_number AtMost = 3

abbrev pub guard_words : Guard → List ℕ
guard_words g = word 4 (test_number g.test) ∷ (term_words g.left ++ term_words g.right)

abbrev pub body_words : BodyFact → List ℕ
body_words b = atom_words term_words 5 b

abbrev pub heads_words : Parts → List ℕ
heads_words r = flat_map (head_words 2) r.kept ++ flat_map (head_words 3) r.taken

-- the words of a rule's guards and body facts
abbrev pub tail_words : Parts → List ℕ
tail_words r = flat_map guard_words r.guards ++ flat_map body_words r.body

abbrev pub rule_words : Parts → List ℕ
rule_words r = word 1 r.label ∷ (heads_words r ++ tail_words r)

-- the words that a table is written as
abbrev pub written : List Parts → List ℕ
written rs = flat_map rule_words rs ++ word 15 0 ∷ []

-- how many rules a table may have, and how many heads, guards and body facts a rule
pub record Limits : Type 0 where
  pub rules : ℕ
  pub heads : ℕ
  pub guards : ℕ
  pub body : ℕ

abbrev pub standard : Limits
standard = record { rules = 32; heads = 3; guards = 4; body = 3 }

abbrev pub FormedOperand : Operand → Type 0
FormedOperand (Var v) = v ≤ 7
FormedOperand (Const n) = FullRange n

abbrev pub FormedTerm : Term → Type 0
FormedTerm (One a) = FormedOperand a
FormedTerm (Sum a b) = FormedOperand a × FormedOperand b
FormedTerm (Diff a b) = FormedOperand a × FormedOperand b

abbrev pub FormedAtom : {A : Type 0} → (A → Type 0) → Atom A → Type 0
FormedAtom Formed a = (a.name < 2 ^ 8) × AllByRecursion Formed (listed a.args)

abbrev pub FormedHead : Head → Type 0
FormedHead h = FormedAtom FormedOperand h

abbrev pub FormedGuard : Guard → Type 0
FormedGuard g = FormedTerm g.left × FormedTerm g.right

abbrev pub FormedBody : BodyFact → Type 0
FormedBody b = FormedAtom FormedTerm b

-- numbers and amounts of a rule are in range; a head follows the RULE word
pub record FormedRule (L : Limits) (r : Parts) : Type 0 where
  pub label : r.label < 2 ^ 16
  pub kept : AllByRecursion FormedHead r.kept
  pub taken : AllByRecursion FormedHead r.taken
  pub guards : AllByRecursion FormedGuard r.guards
  pub body : AllByRecursion FormedBody r.body
  pub some_head : 0 < length r.kept + length r.taken
  pub few_heads : length r.kept + length r.taken ≤ L.heads
  pub few_guards : length r.guards ≤ L.guards
  pub few_body : length r.body ≤ L.body

pub record Formed (L : Limits) (rs : List Parts) : Type 0 where
  pub few : length rs ≤ L.rules
  pub each : AllByRecursion (FormedRule L) rs
