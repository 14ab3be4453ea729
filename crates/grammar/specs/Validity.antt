-- When a well-formed table is valid: variables bound, a taken head, rising labels.
use Rattle.std.specs.Prelude.{◌≡◌, ℕ, ◌<◌, Bool, true, false, cond, not, List, [], ◌∷◌, ◌++◌, length, take, ◌==◌}
use Rattle.words.specs.Words.{kind_of, payload_of}
use Rattle.grammar.specs.declared.part.Operand.{Operand}
use Rattle.grammar.specs.declared.part.Operand.TheVariants.{Var, Const}
use Rattle.grammar.specs.Atoms.{Head}
use Rattle.args.specs.Listed.{listed}
use Rattle.grammar.specs.Parts.{Parts}
use Rattle.facts.specs.Lists.{Nth}
use Rattle.std.specs.List.{flat_map, list_any, AllByRecursion}
use Rattle.grammar.specs.Writing.{standard, Formed, tail_words, rule_words}

abbrev pub is_var : ℕ → Operand → Bool
is_var v (Var u) = u == v
is_var v (Const n) = false

abbrev pub head_has : ℕ → Head → Bool
head_has v h = list_any (is_var v) (listed h.args)

-- a variable stands in a head of the rule
abbrev pub binds : Parts → ℕ → Bool
binds r v = list_any (head_has v) (r.kept ++ r.taken)

-- a VAR word whose variable stands in no head
abbrev pub free : Parts → ℕ → Bool
free r w = cond (kind_of w == 6) (not (binds r (payload_of w))) false

-- every variable of the guards and the body stands in a head
abbrev pub Bound : Parts → Type 0
Bound r = AllByRecursion (λ w. free r w ≡ false) (tail_words r)

pub record Sound (r : Parts) : Type 0 where
  pub bound : Bound r
  pub takes : 0 < length r.taken

-- labels rise, the first above n
abbrev pub Rising : ℕ → List Parts → Type 0
Rising n [] = Unit {0}
Rising n (r ∷ rs) = (n < r.label) × Rising r.label rs

pub record Valid (rs : List Parts) : Type 0 where
  pub formed : Formed standard rs
  pub sound : AllByRecursion Sound rs
  pub rising : Rising 0 rs

-- the label of the last of these rules; n if there is none
abbrev pub last_label : ℕ → List Parts → ℕ
last_label n [] = n
last_label n (r ∷ rs) = last_label r.label rs

-- the first word of the guards and the body that is a variable of no head
pub record FirstFree (r : Parts) (n : ℕ) : Type 0 where
  pub word : ℕ
  pub stands : Nth (tail_words r) n word
  pub unbound : free r word ≡ true
  pub first : AllByRecursion (λ w. free r w ≡ false) (take n (tail_words r))

-- where the words of the i-th rule begin, counted from 0
abbrev pub rule_at : List Parts → ℕ → ℕ
rule_at rs i = length (flat_map rule_words (take i rs))
