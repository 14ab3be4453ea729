-- The conditions for applying in so many words. Nothing here computes: that `verdict` decides them is proved.
use Rattle.std.specs.Prelude.{◌≡◌, ℕ, ◌⊎◌, List, [], ◌∷◌, length, ℤ, pos, ◌≤ℤ◌, ◌<ℤ◌, slice_index_or}
use Rattle.std.specs.List.{AllByRecursion}
use Rattle.facts.specs.Meanings.{Meaning}
use Rattle.grammar.specs.declared.part.Operand.TheVariants.{Var}
use Rattle.grammar.specs.declared.part.Test.{Test}
use Rattle.grammar.specs.declared.part.Test.TheVariants.{Equal, NotEqual, Less, AtMost}
use Rattle.grammar.specs.Atoms.{Head, BodyFact}
use Rattle.grammar.specs.declared.part.Term.{Term}
use Rattle.grammar.specs.declared.part.Guard.{Guard}
use Rattle.args.specs.Listed.{listed, amount}
use Rattle.grammar.specs.Parts.{Parts}
use Rattle.matching.specs.declared.verdict.Verdict.{Verdict}
use Rattle.matching.specs.declared.verdict.Verdict.TheVariants.{NoMatch, OutsideEnds, Applies}
use Rattle.matching.specs.Terms.{operand_value, term_value}
use Rattle.matching.specs.Heads.{Met, met}
use Rattle.matching.specs.Applying.{heads}

-- a fact for each head, of its name and count
abbrev pub Fit : List Head → List Meaning → Type 0
Fit [] [] = Unit {0}
Fit [] (f ∷ fs) = ⊥
Fit (h ∷ hs) [] = ⊥
Fit (h ∷ hs) (f ∷ fs) = ((h.name ≡ f.name) × (amount h.args ≡ f.count)) × Fit hs fs

-- the variable stands among the operands
abbrev pub Stands : ℕ → List Met → Type 0
Stands v [] = ⊥
Stands v (m ∷ ms) = (m.operand ≡ Var v) ⊎ Stands v ms

abbrev pub Compares : Test → ℤ → ℤ → Type 0
Compares Equal a b = a ≡ b
Compares NotEqual a b = a ≡ b → ⊥
Compares Less a b = a <ℤ b
Compares AtMost a b = a ≤ℤ b

-- heads and guards hold when the eight variables have these values
pub record Matched (r : Parts) (fs : List Meaning) (ns : List ℤ) : Type 0 where
  pub eight : length ns ≡ 8
  pub fit : Fit (heads r) fs
  -- each operand, constant or variable, is the number that it meets, wherever it stands in the heads
  pub numbers : AllByRecursion (λ (m : Met). operand_value ns m.operand ≡ m.number) (met (heads r) fs)
  -- a variable that stands in no head is 0
  pub others : (v : ℕ) → Stands v (met (heads r) fs) ⊎ (slice_index_or ns v (pos 0) ≡ pos 0)
  pub guards : AllByRecursion (λ (g : Guard). Compares g.test (term_value ns g.left) (term_value ns g.right)) r.guards

-- every body value lies between the ends
abbrev pub Inside : ℤ → ℤ → Parts → List ℤ → Type 0
Inside low high r ns =
    AllByRecursion (λ (b : BodyFact). AllByRecursion (λ (t : Term). (low ≤ℤ term_value ns t) × (term_value ns t ≤ℤ high)) (listed b.args)) r.body

-- what each verdict says
abbrev pub Decided : ℤ → ℤ → Parts → List Meaning → Verdict → Type 0
Decided low high r fs NoMatch = (ns : List ℤ) → Matched r fs ns → ⊥
Decided low high r fs OutsideEnds = (ns : List ℤ) × Matched r fs ns × (Inside low high r ns → ⊥)
Decided low high r fs Applies = (ns : List ℤ) × Matched r fs ns × Inside low high r ns
