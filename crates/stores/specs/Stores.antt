-- What a store does, by what its places hold.
use Rattle.std.specs.Prelude.{◌≡◌, ℕ, suc, ◌<◌, ◌≤◌, Bool, true, false, ◌⊎◌, List, [], ◌∷◌, length, ℤ, Some, None, Option, slice_set}
use Rattle.facts.specs.declared.fact.Fact.{Fact}
use Rattle.facts.specs.Lists.{Nth}
use Rattle.facts.specs.Meanings.{Meaning, meaning}
use Rattle.facts.specs.Places.{Place, empty, held}

-- how many places are empty
abbrev pub empties : {F : Type 0} → List (Place F) → ℕ
empties [] = 0
empties (empty ∷ s) = suc (empties s)
empties (held n f ∷ s) = empties s

-- what reading a place answers: the number and a fact of the meaning held there; none where the place is empty or past the end
abbrev pub Reads : {V : Type 0} → (V → ℤ) → List (Place Meaning) → ℕ → Option (ℕ × Fact V) → Type 0
Reads means s p None = (n : ℕ) (m : Meaning) → Nth s p (held n m) → ⊥
Reads means s p (Some x) = Nth s p (held x.0 (meaning means x.1)) × (0 < x.0) × (x.1.count ≤ 3)

-- what putting a fact of the meaning m under the number n answers, and what the places then hold
abbrev pub Placed : List (Place Meaning) → ℕ → Meaning → Option ℕ → List (Place Meaning) → Type 0
Placed s n m None s' = ((empties s ≡ 0) ⊎ ((n ≡ 0) ⊎ (3 < m.count))) × (s' ≡ s)
Placed s n m (Some p) s' = (0 < n) × (m.count ≤ 3) × Nth s p empty × (s' ≡ slice_set s p (held n m))

-- what removing the number n from the place p answers, and what the places then hold
abbrev pub Removed : List (Place Meaning) → ℕ → ℕ → Bool → List (Place Meaning) → Type 0
Removed s p n false s' = ((m : Meaning) → Nth s p (held n m) → ⊥) × (s' ≡ s)
Removed s p n true s' = (m : Meaning) × (0 < n) × Nth s p (held n m) × (s' ≡ slice_set s p empty)

-- no place from one on, below another, is empty
abbrev pub Filled : {F : Type 0} → List (Place F) → ℕ → ℕ → Type 0
Filled s from to = (k : ℕ) → from ≤ k → k < to → Nth s k empty → ⊥

-- the first empty place
abbrev pub FirstEmpty : {F : Type 0} → List (Place F) → Option ℕ → Type 0
FirstEmpty s None = Filled s 0 (length s)
FirstEmpty s (Some p) = Nth s p empty × Filled s 0 p

-- the last empty place
abbrev pub LastEmpty : {F : Type 0} → List (Place F) → Option ℕ → Type 0
LastEmpty s None = Filled s 0 (length s)
LastEmpty s (Some p) = Nth s p empty × Filled s (suc p) (length s)

-- p is the first empty place at or after the mark, going round
abbrev pub Next : {F : Type 0} → List (Place F) → ℕ → ℕ → Type 0
Next s mark p = ((mark ≤ p) × Filled s mark p) ⊎ ((p < mark) × Filled s mark (length s) × Filled s 0 p)

-- what a picker answers: an empty place and the picker after it, by its own rule; none where no place is empty
abbrev pub Picked :
    {P : Type 0} → (P → List (Place Meaning) → Option ℕ → P → Type 0) → P → List (Place Meaning) → Option (ℕ × P) → Type 0
Picked picks p s None = Filled s 0 (length s)
Picked picks p s (Some x) = Nth s x.0 empty × picks p s (Some x.0) x.1

-- the place that the flat store fills, and its mark then
abbrev pub Marked : {F : Type 0} → List (Place F) → ℕ → Option ℕ → ℕ → Type 0
Marked s mark None mark' = mark' ≡ mark
Marked s mark (Some p) mark' = Next s mark p × (mark' ≡ p)

-- the place that the packed store fills: none above it is empty
abbrev pub Highest : {F : Type 0} → List (Place F) → Option ℕ → Type 0
Highest s None = Unit {0}
Highest s (Some p) = Filled s (suc p) (length s)
