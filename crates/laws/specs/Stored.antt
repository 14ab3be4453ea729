-- What stands in a store, and where.
use Rattle.std.specs.Prelude.{◌≡◌, ℕ, ◌≢◌, ◌⊎◌, List, [], ◌∷◌, slice_set}
use Rattle.std.specs.List.{AllByRecursion}
use Rattle.facts.specs.Lists.{Nth}
use Rattle.facts.specs.Places.{Place, empty, held}
use Rattle.laws.specs.Machine.{Cell}

module _ {F : Type 0} (st : List (Place F)) where
  -- a fact stands at the place under the number
  abbrev pub Stands : ℕ → ℕ → Type 0
  Stands p n = (f : F) × Nth st p (held n f)

  -- none does: the place is empty, holds another number, or is not there
  abbrev pub Gone : ℕ → ℕ → Type 0
  Gone p n = (f : F) → Nth st p (held n f) → ⊥

  -- each place holds its cell
  abbrev pub Held : List ℕ → List (Cell F) → Type 0
  Held [] [] = Unit {0}
  Held [] (c ∷ cs) = ⊥
  Held (p ∷ ps) [] = ⊥
  Held (p ∷ ps) (c ∷ cs) = Nth st p (held c.number c.fact) × Held ps cs

  -- m is the first of the numbers that does not stand in its place
  abbrev pub FirstMissing : List ℕ → List ℕ → ℕ → Type 0
  FirstMissing [] ns m = ⊥
  FirstMissing (p ∷ ps) [] m = ⊥
  FirstMissing (p ∷ ps) (n ∷ ns) m = (Gone p n × (n ≡ m)) ⊎ (Stands p n × FirstMissing ps ns m)

-- no place stands twice
abbrev pub Apart : List ℕ → Type 0
Apart [] = Unit {0}
Apart (p ∷ ps) = AllByRecursion (λ (q : ℕ). q ≢ p) ps × Apart ps

-- the places are emptied
abbrev pub cleared : {F : Type 0} → List (Place F) → List ℕ → List (Place F)
cleared st [] = st
cleared st (p ∷ ps) = cleared (slice_set st p empty) ps
