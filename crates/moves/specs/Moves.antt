-- What moving one fact from a list to a store does, by what waits and what the places hold.
use Rattle.std.specs.Prelude.{◌≡◌, ℕ, suc, ◌<◌, List, [], ◌++◌, length, take, drop, Ok, Err, Result, slice_set}
use Rattle.facts.specs.Lists.{Nth}
use Rattle.facts.specs.Meanings.{Meaning}
use Rattle.facts.specs.Places.{Place, empty, held}
use Rattle.stores.specs.Stores.{empties}
use Rattle.moves.specs.declared.Refusal.{Refusal}
use Rattle.moves.specs.declared.Refusal.TheVariants.{NoneWaits, NumberZero, NoRoom}

-- the first reason to refuse, in the order none waits, number 0, no room
abbrev pub Refused : List Meaning → List (Place Meaning) → ℕ → Refusal → Type 0
Refused w s n NoneWaits = w ≡ []
Refused w s n NumberZero = (0 < length w) × (n ≡ 0)
Refused w s n NoRoom = (0 < length w) × (0 < n) × (empties s ≡ 0)

-- a refusal changes nothing; else one waiting fact stands in a place that was empty, under the number
abbrev pub Moved :
    List Meaning → List (Place Meaning) → ℕ → Result ℕ Refusal → List Meaning → List (Place Meaning) → Type 0
Moved w s n (Err e) w' s' = Refused w s n e × (w' ≡ w) × (s' ≡ s)
Moved w s n (Ok p) w' s' =
    (i : ℕ) × (m : Meaning) × (0 < n) × Nth w i m × (w' ≡ take i w ++ drop (suc i) w) × Nth s p empty × (s' ≡ slice_set s p (held n m))
