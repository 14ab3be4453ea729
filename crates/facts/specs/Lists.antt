-- What stands where in a list.
use Rattle.std.specs.Prelude.{◌≡◌, ℕ, zero, suc, List, [], ◌∷◌}

-- x stands at the index k of the list, counted from 0
abbrev pub Nth : {X : Type 0} → List X → ℕ → X → Type 0
Nth [] k x = ⊥
Nth (y ∷ ys) zero x = y ≡ x
Nth (y ∷ ys) (suc k) x = Nth ys k x
