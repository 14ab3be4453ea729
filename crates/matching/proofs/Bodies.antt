-- The body's facts by their index.
use Rattle.std.proofs.Common.{◌≡◌, ℕ, zero, suc, ◌<◌, List, [], ◌∷◌, map, length, get_or, sym, arith}
use Rattle.facts.specs.Lists.{Nth}

pub nth_map : {X Y : Type 0} (f : X → Y) (xs : List X) (i : ℕ) (d : X) (y : Y) → i < length xs → y ≡ f (get_or xs i d) → Nth (map f xs) i y
nth_map f [] i d y l e = absurd (omega arith)
nth_map f (x ∷ xs) zero d y l e = sym e
nth_map f (x ∷ xs) (suc i) d y l e = nth_map f xs i d y (omega arith) e
