-- What stands at an index of a list.
use Rattle.std.proofs.Common.{ℕ, zero, suc, ◌<◌, List, [], ◌∷◌, length, get_or, refl, subst, arith}
use Rattle.std.specs.List.{AllByRecursion}
use Rattle.facts.specs.Lists.{Nth}

pub nth_within : {A : Type 0} (xs : List A) (k : ℕ) (x : A) → Nth xs k x → k < length xs
nth_within [] k x h = absurd h
nth_within (y ∷ ys) zero x h = omega arith
nth_within (y ∷ ys) (suc k) x h = let g = nth_within ys k x h in omega arith

pub nth_get_or : {A : Type 0} (xs : List A) (k : ℕ) (d : A) → k < length xs → Nth xs k (get_or xs k d)
nth_get_or [] k d h = absurd (omega arith)
nth_get_or (x ∷ xs) zero d h = refl
nth_get_or (x ∷ xs) (suc k) d h = nth_get_or xs k d (omega arith)

pub all_nth : {A : Type 0} (P : A → Type 0) (xs : List A) (k : ℕ) (x : A) → AllByRecursion P xs → Nth xs k x → P x
all_nth P [] k x a n = absurd n
all_nth P (y ∷ ys) zero x a n = subst P n a.0
all_nth P (y ∷ ys) (suc k) x a n = all_nth P ys k x a.1 n
