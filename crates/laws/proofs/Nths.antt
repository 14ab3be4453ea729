-- What stands at an index of a list.
use Rattle.std.proofs.Common.{◌≡◌, ℕ, zero, suc, ◌+◌, ◌-◌, ◌<◌, ◌≤◌, Bool, true, false, cond, ◌≢◌, ◌⊎◌, List, [], ◌∷◌, ◌++◌, map, length, get_or, drop, set, replicate, sym, refl, ap, ◌∙◌, subst, inl, inr, ⊎_elim, arith}
use Rattle.std.specs.List.{flat_map, range_with_len}
use Rattle.facts.specs.Lists.{Nth}
use Rattle.laws.specs.Steps.{without}
use Rattle.laws.specs.Traces.{insert}

module _ {X : Type 0} where
  pub nth_same : (xs : List X) (k : ℕ) (x y : X) → Nth xs k x → Nth xs k y → x ≡ y
  nth_same [] k x y a b = absurd a
  nth_same (z ∷ xs) zero x y a b = sym a ∙ b
  nth_same (z ∷ xs) (suc k) x y a b = nth_same xs k x y a b

  pub nth_lt : (xs : List X) (k : ℕ) (x : X) → Nth xs k x → k < length xs
  nth_lt [] k x a = absurd a
  nth_lt (z ∷ xs) zero x a = omega arith
  nth_lt (z ∷ xs) (suc k) x a = let h = nth_lt xs k x a in omega arith

  pub nth_at : (xs : List X) (k : ℕ) → k < length xs → (x : X) × Nth xs k x
  nth_at [] k h = absurd (omega arith)
  nth_at (z ∷ xs) zero h = (z, refl)
  nth_at (z ∷ xs) (suc k) h = nth_at xs k (omega arith)

  pub nth_set_same : (xs : List X) (i : ℕ) (a b : X) → Nth xs i a → Nth (set xs i b) i b
  nth_set_same [] i a b h = absurd h
  nth_set_same (z ∷ xs) zero a b h = refl
  nth_set_same (z ∷ xs) (suc i) a b h = nth_set_same xs i a b h

  pub nth_set : (xs : List X) (i : ℕ) (b : X) (j : ℕ) (x : X) → Nth (set xs i b) j x → ((j ≢ i) × Nth xs j x) ⊎ ((j ≡ i) × (b ≡ x))
  nth_set [] i b j x h = absurd h
  nth_set (z ∷ xs) zero b zero x h = inr (refl, h)
  nth_set (z ∷ xs) zero b (suc j) x h = inl (omega arith, h)
  nth_set (z ∷ xs) (suc i) b zero x h = inl (omega arith, h)
  nth_set (z ∷ xs) (suc i) b (suc j) x h =
      ⊎_elim (λ (w : (j ≢ i) × Nth xs j x). inl ((λ (e : suc j ≡ suc i). w.0 (omega arith)), w.1)) (λ (w : (j ≡ i) × (b ≡ x)). inr (ap suc w.0, w.1)) (nth_set xs i b j x h)

  pub nth_set_other : (xs : List X) (i : ℕ) (b : X) (j : ℕ) (x : X) → Nth xs j x → j ≢ i → Nth (set xs i b) j x
  nth_set_other [] i b j x h ne = h
  nth_set_other (z ∷ xs) zero b zero x h ne = absurd (ne refl)
  nth_set_other (z ∷ xs) zero b (suc j) x h ne = h
  nth_set_other (z ∷ xs) (suc i) b zero x h ne = h
  nth_set_other (z ∷ xs) (suc i) b (suc j) x h ne = nth_set_other xs i b j x h (λ (e : j ≡ i). ne (ap suc e))

  pub nth_replicate : (n : ℕ) (a : X) (k : ℕ) (x : X) → Nth (replicate n a) k x → a ≡ x
  nth_replicate zero a k x h = absurd h
  nth_replicate (suc n) a zero x h = h
  nth_replicate (suc n) a (suc k) x h = nth_replicate n a k x h

  pub nth_left : (xs ys : List X) (k : ℕ) (x : X) → Nth xs k x → Nth (xs ++ ys) k x
  nth_left [] ys k x h = absurd h
  nth_left (z ∷ xs) ys zero x h = h
  nth_left (z ∷ xs) ys (suc k) x h = nth_left xs ys k x h

  pub nth_right : (xs ys : List X) (k : ℕ) (x : X) → Nth ys k x → (c : ℕ) × Nth (xs ++ ys) c x
  nth_right [] ys k x h = (k, h)
  nth_right (z ∷ xs) ys k x h = let r = nth_right xs ys k x h in (suc r.0, r.1)

pub nth_map : {X Y : Type 0} (f : X → Y) (xs : List X) (k : ℕ) (x : X) → Nth xs k x → Nth (map f xs) k (f x)
nth_map f [] k x h = absurd h
nth_map f (z ∷ xs) zero x h = ap f h
nth_map f (z ∷ xs) (suc k) x h = nth_map f xs k x h

pub nth_joined : {X Y : Type 0} (f : X → List Y) (xs : List X) (i : ℕ) (x : X) (k : ℕ) (y : Y) → Nth xs i x → Nth (f x) k y → (c : ℕ) × Nth (flat_map f xs) c y
nth_joined f [] i x k y h g = absurd h
nth_joined {X} {Y} f (z ∷ xs) zero x k y h g = (k, nth_left (f z) (flat_map f xs) k y (subst (λ (w : X). Nth (f w) k y) (sym h) g))
nth_joined f (z ∷ xs) (suc i) x k y h g = let r = nth_joined f xs i x k y h g in nth_right (f z) (flat_map f xs) r.0 y r.1

pub nth_counting : (a n p : ℕ) → p < n → Nth (range_with_len a n) p (a + p)
nth_counting a zero p h = absurd (omega arith)
nth_counting a (suc n) zero h = omega arith
nth_counting a (suc n) (suc p) h = let e : a + 1 + p ≡ a + suc p = omega arith in subst (λ (w : ℕ). Nth (range_with_len (a + 1) n) p w) e (nth_counting (a + 1) n p (omega arith))

module _ {X : Type 0} where
  pub nth_split : (xs ys : List X) (k : ℕ) (x : X) → Nth (xs ++ ys) k x → ((i : ℕ) × Nth xs i x) ⊎ ((i : ℕ) × Nth ys i x)
  nth_split [] ys k x h = inr (k, h)
  nth_split (z ∷ xs) ys zero x h = inl (zero, h)
  nth_split (z ∷ xs) ys (suc k) x h =
      ⊎_elim (λ (w : (i : ℕ) × Nth xs i x). inl (suc w.0, w.1)) (λ (w : (i : ℕ) × Nth ys i x). inr w) (nth_split xs ys k x h)

pub from_map : {X Y : Type 0} (f : X → Y) (xs : List X) (k : ℕ) (y : Y) → Nth (map f xs) k y → (x : X) × Nth xs k x × (f x ≡ y)
from_map f [] k y h = absurd h
from_map f (z ∷ xs) zero y h = (z, refl, h)
from_map f (z ∷ xs) (suc k) y h = from_map f xs k y h

pub from_joined : {X Y : Type 0} (f : X → List Y) (xs : List X) (k : ℕ) (y : Y) → Nth (flat_map f xs) k y → (x : X) × ((i : ℕ) × Nth xs i x) × ((i : ℕ) × Nth (f x) i y)
from_joined f [] k y h = absurd h
from_joined {X} {Y} f (z ∷ xs) k y h =
    ⊎_elim
    (λ (w : (i : ℕ) × Nth (f z) i y). (z, (0, refl), w))
    (λ (w : (i : ℕ) × Nth (flat_map f xs) i y). let r = from_joined f xs w.0 y w.1 in (r.0, (suc r.1.0, r.1.1), r.2))
    (nth_split (f z) (flat_map f xs) k y h)

pub nth_cond : {X : Type 0} (b : Bool) (xs : List X) (k : ℕ) (x : X) → Nth (cond b xs []) k x → Nth xs k x
nth_cond true xs k x h = h
nth_cond false xs k x h = absurd h

pub get_or_nth : {X : Type 0} (xs : List X) (k : ℕ) (x d : X) → Nth xs k x → get_or xs k d ≡ x
get_or_nth [] k x d h = absurd h
get_or_nth (y ∷ xs) zero x d h = h
get_or_nth (y ∷ xs) (suc k) x d h = get_or_nth xs k x d h

-- what is left of a list
pub nth_drop : {X : Type 0} (k j : ℕ) (xs : List X) (x : X) → k ≤ j → Nth xs j x → Nth (drop k xs) (j - k) x
nth_drop zero j xs x le h = subst (λ (w : ℕ). Nth xs w x) (omega arith) h
nth_drop (suc k) j [] x le h = absurd h
nth_drop (suc k) zero (y ∷ xs) x le h = absurd (omega arith)
nth_drop (suc k) (suc j) (y ∷ xs) x le h =
    subst (λ (w : ℕ). Nth (drop k xs) w x) (omega arith) (nth_drop k j xs x (omega arith) h)

pub nth_of_drop : {X : Type 0} (xs : List X) (k : ℕ) (x : X) (ys : List X) → drop k xs ≡ x ∷ ys → Nth xs k x
nth_of_drop {X} [] zero x ys e = let z : 0 ≡ suc (length ys) = ap length e in absurd (omega arith)
nth_of_drop {X} [] (suc k) x ys e = let z : 0 ≡ suc (length ys) = ap length e in absurd (omega arith)
nth_of_drop (y ∷ xs) zero x ys e = cc
nth_of_drop (y ∷ xs) (suc k) x ys e = nth_of_drop xs k x ys e

pub drop_end : {X : Type 0} (xs : List X) (k : ℕ) → drop k xs ≡ [] → length xs ≤ k
drop_end [] k e = omega arith
drop_end {X} (y ∷ xs) zero e = let z : suc (length xs) ≡ 0 = ap length e in absurd (omega arith)
drop_end (y ∷ xs) (suc k) e = let z = drop_end xs k e in omega arith

-- one element out, and in again
module _ {X : Type 0} where
  pub length_without : (j : ℕ) (xs : List X) (x : X) → Nth xs j x → length (without j xs) + 1 ≡ length xs
  length_without j [] x h = absurd h
  length_without zero (y ∷ xs) x h = omega arith
  length_without (suc j) (y ∷ xs) x h = let e = length_without j xs x h in omega arith

  pub insert_without : (j : ℕ) (xs : List X) (x : X) → Nth xs j x → insert j x (without j xs) ≡ xs
  insert_without j [] x h = absurd h
  insert_without zero (y ∷ xs) x h = ap (λ (z : X). z ∷ xs) (sym h)
  insert_without (suc j) (y ∷ xs) x h = ap (λ (z : List X). y ∷ z) (insert_without j xs x h)
