-- How many candidates there are: W.
use Rattle.std.proofs.Common.{◌≡◌, ℕ, zero, suc, ◌+◌, ◌-◌, ◌*◌, ◌^◌, ◌<◌, Bool, true, false, cond, List, [], ◌∷◌, map, length, sum_by, sym, refl, ap, ◌∙◌, arith, length-append}
use native.Mathlib.Nat.{pow-zero, pow-succ'}
use lib.ListN.{length-map}
use Rattle.std.specs.List.{flat_map, range_with_len}
use Rattle.std.proofs.lemmas.List.Sums.{sum_by-cons}
use Rattle.std.proofs.lemmas.List.FromFn.{length-range_with_len}
use Rattle.laws.specs.Rules.{Rules}
use Rattle.laws.specs.Candidates.{tuples, ways, at_position, of_rule, candidates, W}

length_joined : {X Y : Type 0} (f : X → List Y) (xs : List X) → length (flat_map f xs) ≡ sum_by (λ (x : X). length (f x)) xs
length_joined f [] = refl
length_joined {X} f (x ∷ xs) =
    let a = length-append (f x) (flat_map f xs) in
    let b = length_joined f xs in
    let d = sum_by-cons (λ (y : X). length (f y)) x xs in
    omega arith

pub sum_by_same : {X : Type 0} (f g : X → ℕ) → ((x : X) → f x ≡ g x) → (xs : List X) → sum_by f xs ≡ sum_by g xs
sum_by_same f g h [] = refl
sum_by_same f g h (x ∷ xs) =
    let a = sum_by-cons f x xs in
    let b = sum_by-cons g x xs in
    let d = sum_by_same f g h xs in
    let e = h x in
    omega arith

sum_by_const : {X : Type 0} (m : ℕ) (xs : List X) → sum_by (λ (x : X). m) xs ≡ length xs * m
sum_by_const m [] = omega arith
sum_by_const {X} m (x ∷ xs) =
    let a = sum_by-cons (λ (y : X). m) x xs in
    let d = sum_by_const m xs in
    omega arith

length_each_more : (P m : ℕ) (tails : List (List ℕ)) → length tails ≡ m → length (flat_map (λ (p : ℕ). map (λ (ps : List ℕ). p ∷ ps) tails) (range_with_len 0 P)) ≡ P * m
length_each_more P m tails h =
    let f : ℕ → List (List ℕ) = λ (p : ℕ). map (λ (ps : List ℕ). p ∷ ps) tails in
    let a = length_joined f (range_with_len 0 P) in
    let b = sum_by_same (λ (p : ℕ). length (f p)) (λ (p : ℕ). m) (λ (p : ℕ). length-map tails (λ (ps : List ℕ). p ∷ ps) ∙ h) (range_with_len 0 P) in
    let d = sum_by_const m (range_with_len 0 P) in
    let e : length (range_with_len 0 P) * m ≡ P * m = ap (λ (z : ℕ). z * m) (length-range_with_len 0 P) in
    a ∙ b ∙ d ∙ e

pub length_tuples : (P n : ℕ) → length (tuples P n) ≡ P ^ n
length_tuples P zero = sym (pow-zero P)
length_tuples P (suc n) = length_each_more P (P ^ n) (tuples P n) (length_tuples P n) ∙ sym (pow-succ' P n)

pub length_ways : (P own n j : ℕ) → j < n → length (ways P own n j) ≡ P ^ (n - 1)
length_ways P own zero j h = absurd (omega arith)
length_ways P own (suc n) zero h =
    length-map (tuples P n) (λ (ps : List ℕ). own ∷ ps) ∙ length_tuples P n ∙ ap (λ (z : ℕ). P ^ z) (omega arith)
length_ways P own (suc zero) (suc j) h = absurd (omega arith)
length_ways P own (suc (suc n)) (suc j) h =
    let e : suc n - 1 ≡ n = omega arith in
    let e' : suc n ≡ suc (suc n) - 1 = omega arith in
    length_each_more P (P ^ n) (ways P own (suc n) j) (length_ways P own (suc n) j (omega arith) ∙ ap (λ (z : ℕ). P ^ z) e)
    ∙ sym (pow-succ' P n) ∙ ap (λ (z : ℕ). P ^ z) e'

pub sum_by_same_below : (f g : ℕ → ℕ) (a n : ℕ) → ((x : ℕ) → x < a + n → f x ≡ g x) → sum_by f (range_with_len a n) ≡ sum_by g (range_with_len a n)
sum_by_same_below f g a zero h = refl
sum_by_same_below f g a (suc n) h =
    let p = sum_by-cons f a (range_with_len (a + 1) n) in
    let q = sum_by-cons g a (range_with_len (a + 1) n) in
    let d = sum_by_same_below f g (a + 1) n (λ x l. h x (omega arith)) in
    let e = h a (omega arith) in
    omega arith

length_cond : {X : Type 0} (b : Bool) (xs : List X) (m : ℕ) → length xs ≡ m → length (cond b xs []) ≡ cond b m 0
length_cond true xs m h = h
length_cond false xs m h = refl

module _ {F R : Type 0} (T : Rules F R) where
  pub length_at : (P own : ℕ) (f : F) (r : R) (j : ℕ) → j < T.heads r → length (at_position T P own f r j) ≡ cond (T.fits r j f) (P ^ (T.heads r - 1)) 0
  length_at P own f r j l =
      length_cond (T.fits r j f) (map (λ (ps : List ℕ). record { rule = r; pos = j; places = ps }) (ways P own (T.heads r) j)) (P ^ (T.heads r - 1))
      (length-map (ways P own (T.heads r) j) (λ (ps : List ℕ). record { rule = r; pos = j; places = ps }) ∙ length_ways P own (T.heads r) j l)

  pub length_rule : (P own : ℕ) (f : F) (r : R) → length (of_rule T P own f r) ≡ sum_by (λ (j : ℕ). cond (T.fits r j f) (P ^ (T.heads r - 1)) 0) (range_with_len 0 (T.heads r))
  length_rule P own f r =
      length_joined (λ (j : ℕ). at_position T P own f r j) (range_with_len 0 (T.heads r))
      ∙ sum_by_same_below (λ (j : ℕ). length (at_position T P own f r j)) (λ (j : ℕ). cond (T.fits r j f) (P ^ (T.heads r - 1)) 0) 0 (T.heads r)
      (λ (j : ℕ) (l : j < 0 + T.heads r). length_at P own f r j (omega arith))

  pub length_candidates : (P own : ℕ) (f : F) → length (candidates T P own f) ≡ W T P f
  length_candidates P own f =
      length_joined (λ (r : R). of_rule T P own f r) T.table
      ∙ sum_by_same (λ (r : R). length (of_rule T P own f r)) (λ (r : R). sum_by (λ (j : ℕ). cond (T.fits r j f) (P ^ (T.heads r - 1)) 0) (range_with_len 0 (T.heads r))) (λ (r : R). length_rule P own f r) T.table
