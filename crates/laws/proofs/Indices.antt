-- At which index a candidate stands.
use Rattle.std.proofs.Common.{◌≡◌, ℕ, zero, suc, ◌+◌, ◌-◌, ◌*◌, ◌^◌, ◌<◌, ◌≤◌, Bool, true, cond, List, [], ◌∷◌, ◌++◌, map, length, take, sum_by, sym, refl, ap, ◌∙◌, subst, arith}
use lib.ListN.{length-map}
use Rattle.std.specs.List.{flat_map, range_with_len, AllByRecursion}
use Rattle.std.proofs.lemmas.List.Sums.{sum_by-cons}
use Rattle.laws.specs.Rules.{Rules}
use Rattle.laws.specs.Candidates.{Candidate, tuples, ways, at_position, of_rule, candidates, block, before_position, before_rule, digits}
use Rattle.facts.specs.Lists.{Nth}
use Rattle.laws.specs.Steps.{without}
use Rattle.laws.proofs.Nths.{nth_left, nth_map, nth_counting, nth_lt, length_without}
use Rattle.laws.proofs.Widths.{length_tuples, length_ways, length_rule, length_at, sum_by_same, sum_by_same_below}

nth_after : {X : Type 0} (xs ys : List X) (n k : ℕ) (y : X) → length xs ≡ n → Nth ys k y → Nth (xs ++ ys) (n + k) y
nth_after [] ys n k y e h = subst (λ (i : ℕ). Nth ys i y) (omega arith) h
nth_after {X} (x ∷ xs) ys zero k y e h = absurd (omega arith)
nth_after {X} (x ∷ xs) ys (suc n) k y e h =
    let i : suc (n + k) ≡ suc n + k = omega arith in
    subst (λ (i : ℕ). Nth (x ∷ (xs ++ ys)) i y) i (nth_after xs ys n k y (omega arith) h)

-- in a joined list: past what comes before
nth_joined_at : {X Y : Type 0} (f : X → List Y) (xs : List X) (i : ℕ) (x : X) (k : ℕ) (y : Y) → Nth xs i x → Nth (f x) k y → Nth (flat_map f xs) (sum_by (λ (z : X). length (f z)) (take i xs) + k) y
nth_joined_at f [] i x k y h g = absurd h
nth_joined_at {X} {Y} f (z ∷ xs) zero x k y h g =
    subst (λ (i : ℕ). Nth (f z ++ flat_map f xs) i y) (omega arith) (nth_left (f z) (flat_map f xs) k y (subst (λ (w : X). Nth (f w) k y) (sym h) g))
nth_joined_at {X} f (z ∷ xs) (suc i) x k y h g =
    let a = nth_after (f z) (flat_map f xs) (length (f z)) (sum_by (λ (w : X). length (f w)) (take i xs) + k) y refl (nth_joined_at f xs i x k y h g) in
    let b = sum_by-cons (λ (w : X). length (f w)) z (take i xs) in
    subst (λ (n : ℕ). Nth (f z ++ flat_map f xs) n y) (omega arith) a

take_counting : (a n i : ℕ) → i ≤ n → take i (range_with_len a n) ≡ range_with_len a i
take_counting a n zero h = refl
take_counting a zero (suc i) h = absurd (omega arith)
take_counting a (suc n) (suc i) h = ap (λ (z : List ℕ). a ∷ z) (take_counting (a + 1) n i (omega arith))

nth_blocks : (P a m : ℕ) (tails : List (List ℕ)) (p k : ℕ) (ps : List ℕ) → length tails ≡ m → p < P → Nth tails k ps → Nth (flat_map (λ (q : ℕ). map (λ (qs : List ℕ). q ∷ qs) tails) (range_with_len a P)) (p * m + k) ((a + p) ∷ ps)
nth_blocks zero a m tails p k ps e l h = absurd (omega arith)
nth_blocks (suc P) a m tails zero k ps e l h =
    let f : ℕ → List (List ℕ) = λ (q : ℕ). map (λ (qs : List ℕ). q ∷ qs) tails in
    let b : Nth (f a) k (a ∷ ps) = nth_map (λ (qs : List ℕ). a ∷ qs) tails k ps h in
    let c = nth_left (f a) (flat_map f (range_with_len (a + 1) P)) k (a ∷ ps) b in
    let d = subst (λ (z : ℕ). Nth (f a ++ flat_map f (range_with_len (a + 1) P)) k (z ∷ ps)) (omega arith) c in
    subst (λ (i : ℕ). Nth (f a ++ flat_map f (range_with_len (a + 1) P)) i ((a + 0) ∷ ps)) (omega arith) d
nth_blocks (suc P) a m tails (suc p) k ps e l h =
    let f : ℕ → List (List ℕ) = λ (q : ℕ). map (λ (qs : List ℕ). q ∷ qs) tails in
    let r = nth_blocks P (a + 1) m tails p k ps e (omega arith) h in
    let c = nth_after (f a) (flat_map f (range_with_len (a + 1) P)) m (p * m + k) ((a + 1 + p) ∷ ps) (length-map tails (λ (qs : List ℕ). a ∷ qs) ∙ e) r in
    let ea : a + 1 + p ≡ a + suc p = omega arith in
    let d = subst (λ (z : ℕ). Nth (f a ++ flat_map f (range_with_len (a + 1) P)) (m + (p * m + k)) (z ∷ ps)) ea c in
    subst (λ (i : ℕ). Nth (f a ++ flat_map f (range_with_len (a + 1) P)) i ((a + suc p) ∷ ps)) (omega arith) d

pub tuples_at : (P n : ℕ) (ps : List ℕ) → length ps ≡ n → AllByRecursion (λ (p : ℕ). p < P) ps → Nth (tuples P n) (digits P ps) ps
tuples_at P zero [] e a = refl
tuples_at P zero (p ∷ ps) e a = absurd (omega arith)
tuples_at P (suc n) [] e a = absurd (omega arith)
tuples_at P (suc n) (p ∷ ps) e a =
    let en : length ps ≡ n = omega arith in
    let r = nth_blocks P 0 (P ^ n) (tuples P n) p (digits P ps) ps (length_tuples P n) a.0 (tuples_at P n ps en a.1) in
    let r₁ = subst (λ (z : ℕ). Nth (tuples P (suc n)) (p * P ^ n + digits P ps) (z ∷ ps)) (omega arith) r in
    subst (λ (z : ℕ). Nth (tuples P (suc n)) (p * P ^ z + digits P ps) (p ∷ ps)) (sym en) r₁

pub ways_at : (P own n j : ℕ) (ps : List ℕ) → length ps ≡ n → AllByRecursion (λ (p : ℕ). p < P) ps → Nth ps j own → Nth (ways P own n j) (digits P (without j ps)) ps
ways_at P own n j [] e a h = absurd h
ways_at P own zero j (p ∷ ps) e a h = absurd (omega arith)
ways_at P own (suc n) zero (p ∷ ps) e a h =
    subst (λ (w : ℕ). Nth (map (λ (qs : List ℕ). own ∷ qs) (tuples P n)) (digits P ps) (w ∷ ps)) (sym h)
    (nth_map (λ (qs : List ℕ). own ∷ qs) (tuples P n) (digits P ps) ps (tuples_at P n ps (omega arith) a.1))
ways_at P own (suc n) (suc j) (p ∷ ps) e a h =
    let en : length ps ≡ n = omega arith in
    let jn = nth_lt ps j own h in
    let ln = length_without j ps own h in
    let ew : n - 1 ≡ length (without j ps) = omega arith in
    let r = nth_blocks P 0 (P ^ (n - 1)) (ways P own n j) p (digits P (without j ps)) ps (length_ways P own n j (omega arith)) a.0 (ways_at P own n j ps en a.1 h) in
    let r₁ = subst (λ (z : ℕ). Nth (ways P own (suc n) (suc j)) (p * P ^ (n - 1) + digits P (without j ps)) (z ∷ ps)) (omega arith) r in
    subst (λ (z : ℕ). Nth (ways P own (suc n) (suc j)) (p * P ^ z + digits P (without j ps)) (p ∷ ps)) ew r₁

module _ {F R : Type 0} (T : Rules F R) where
  pub candidate_at : (P own : ℕ) (f : F) (i : ℕ) (r : R) (j : ℕ) (ps : List ℕ) → Nth T.table i r → j < T.heads r → T.fits r j f ≡ true → length ps ≡ T.heads r → AllByRecursion (λ (p : ℕ). p < P) ps → Nth ps j own → Nth (candidates T P own f) (before_rule T P f i + (before_position T P f r j + digits P (without j ps))) (record { rule = r; pos = j; places = ps })
  candidate_at P own f i r j ps at-r lt fit long low at_own =
      let t : Candidate R = record { rule = r; pos = j; places = ps } in
      let ws : List (Candidate R) = map (λ (qs : List ℕ). record { rule = r; pos = j; places = qs }) (ways P own (T.heads r) j) in
      let v = digits P (without j ps) in
      let here : Nth ws v t = nth_map (λ (qs : List ℕ). record { rule = r; pos = j; places = qs }) (ways P own (T.heads r) j) v ps (ways_at P own (T.heads r) j ps long low at_own) in
      let there : Nth (at_position T P own f r j) v t = subst (λ (b : Bool). Nth (cond b ws []) v t) (sym fit) here in
      let a = nth_joined_at (λ (q : ℕ). at_position T P own f r q) (range_with_len 0 (T.heads r)) j j v t (subst (λ (w : ℕ). Nth (range_with_len 0 (T.heads r)) j w) (omega arith) (nth_counting 0 (T.heads r) j lt)) there in
      let e₁ : sum_by (λ (q : ℕ). length (at_position T P own f r q)) (take j (range_with_len 0 (T.heads r))) ≡ before_position T P f r j =
      ap (λ (z : List ℕ). sum_by (λ (q : ℕ). length (at_position T P own f r q)) z) (take_counting 0 (T.heads r) j (omega arith))
      ∙ sum_by_same_below (λ (q : ℕ). length (at_position T P own f r q)) (λ (q : ℕ). block T P f r q) 0 j (λ (q : ℕ) (l : q < 0 + j). length_at T P own f r q (omega arith))
      in
      let a' : Nth (of_rule T P own f r) (before_position T P f r j + v) t = subst (λ (z : ℕ). Nth (of_rule T P own f r) (z + v) t) e₁ a in
      let b = nth_joined_at (λ (q : R). of_rule T P own f q) T.table i r (before_position T P f r j + v) t at-r a' in
      let e₂ : sum_by (λ (q : R). length (of_rule T P own f q)) (take i T.table) ≡ before_rule T P f i =
      sum_by_same (λ (q : R). length (of_rule T P own f q)) (λ (q : R). before_position T P f q (T.heads q)) (λ (q : R). length_rule T P own f q) (take i T.table)
      in
      subst (λ (z : ℕ). Nth (candidates T P own f) (z + (before_position T P f r j + v)) t) e₂ b
