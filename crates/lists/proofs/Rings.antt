-- A list read going round.
use Rattle.std.proofs.Common.{◌≡◌, ℕ, suc, ◌+◌, ◌-◌, ◌<◌, ◌≤◌, min, cond, List, [], ◌∷◌, ◌++◌, map, length, get_or, take, drop, set, sym, refl, ap, ◌∙◌, ⊎_elim, append_assoc, append-nil, arith, length-append, length-drop, length-set, length-take}
use lib.Seq.{take-set-lt}
use Rattle.std.proofs.lemmas.List.{take_all, drop_all, take_more, drop_more, drop-set-add, drop-set-lt, take-set-le, set-append_left, set-append_right, get_or-drop, get_or-take, get_or_append_left, get_or-append_right}
use Rattle.std.proofs.lemmas.Bool.{cases_lt, lt-ltb, le-ltb}
use Rattle.lists.proofs.Fronts.{front_first, front_last}
use Rattle.lists.specs.Built.{rotated, ring_start, Slot}

pub rotated_length : {X : Type 0} (k : ℕ) (xs : List X) → length (rotated k xs) ≡ length xs
rotated_length k xs = simp (length-append, length-drop, length-take) (omega arith)

start_in : (k n : ℕ) → k < n → ring_start k n ≡ k
start_in k n h = ap (λ (b : _). cond b k 0) (lt-ltb k n h)

start_out : (k n : ℕ) → n ≤ k → ring_start k n ≡ 0
start_out k n h = ap (λ (b : _). cond b k 0) (le-ltb k n h)

pub start_below : (k n : ℕ) → 0 < n → ring_start k n < n
start_below k n p =
    ⊎_elim (λ h. omega (arith, start_in k n h)) (λ h. omega (arith, start_out k n h)) (cases_lt k n)

-- from its end on is from its start on
pub rotated_start : {X : Type 0} (k : ℕ) (xs : List X) → rotated k xs ≡ rotated (ring_start k (length xs)) xs
rotated_start {X} k xs =
    ⊎_elim
    (λ h. let e = start_in k (length xs) h in rw e refl)
    (λ h.
    let e = start_out k (length xs) h in
    let t = take_all k xs h in
    let d = drop_all k xs h in
    rw (e, t, d) (sym (append-nil xs)))
    (cases_lt k (length xs))

module _ {X : Type 0} (s n r : ℕ) (xs : List X) (x : X) (l : s < length xs) (m : n < length xs) where
  set_near : r ≡ s + n → r < length xs → rotated s (set xs r x) ≡ set (rotated s xs) n x
  set_near e h =
      let a : n < length (drop s xs) = simp length-drop (omega arith) in
      let d = drop-set-add s xs n x in
      let t = take-set-le s xs (s + n) x (omega arith) in
      let q = set-append_left (drop s xs) (take s xs) n x a in
      cc

  set_far : r + length xs ≡ s + n → rotated s (set xs r x) ≡ set (rotated s xs) n x
  set_far e =
      let h : r < s = omega arith in
      let g : n - (length xs - s) ≡ r = omega arith in
      let d = drop-set-lt s xs r x h in
      let t = take-set-lt s xs r x h in
      let q = set-append_right (drop s xs) (take s xs) (length xs - s) n x (length-drop s xs) (omega arith) in
      cc

-- a write at a slot is a write at its position
pub rotated_set : {X : Type 0} (first n r capacity : ℕ) (xs : List X) (x : X) → capacity ≡ length xs → n < capacity → Slot first n capacity r → rotated first (set xs r x) ≡ set (rotated first xs) n x
rotated_set first n r capacity xs x c m h =
    let s = ring_start first capacity in
    let l : s < length xs = omega (arith, start_below first capacity (omega arith)) in
    let n' : n < length xs = omega arith in
    let a = rotated_start first (set xs r x) in
    let b = rotated_start first xs in
    let len = length-set xs r x in
    let i : r < length xs = omega (arith, h.0) in
    let k : rotated s (set xs r x) ≡ set (rotated s xs) n x =
    ⊎_elim (λ e. set_near s n r xs x l n' e i) (λ e. set_far s n r xs x l n' (omega arith)) h.1 in
    cc

module _ {X : Type 0} (s n r : ℕ) (xs : List X) (d : X) (l : s < length xs) (m : n < length xs) where
  get_near : r ≡ s + n → r < length xs → get_or (rotated s xs) n d ≡ get_or xs r d
  get_near e h =
      let a : n < length (drop s xs) = simp length-drop (omega arith) in
      let q = get_or_append_left (drop s xs) (take s xs) d n a in
      let t = get_or-drop s xs n d in
      cc

  get_far : r + length xs ≡ s + n → get_or (rotated s xs) n d ≡ get_or xs r d
  get_far e =
      let h : r < s = omega arith in
      let g : n - (length xs - s) ≡ r = omega arith in
      let q = get_or-append_right (drop s xs) (take s xs) (length xs - s) n d (length-drop s xs) (omega arith) in
      let t = get_or-take s xs r d h in
      cc

-- what stands at a slot stands at its position
pub rotated_get : {X : Type 0} (first n r capacity : ℕ) (xs : List X) (d : X) → capacity ≡ length xs → n < capacity → Slot first n capacity r → get_or (rotated first xs) n d ≡ get_or xs r d
rotated_get first n r capacity xs d c m h =
    let s = ring_start first capacity in
    let l : s < length xs = omega (arith, start_below first capacity (omega arith)) in
    let n' : n < length xs = omega arith in
    let b = rotated_start first xs in
    let i : r < length xs = omega (arith, h.0) in
    let k : get_or (rotated s xs) n d ≡ get_or xs r d =
    ⊎_elim (λ e. get_near s n r xs d l n' e i) (λ e. get_far s n r xs d l n' (omega arith)) h.1 in
    cc

-- what comes after the first
pub ring_rest : {X : Type 0} → ℕ → List X → List X
ring_rest k xs = drop (k + 1) xs ++ take k xs

-- the first one, and the list read from the next one on
pub rotated_first : {X : Type 0} (k : ℕ) (xs : List X) (d : X) → k < length xs → rotated k xs ≡ get_or xs k d ∷ ring_rest k xs
unfolding ring_rest
rotated_first k xs d h = let e = drop_more xs k d h in cc

pub rotated_next : {X : Type 0} (k : ℕ) (xs : List X) (d : X) → k < length xs → rotated (k + 1) xs ≡ ring_rest k xs ++ get_or xs k d ∷ []
unfolding ring_rest
rotated_next k xs d h =
    let t = take_more xs k d h in
    let a = append_assoc (drop (k + 1) xs) (take k xs) (get_or xs k d ∷ []) in
    cc

-- the first of a ring apart: it stands at the slot of position 0, and the ring then starts after it
pub ring_first : {X Y : Type 0} (f : X → Y) (first r capacity n k : ℕ) (xs : List X) (d : X) → capacity ≡ length xs → 0 < capacity → Slot first 0 capacity r → k ≡ min n (length xs) → 0 < k → map f (take n (rotated first xs)) ≡ f (get_or xs r d) ∷ map f (take (k - 1) (rotated (r + 1) xs))
ring_first f first r capacity n k xs d c p h e q =
    let s = ring_start first capacity in
    let b = start_below first capacity p in
    let same : r ≡ s = ⊎_elim (λ i. omega arith) (λ i. absurd (omega arith)) h.1 in
    let l : r < length xs = omega (arith, h.0) in
    let start = rotated_start first xs in
    let one = rotated_first r xs d l in
    let next = rotated_next r xs d l in
    let len = ap length one ∙ refl in
    let all = rotated_length r xs in
    let m : k ≡ min n (suc (length (ring_rest r xs))) = omega arith in
    let t = front_first f n k (get_or xs r d) (ring_rest r xs) m q in
    cc

-- the last of a ring apart: it stands at the slot of the last position
pub ring_last : {X Y : Type 0} (f : X → Y) (first r capacity n k : ℕ) (xs : List X) (d : X) → capacity ≡ length xs → Slot first (k - 1) capacity r → k ≡ min n (length xs) → 0 < k → map f (take n (rotated first xs)) ≡ map f (take (k - 1) (rotated first xs)) ++ f (get_or xs r d) ∷ []
ring_last f first r capacity n k xs d c h e q =
    let len = rotated_length first xs in
    let m : k ≡ min n (length (rotated first xs)) = omega arith in
    let g = rotated_get first (k - 1) r capacity xs d c (omega arith) h in
    let t = front_last f n k (rotated first xs) d m q in
    cc
