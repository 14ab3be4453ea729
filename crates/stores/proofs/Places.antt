-- What stands at a place, from the cells of a memory.
use Rattle.std.proofs.Common.{◌≡◌, ℕ, zero, suc, ◌+◌, ◌-◌, ◌<◌, ◌≤◌, min, true, false, ◌⊎◌, List, [], ◌∷◌, ◌++◌, map, length, get_or, take, drop, set, ℤ, Some, None, Option, is_some, IfSome, MatchOption, Bor, nat_lt, sym, refl, ap, ◌∙◌, subst, inl, inr, ⊎_elim, arith, length-take, length-drop, length-append}
use lib.ListN.{length-map}
use lib.Seq.{take-set-lt}
use borrow.Author.Tests.{ltb-true, ltb-false}
use Rattle.std.proofs.lemmas.List.{map-set, map-append, take-append-drop, take_min, drop_min, take_at, drop_at, get_or_default}
use Rattle.std.proofs.lemmas.Bool.{cases_lt}
use Rattle.facts.proofs.Nths.{nth_within}
use Rattle.facts.specs.Lists.{Nth}
use Rattle.facts.specs.Places.{Place, empty, held}
use Rattle.facts.specs.declared.fact.Fact.{Fact}
use Rattle.facts.specs.Meanings.{Meaning}
use Rattle.stores.specs.Cells.{places_of, is_empty, Beyond, Numbered, Holds}
use Rattle.stores.specs.Stores.{empties, Filled, FirstEmpty, LastEmpty, Marked, Reads}

-- one thing stands at an index
nth_one : {X : Type 0} (xs : List X) (k : ℕ) (x y : X) → Nth xs k x → Nth xs k y → x ≡ y
nth_one [] k x y a b = absurd a
nth_one (z ∷ xs) zero x y a b = sym a ∙ b
nth_one (z ∷ xs) (suc k) x y a b = nth_one xs k x y a b

nth_map : {X Y : Type 0} (f : X → Y) (xs : List X) (k : ℕ) (x : X) → k < length xs → x ≡ get_or xs k x → Nth (map f xs) k (f x)
nth_map f [] k x h e = absurd (omega arith)
nth_map f (y ∷ xs) zero x h e = ap f (sym e)
nth_map f (y ∷ xs) (suc k) x h e = nth_map f xs k x (omega arith) e

-- what stands in the first part of a list, and in the second
nth_front : {X : Type 0} (xs ys : List X) (k : ℕ) (x : X) → Nth xs k x → Nth (xs ++ ys) k x
nth_front [] ys k x a = absurd a
nth_front (z ∷ xs) ys zero x a = a
nth_front (z ∷ xs) ys (suc k) x a = nth_front xs ys k x a

nth_back : {X : Type 0} (xs ys : List X) (k j : ℕ) (x : X) → length xs + j ≡ k → Nth ys j x → Nth (xs ++ ys) k x
nth_back [] ys k j x e a = let f : j ≡ k = omega arith in subst (λ (i : ℕ). Nth ys i x) f a
nth_back (z ∷ xs) ys zero j x e a = absurd (omega arith)
nth_back (z ∷ xs) ys (suc k) j x e a = nth_back xs ys k j x (omega arith) a

nth_in_front : {X : Type 0} (xs ys : List X) (k : ℕ) (x : X) → k < length xs → Nth (xs ++ ys) k x → Nth xs k x
nth_in_front [] ys k x h a = absurd (omega arith)
nth_in_front (z ∷ xs) ys zero x h a = a
nth_in_front (z ∷ xs) ys (suc k) x h a = nth_in_front xs ys k x (omega arith) a

nth_in_back : {X : Type 0} (xs ys : List X) (k j : ℕ) (x : X) → length xs + j ≡ k → Nth (xs ++ ys) k x → Nth ys j x
nth_in_back [] ys k j x e a = let f : k ≡ j = omega arith in subst (λ (i : ℕ). Nth ys i x) f a
nth_in_back (z ∷ xs) ys zero j x e a = absurd (omega arith)
nth_in_back (z ∷ xs) ys (suc k) j x e a = nth_in_back xs ys k j x (omega arith) a

-- an empty place holds nothing
empty_held : {F : Type 0} (p : Place F) (n : ℕ) (f : F) → p ≡ empty → p ≡ held n f → ⊥
empty_held p n f a b = cc

-- a place is asked whether it is empty
empty_true : {F : Type 0} (p : Place F) → is_empty p ≡ true → p ≡ empty
empty_true empty e = refl
empty_true (held n f) e = cc

empty_false : {F : Type 0} (p : Place F) → is_empty p ≡ false → p ≡ empty → ⊥
empty_false empty e h = cc
empty_false (held n f) e h = cc

-- a number 0 is read exactly at an empty place
pub numbered_empty : {F : Type 0} (p : Place F) (r : ℕ) → Numbered p r → r ≡ 0 → p ≡ empty
numbered_empty empty r h e = refl
numbered_empty (held n f) r h e = absurd (omega (arith, h.0, h.1))

pub numbered_full : {F : Type 0} (p : Place F) (r : ℕ) → Numbered p r → (r ≡ 0 → ⊥) → p ≡ empty → ⊥
numbered_full empty r h n e = n h
numbered_full (held k f) r h n e = cc

-- the number read is the number held
numbered_same : {F : Type 0} (p : Place F) (r n : ℕ) (f : F) → Numbered p r → p ≡ held n f → (0 < n) × (r ≡ n)
numbered_same empty r n f h e = cc
numbered_same (held k g) r n f h e = let s : k ≡ n = cc in (omega (arith, h.0), omega (arith, h.1))

numbered_held : {F : Type 0} (p : Place F) (r : ℕ) → Numbered p r → 0 < r → (f : F) × (p ≡ held r f)
numbered_held empty r h l = absurd (omega arith)
numbered_held (held n f) r h l = let e = h.1 in (f, cc)

module _ {C F : Type 0} (place : C → Place F) where
  -- what is read in the cells that are used stands at the place
  used_nth : (memory cs : List C) (k : ℕ) (x : C) → cs ≡ take 4096 memory → k < length cs → x ≡ get_or cs k x → Nth (places_of place memory) k (place x)
  used_nth memory cs k x e h i = let P : List C → Type 0 = λ zs. Nth (map place zs) k (place x) in subst P e (nth_map place cs k x h i)

  used_length : (memory cs : List C) → cs ≡ take 4096 memory → length (places_of place memory) ≡ length cs
  used_length memory cs e = length-map (take 4096 memory) place ∙ ap length (sym e)

  -- what `get` reads in the cells that are used
  pub found_at :
      (memory cs : List C) (k : ℕ) (r : Option (Bor C)) → cs ≡ take 4096 memory → is_some r ≡ nat_lt k (length cs) → IfSome r (λ x. x.now ≡ get_or cs k x.now) →
      MatchOption r (length (places_of place memory) ≤ k) (λ x. Nth (places_of place memory) k (place x.now))
  found_at memory cs k None e t i = let l = used_length memory cs e in let u = ltb-false _ _ (sym t) in omega arith
  found_at memory cs k (Some x) e t i = used_nth memory cs k x.now e (ltb-true _ _ (sym t)) i

  -- a place is a cell of the memory, among the first 4,096
  pub places_in : (memory : List C) (k : ℕ) → k < length (places_of place memory) → (k < length memory) × (k < 4096)
  places_in memory k h =
      let l = used_length memory (take 4096 memory) refl in
      let t = length-take 4096 memory in
      (omega arith, omega arith)

  pub places_set : (memory : List C) (k : ℕ) (x : C) → k < 4096 → places_of place (set memory k x) ≡ set (places_of place memory) k (place x)
  places_set memory k x h = ap (map place) (take-set-lt 4096 memory k x h) ∙ map-set place (take 4096 memory) k x

  -- the first cells written anew
  pub places_anew : (memory cs : List C) (n : ℕ) → n ≡ min 4096 (length memory) → length cs ≡ n → places_of place (cs ++ drop n memory) ≡ map place cs
  places_anew memory cs n e l =
      let m : min 4096 (length (cs ++ drop n memory)) ≡ n = simp (length-append, length-drop) (omega arith) in
      ap (map place)
      (sym (take_min 4096 (cs ++ drop n memory))
      ∙ ap (λ (k : ℕ). take k (cs ++ drop n memory)) m
      ∙ take_at cs (drop n memory) n l)

  -- cells that are not empty, read by their index
  filled_from : (cells : List C) (from to : ℕ) → ((d : C) (k : ℕ) → from ≤ k → k < to → k < length cells → is_empty (place (get_or cells k d)) ≡ false) → Filled (map place cells) from to
  filled_from [] from to h k a b e = e
  filled_from (c ∷ cells) from to h k a b e =
      let cs : List C = c ∷ cells in
      let x : C = get_or cs k c in
      let i : k < length cs = omega (arith, length-map cs place, nth_within (map place cs) k empty e) in
      let n : Nth (map place cs) k (place x) = nth_map place cs k x i (get_or_default cs k c x i) in
      empty_false (place x) (h c k a b i) (nth_one (map place cs) k (place x) empty n e)

  empty_at : (cells : List C) (k : ℕ) → k < length cells → ((d : C) → is_empty (place (get_or cells k d)) ≡ true) → Nth (map place cells) k empty
  empty_at [] k i h = absurd (omega arith)
  empty_at (c ∷ cells) k i h =
      let cs : List C = c ∷ cells in
      let x : C = get_or cs k c in
      let n : Nth (map place cs) k (place x) = nth_map place cs k x i (get_or_default cs k c x i) in
      subst (λ (p : Place F). Nth (map place cs) k p) (empty_true (place x) (h c)) n

  -- a search by index, from the front and from the back
  pub first_from :
      (cells : List C) (r : Option ℕ) →
      ((d : C) (k : ℕ) → r ≡ None → k < length cells → is_empty (place (get_or cells k d)) ≡ false) →
      ((i : ℕ) → r ≡ Some i → i < length cells) →
      ((d : C) (i : ℕ) → r ≡ Some i → is_empty (place (get_or cells i d)) ≡ true) →
      ((d : C) (i k : ℕ) → r ≡ Some i → k < i → is_empty (place (get_or cells k d)) ≡ false) →
      FirstEmpty (map place cells) r
  first_from cells None none inside here before = filled_from cells 0 (length (map place cells)) (λ d k a b i. none d k refl i)
  first_from cells (Some i) none inside here before =
      (empty_at cells i (inside i refl) (λ d. here d i refl), filled_from cells 0 i (λ d k a b j. before d i k refl b))

  pub last_from :
      (cells : List C) (r : Option ℕ) →
      ((d : C) (k : ℕ) → r ≡ None → k < length cells → is_empty (place (get_or cells k d)) ≡ false) →
      ((i : ℕ) → r ≡ Some i → i < length cells) →
      ((d : C) (i : ℕ) → r ≡ Some i → is_empty (place (get_or cells i d)) ≡ true) →
      ((d : C) (i k : ℕ) → r ≡ Some i → i < k → k < length cells → is_empty (place (get_or cells k d)) ≡ false) →
      LastEmpty (map place cells) r
  last_from cells None none inside here after = filled_from cells 0 (length (map place cells)) (λ d k a b i. none d k refl i)
  last_from cells (Some i) none inside here after = (
    empty_at cells i (inside i refl) (λ d. here d i refl),
    filled_from cells (suc i) (length (map place cells)) (λ d k a b j. after d i k refl (omega arith) j),
  )

-- the first cells written anew leave those after 4,096
pub beyond_anew : {C : Type 0} (memory cs : List C) (n : ℕ) → n ≡ min 4096 (length memory) → length cs ≡ n → Beyond memory (cs ++ drop n memory)
beyond_anew memory cs n e l =
    let m : min 4096 (length (cs ++ drop n memory)) ≡ n = simp (length-append, length-drop) (omega arith) in
    sym (drop_min 4096 (cs ++ drop n memory))
    ∙ ap (λ (k : ℕ). drop k (cs ++ drop n memory)) m
    ∙ drop_at cs (drop n memory) n l
    ∙ ap (λ (k : ℕ). drop k memory) e
    ∙ drop_min 4096 memory

-- another number is not held
pub nth_other : {F : Type 0} (s : List (Place F)) (k : ℕ) (p : Place F) (r n : ℕ) → Nth s k p → Numbered p r → (0 < n → r ≡ n → ⊥) → (f : F) → Nth s k (held n f) → ⊥
nth_other s k p r n a h o f b = let e = numbered_same p r n f h (nth_one s k p (held n f) a b) in o e.0 e.1

-- the number read is held
pub nth_held : {F : Type 0} (s : List (Place F)) (k : ℕ) (p : Place F) (n : ℕ) → Nth s k p → Numbered p n → 0 < n → (f : F) × Nth s k (held n f)
nth_held {F} s k p n a h l =
    let q = numbered_held p n h l in
    let P : Place F → Type 0 = λ z. Nth s k z in
    (q.0, subst P q.1 a)

-- one more place counted
pub empties_empty : {F : Type 0} (s : List (Place F)) (p : Place F) → p ≡ empty → empties (s ++ p ∷ []) ≡ empties s + 1
empties_empty [] empty e = refl
empties_empty [] (held n f) e = cc
empties_empty (empty ∷ s) p e = let h = empties_empty s p e in omega arith
empties_empty (held n f ∷ s) p e = empties_empty s p e

pub empties_full : {F : Type 0} (s : List (Place F)) (p : Place F) → (p ≡ empty → ⊥) → empties (s ++ p ∷ []) ≡ empties s
empties_full [] empty e = absurd (e refl)
empties_full [] (held n f) e = refl
empties_full (empty ∷ s) p e = let h = empties_full s p e in omega arith
empties_full (held n f ∷ s) p e = empties_full s p e

-- no room where no place is empty
pub filled_room : {F : Type 0} (s : List (Place F)) → Filled s 0 (length s) → empties s ≡ 0
filled_room [] f = refl
filled_room (empty ∷ s) f = absurd (f 0 (omega arith) (omega arith) refl)
filled_room (held n g ∷ s) f = filled_room s (λ k a b e. f (suc k) (omega arith) (omega arith) e)

-- what a cell holds is what reading its place answers
pub holds_reads : {V : Type 0} (means : V → ℤ) (s : List (Place Meaning)) (k : ℕ) (p : Place Meaning) (r : Option (ℕ × Fact V)) → Nth s k p → Holds means p r → Reads means s k r
holds_reads means s k p None a h = λ n m b. empty_held p n m h (nth_one s k p (held n m) a b)
holds_reads means s k p (Some x) a h = let P : Place Meaning → Type 0 = λ q. Nth s k q in (subst P h.0 a, h.1, h.2)

-- a search from the mark to the end, and then from the start as far as the mark, goes round
module _ {C F : Type 0} (place : C → Place F) (cells front back : List C) (mark m : ℕ) where
  parted : front ≡ take m cells → back ≡ drop m cells → map place cells ≡ map place front ++ map place back
  parted a b = rw (a, b) (ap (map place) (sym (take-append-drop m cells)) ∙ map-append place (take m cells) (drop m cells))

  pub round_back :
      (k : ℕ) → m ≡ min mark (length cells) → front ≡ take m cells → back ≡ drop m cells →
      FirstEmpty (map place back) (Some k) →
      Nth (map place cells) (length front + k) empty × Marked (map place cells) mark (Some (length front + k)) (length front + k)
  round_back k e a b h =
      let i : k < length back = omega (arith, nth_within (map place back) k empty h.0, length-map back place) in
      let l : length front ≡ m = omega (arith, ap length a, length-take m cells) in
      let r : length back ≡ length cells - m = omega (arith, ap length b, length-drop m cells) in
      let q = length-map front place in
      rw (parted a b) (
        nth_back (map place front) (map place back) (length front + k) k empty (omega arith) h.0,
        (
          inl (
            omega arith,
            λ j x y z. h.1 (j - m) (omega arith) (omega arith) (nth_in_back (map place front) (map place back) j (j - m) empty (omega arith) z),
          ),
          refl,
        ),
      )

  pub round_front :
      (k : ℕ) → m ≡ min mark (length cells) → front ≡ take m cells → back ≡ drop m cells →
      FirstEmpty (map place back) None →
      FirstEmpty (map place front) (Some k) →
      Nth (map place cells) k empty × Marked (map place cells) mark (Some k) k
  round_front k e a b f h =
      let i : k < length front = omega (arith, nth_within (map place front) k empty h.0, length-map front place) in
      let l : length front ≡ m = omega (arith, ap length a, length-take m cells) in
      let q = length-map front place in
      let n = length-append (map place front) (map place back) in
      rw (parted a b) (
        nth_front (map place front) (map place back) k empty h.0,
        (
          inr (
            omega arith,
            (λ j x y z. f (j - m) (omega arith) (omega arith) (nth_in_back (map place front) (map place back) j (j - m) empty (omega arith) z)),
            (λ j x y z. h.1 j x y (nth_in_front (map place front) (map place back) j empty (omega arith) z)),
          ),
          refl,
        ),
      )

  pub round_none :
      front ≡ take m cells → back ≡ drop m cells →
      FirstEmpty (map place back) None →
      FirstEmpty (map place front) None →
      Filled (map place cells) 0 (length (map place cells))
  round_none a b f h =
      let n = length-append (map place front) (map place back) in
      rw (parted a b) (λ j x y z.
      ⊎_elim
      (λ l. h j x l (nth_in_front (map place front) (map place back) j empty l z))
      (λ l. f (j - length (map place front)) (omega arith) (omega arith) (nth_in_back (map place front) (map place back) j (j - length (map place front)) empty (omega arith) z))
      (cases_lt j (length (map place front))))

-- one more place below is not empty
pub filled_less : {F : Type 0} (s : List (Place F)) (i to : ℕ) → Filled s i to → (Nth s (i - 1) empty → ⊥) → Filled s (i - 1) to
filled_less {F} s i to f h k a b e =
    ⊎_elim (λ l. f k l b e)
    (λ n. let same : k ≡ i - 1 = omega arith in let P : ℕ → Type 0 = λ j. Nth s j empty in h (subst P same e))
    (cases_le i k)
  where
    cases_le : (i k : ℕ) → (i ≤ k) ⊎ (k < i)
    cases_le i k = ⊎_elim inr inl (cases_lt k i)
