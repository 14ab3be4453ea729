-- Words put one after the other are put together.
use Rattle.std.proofs.Common.{◌≡◌, ℕ, ◌+◌, ◌<◌, ◌≤◌, List, [], ◌∷◌, ◌++◌, length, take, drop, set, sym, refl, ap, ◌∙◌, ap₂, add-zero, add-one, arith}
use Rattle.std.proofs.lemmas.List.{append_assoc, length-append, length-drop, length-take-le, take-append-drop, take_at, drop_at, drop-drop, set_split}
use Rattle.writer.specs.Memory.{placed}

pub placed_none : (at : ℕ) (m : List ℕ) → m ≡ placed at [] m
placed_none at m = sym (ap (λ (n : ℕ). take at m ++ drop n m) (add-zero at) ∙ take-append-drop at m)

pub placed_one : (m : List ℕ) (at w : ℕ) → at < length m → set m at w ≡ placed at (w ∷ []) m
placed_one m at w h = set_split m at w h ∙ ap (λ (n : ℕ). take at m ++ (w ∷ drop n m)) (sym (add-one at))

-- what stands before and after, where n is the place after the words
front : (at n : ℕ) (xs m : List ℕ) → at + length xs ≡ n → n ≤ length m → take n (placed at xs m) ≡ take at m ++ xs
front at n xs m e h =
    ap (take n) (sym (append_assoc (take at m) xs (drop (at + length xs) m)))
    ∙ take_at (take at m ++ xs) (drop (at + length xs) m) n
    (length-append (take at m) xs ∙ ap (λ (k : ℕ). k + length xs) (length-take-le at m (omega arith)) ∙ e)

behind : (at n : ℕ) (xs m : List ℕ) → at + length xs ≡ n → n ≤ length m → drop n (placed at xs m) ≡ drop n m
behind at n xs m e h =
    ap (drop n) (sym (append_assoc (take at m) xs (drop (at + length xs) m)))
    ∙ drop_at (take at m ++ xs) (drop (at + length xs) m) n
    (length-append (take at m) xs ∙ ap (λ (k : ℕ). k + length xs) (length-take-le at m (omega arith)) ∙ e)
    ∙ ap (λ (k : ℕ). drop k m) e

pub placed_more : (at n : ℕ) (xs ys m : List ℕ) → n ≡ at + length xs → n ≤ length m → placed n ys (placed at xs m) ≡ placed at (xs ++ ys) m
placed_more at n xs ys m e h =
    let k : ℕ = length ys in
    let d : drop (n + k) (placed at xs m) ≡ drop (n + k) m
    = sym (drop-drop k n (placed at xs m)) ∙ ap (drop k) (behind at n xs m (sym e) h) ∙ drop-drop k n m in
    let l : n + k ≡ at + length (xs ++ ys) = omega (arith, length-append xs ys) in
    ap₂ (λ (a d : List ℕ). a ++ (ys ++ d)) (front at n xs m (sym e) h) (d ∙ ap (λ (i : ℕ). drop i m) l)
    ∙ append_assoc (take at m) xs (ys ++ drop (at + length (xs ++ ys)) m)
    ∙ ap (λ (v : List ℕ). take at m ++ v) (sym (append_assoc xs ys (drop (at + length (xs ++ ys)) m)))

pub length_placed : (at : ℕ) (xs m : List ℕ) → at + length xs ≤ length m → length (placed at xs m) ≡ length m
length_placed at xs m h =
    simp (length-append, length-drop) (omega (arith, length-take-le at m (omega arith)))

-- one word after those
pub placed_push : (at n : ℕ) (xs m : List ℕ) (w : ℕ) → n ≡ at + length xs → n < length m → set (placed at xs m) n w ≡ placed at (xs ++ w ∷ []) m
placed_push at n xs m w e h =
    placed_one (placed at xs m) n w (omega (arith, length_placed at xs m (omega arith)))
    ∙ placed_more at n xs (w ∷ []) m e (omega arith)

pub front_placed : (at : ℕ) (xs m : List ℕ) → at + length xs ≤ length m → take (at + length xs) (placed at xs m) ≡ take at m ++ xs
front_placed at xs m h = front at (at + length xs) xs m refl h

-- the words stand from `at` up to `n`, and nothing else has changed
abbrev pub Puts : ℕ → List ℕ → List ℕ → ℕ → List ℕ → Type 0
Puts at xs m n m' = (m' ≡ placed at xs m) × (n ≡ at + length xs)

pub puts_one : (at w : ℕ) (m : List ℕ) → at < length m → Puts at (w ∷ []) m (at + 1) (set m at w)
puts_one at w m h = (placed_one m at w h, refl)

pub puts_more : (at n r : ℕ) (xs ys m m' m'' : List ℕ) → at + length (xs ++ ys) ≤ length m →
    Puts at xs m n m' → Puts n ys m' r m'' → Puts at (xs ++ ys) m r m''
puts_more at n r xs ys m m' m'' h p q =
    let l = length-append xs ys in
    let e : n ≡ at + length xs = p.1 in
    let k : n ≤ length m = omega arith in
    let f : r ≡ n + length ys = q.1 in
    (q.0 ∙ ap (placed n ys) p.0 ∙ placed_more at n xs ys m e k, omega arith)

-- the memory keeps its length, so that room for all is room for the later ones
pub room_on : (at n : ℕ) (xs ys m m' : List ℕ) → at + length (xs ++ ys) ≤ length m → Puts at xs m n m' → n + length ys ≤ length m'
room_on at n xs ys m m' h p =
    let l = length-append xs ys in
    let k : at + length xs ≤ length m = omega arith in
    let i : length m' ≡ length m = ap length p.0 ∙ length_placed at xs m k in
    let e : n ≡ at + length xs = p.1 in
    omega arith
