-- Words by four bytes at a time.
use Rattle.std.proofs.Common.{◌≡◌, ℕ, zero, suc, ◌+◌, ◌*◌, ◌/◌, ◌<◌, min, List, map, length, get_or, take, drop, refl, ap, ◌∙◌, add-zero, arith}
use Rattle.std.specs.Int.{w32, from_be_bytes}
use Rattle.std.specs.List.{range_with_len}
use Rattle.std.specs.Simd.{first_chunks}
use Rattle.std.proofs.lemmas.List.{get_or-take, get_or-drop, drop-drop, take_min, take-map}
use Rattle.std.proofs.lemmas.List.FromFn.{length-map-range_with_len, take-map-range_with_len}
use Rattle.input.specs.Bytes.{word_at, words_in}

four_bytes : (bs : List ℕ) (i : ℕ) → from_be_bytes w32 (take 4 (drop (4 * i) bs)) ≡ word_at bs i
four_bytes bs i =
    let at : (k : ℕ) → k < 4 → get_or (take 4 (drop (4 * i) bs)) k 0 ≡ get_or bs (4 * i + k) 0
    = λ k h. get_or-take 4 (drop (4 * i) bs) k 0 h ∙ get_or-drop (4 * i) bs k 0 in
    let a = at 0 (omega arith) ∙ ap (λ (j : ℕ). get_or bs j 0) (add-zero (4 * i)) in
    let b = at 1 (omega arith) in
    let c = at 2 (omega arith) in
    let d = at 3 (omega arith) in
    cc

from_an_index : (bs : List ℕ) (i n : ℕ) → map (from_be_bytes w32) (first_chunks 4 n (drop (4 * i) bs)) ≡ map (word_at bs) (range_with_len i n)
from_an_index bs i zero = refl
from_an_index bs i (suc n) =
    let w = four_bytes bs i in
    let e : 4 * i + 4 ≡ 4 * (i + 1) = omega arith in
    let d = drop-drop 4 (4 * i) bs in
    let r = from_an_index bs (i + 1) n in
    cc

-- the first words
pub first_words : (bs : List ℕ) (most : ℕ) → map (from_be_bytes w32) (take most (first_chunks 4 (length bs / 4) bs)) ≡ words_in bs (min (length bs / 4) most)
first_words bs most =
    let n = length bs / 4 in
    let all = from_an_index bs 0 n in
    let m = take-map (from_be_bytes w32) most (first_chunks 4 n bs) in
    let l = length-map-range_with_len (word_at bs) 0 n in
    let k : min most (length (words_in bs n)) ≡ min n most = omega arith in
    let t = take_min most (words_in bs n) in
    let r = take-map-range_with_len (word_at bs) 0 n (min n most) (omega arith) in
    cc
