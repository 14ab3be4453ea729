-- Big-endian words.
use Rattle.std.specs.Prelude.{ℕ, ◌+◌, ◌*◌, ◌^◌, List, map, slice_index}
use Rattle.std.specs.List.{range_with_len}

-- the i-th word: four bytes, the highest first
abbrev pub word_at : List ℕ → ℕ → ℕ
word_at bs i =
    slice_index bs (4 * i) * 2 ^ 24 + slice_index bs (4 * i + 1) * 2 ^ 16 + slice_index bs (4 * i + 2) * 2 ^ 8 + slice_index bs (4 * i + 3)

-- the first n words
abbrev pub words_in : List ℕ → ℕ → List ℕ
words_in bs n = map (word_at bs) (range_with_len 0 n)
