-- What a value kind promises of its values.
use Rattle.std.specs.Prelude.{◌≡◌, ℕ, ◌%◌, ℤ, pos, negsuc, ◌≤ℤ◌, Some, None, Option}

-- the full range: −134,217,728 to 134,217,727
abbrev pub full_low : ℤ
full_low = negsuc 134217727

abbrev pub full_high : ℤ
full_high = pos 134217727

-- a number lies between two ends, the ends included
abbrev pub Between : ℤ → ℤ → ℤ → Type 0
Between low high n = (low ≤ℤ n) × (n ≤ℤ high)

-- what making a value of the meaning n answers: none exactly outside the ends, else a value of that meaning
abbrev pub Made : {V : Type 0} → ℤ → ℤ → (V → ℤ) → ℤ → Option V → Type 0
Made low high means n None = Between low high n → ⊥
Made low high means n (Some v) = Between low high n × (means v ≡ n)

-- what the word of a bench reading means: its low 16 bits
abbrev pub word_meaning : ℕ → ℤ
word_meaning w = pos (w % 65536)
