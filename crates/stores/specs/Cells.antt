-- What the cells of the built stores mean. Every cell has a meaning; a number 0 makes it an empty place.
use Rattle.std.specs.Prelude.{◌≡◌, ℕ, ◌/◌, ◌%◌, ◌<◌, ◌≤◌, min, Bool, true, false, cond, List, [], ◌∷◌, map, take, drop, ℤ, pos, ◌+ℤ◌, Some, None, Option, ◌==◌}
use Rattle.std.specs.Int.{int_min}
use Rattle.facts.specs.declared.fact.Fact.{Fact}
use Rattle.facts.specs.Meanings.{Meaning, meaning}
use Rattle.facts.specs.Places.{Place, empty, held}
use Rattle.facts.specs.Reads.{cut}
use Rattle.stores.specs.declared.cell.FlatCell.{FlatCell}
use Rattle.stores.specs.declared.cell.PackedCell.{PackedCell}

-- a number and what it numbers: 0 is an empty place
abbrev pub under : {F : Type 0} → ℕ → F → Place F
under n f = cond (n == 0) empty (held n f)

-- a cell of the flat store; a count is read as at most 3
abbrev pub flat_place : {V : Type 0} → (V → ℤ) → FlatCell V → Place Meaning
flat_place means c = under c.number (meaning means (cut c.fact))

-- an argument word of the packed store counts up from the low end, and stops at the high end
abbrev pub word_value : ℤ → ℤ → ℕ → ℤ
word_value low high w = int_min (low +ℤ pos w) high

-- the fact in the label and the argument words of the packed store: the name stands above the count's 8 bits
abbrev pub words_meaning : ℤ → ℤ → ℕ → ℕ → ℕ → ℕ → Meaning
words_meaning low high label first second third =
    record {
      name = label / 256 % 256;
      count = min 3 (label % 256);
      args = take (min 3 (label % 256)) (word_value low high first ∷ (word_value low high second ∷ (word_value low high third ∷ [])));
    }

-- a cell of the packed store
abbrev pub packed_place : {V : Type 0} → ℤ → ℤ → PackedCell V → Place Meaning
packed_place low high c = under c.number (words_meaning low high c.label c.first c.second c.third)

-- the places of a memory of cells: the first 4,096
abbrev pub places_of : {C F : Type 0} → (C → Place F) → List C → List (Place F)
places_of place memory = map place (take 4096 memory)

-- the cells past the first 4,096 stay as they were
abbrev pub Beyond : {C : Type 0} → List C → List C → Type 0
Beyond before after = drop 4096 after ≡ drop 4096 before

-- whether a place is empty
abbrev pub is_empty : {F : Type 0} → Place F → Bool
is_empty empty = true
is_empty (held n f) = false

-- the number at a place: 0 exactly at an empty one
abbrev pub Numbered : {F : Type 0} → Place F → ℕ → Type 0
Numbered empty r = r ≡ 0
Numbered (held n f) r = (0 < n) × (r ≡ n)

-- what one cell holds
abbrev pub Holds : {V : Type 0} → (V → ℤ) → Place Meaning → Option (ℕ × Fact V) → Type 0
Holds means c None = c ≡ empty
Holds means c (Some x) = (c ≡ held x.0 (meaning means x.1)) × (0 < x.0) × (x.1.count ≤ 3)
