-- Why words cannot be loaded and written again.
use Rattle.std.specs.Prelude.{◌≡◌, ℕ, ◌<◌, List, ◌++◌, length, Err}
use Rattle.grammar.specs.Parts.{Parts}
use Rattle.grammar.specs.Validity.{Valid}
use Rattle.grammar.specs.Writing.{written}
use Rattle.rules.specs.Loading.{Loads, Accepts}
use Rattle.writer.specs.declared.refusal.Refusal.TheVariants.{NoRoom}
use Rattle.roundtrip.specs.declared.error.BackError.{BackError}
use Rattle.roundtrip.specs.declared.error.BackError.TheVariants.{Load, Write}

-- the loader refuses them, or they begin with a table whose words are more than the memory has
abbrev pub NotBack : List ℕ → List ℕ → BackError → Type 0
NotBack ws memory (Load refusal) = Loads ws (Err refusal) × Accepts ws (Err refusal)
NotBack ws memory (Write refusal) =
    (refusal ≡ NoRoom)
    × ((rs : List Parts) × (us : List ℕ) × Valid rs × (ws ≡ written rs ++ us) × (length memory < length (written rs)))
