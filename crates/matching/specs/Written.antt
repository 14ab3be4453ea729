-- A written fact as it is handed out.
use Rattle.std.specs.Prelude.{ℕ, ◌≤◌, List, length, ℤ, ◌≤ℤ◌, Some, None, Option}
use Rattle.facts.specs.Meanings.{ReadFact}
use Rattle.facts.specs.Lists.{Nth}
use Rattle.facts.specs.Meanings.{Meaning, read_meaning}

-- none exactly past the end, else a fact of the meaning that stands there
abbrev pub WrittenAt : List Meaning → ℕ → Option ReadFact → Type 0
WrittenAt ms i None = length ms ≤ i
WrittenAt ms i (Some f) = Nth ms i (read_meaning f)

-- all three arguments lie between the ends, the spare ones too
pub record Between (low high : ℤ) (args : ℤ × ℤ × ℤ) : Type 0 where
  pub first : (low ≤ℤ args.0) × (args.0 ≤ℤ high)
  pub second : (low ≤ℤ args.1) × (args.1 ≤ℤ high)
  pub third : (low ≤ℤ args.2) × (args.2 ≤ℤ high)
