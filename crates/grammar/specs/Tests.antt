-- Which numbers name a test.
use Rattle.std.specs.Prelude.{◌≡◌, ℕ, ◌<◌, ◌≤◌, MatchResult, Result}
use Rattle.grammar.specs.declared.part.Test.{Test}
use Rattle.grammar.specs.declared.part.UnknownTest.{UnknownTest}
use Rattle.grammar.specs.Reading.{test_at}

-- a number up to 3 names the test at it; any other number is given back
abbrev pub NamesTest : ℕ → Result Test UnknownTest → Type 0
NamesTest n r = MatchResult r (λ test. (n ≤ 3) × (test ≡ test_at n)) (λ unknown. (3 < n) × (unknown.0 ≡ n))
