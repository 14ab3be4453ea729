use Rattle.std.proofs.Common.{ℕ}
use Rattle.facts.specs.Meanings.{Meaning}
use Rattle.laws.proofs.law_holds.Goals as goal
use Rattle.laws.proofs.Theory.{law}

pub returns : goal.returns
returns g c = record { any = law g.row.F.Denot g.row.R.Denot; meanings = law Meaning ℕ }
