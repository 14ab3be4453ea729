use Rattle.laws.proofs.calls_have_one_outcome.Goals as goal
use Rattle.laws.proofs.Outcomes.{pinned}

pub returns : goal.returns
returns g c = pinned g.row.F.Denot g.row.R.Denot
