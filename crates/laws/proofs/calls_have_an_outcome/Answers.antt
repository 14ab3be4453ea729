use Rattle.laws.proofs.calls_have_an_outcome.Goals as goal
use Rattle.laws.proofs.Totality.{total}

pub returns : goal.returns
returns g c = total g.row.F.Denot g.row.R.Denot
