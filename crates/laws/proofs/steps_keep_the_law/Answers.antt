use Rattle.laws.proofs.steps_keep_the_law.Goals as goal
use Rattle.laws.proofs.Theory.{promises}

pub returns : goal.returns
returns g c = promises g.row.F.Denot g.row.R.Denot
