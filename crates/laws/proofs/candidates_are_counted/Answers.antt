use Rattle.laws.proofs.candidates_are_counted.Goals as goal
use Rattle.laws.proofs.Theory.{counted, ordered}

pub returns : goal.returns
returns g c = record { width = counted g.row.F.Denot g.row.R.Denot; order = ordered g.row.F.Denot g.row.R.Denot }
