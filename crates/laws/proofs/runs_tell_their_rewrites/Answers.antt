use Rattle.laws.proofs.runs_tell_their_rewrites.Goals as goal
use Rattle.laws.proofs.Theory.{told, labels_tell}

pub returns : goal.returns
returns g c =
    record { once = told g.row.F.Denot g.row.R.Denot; labels = labels_tell g.row.F.Denot g.row.R.Denot }
