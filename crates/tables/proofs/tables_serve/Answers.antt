use Rattle.tables.proofs.Serving.{serves}
use Rattle.tables.proofs.tables_serve.Goals as goal

pub returns : goal.returns
returns c = serves
