use Rattle.std.proofs.lemmas.List.{take_min}
use Rattle.stores.proofs.cell_store.CellStore.used.Goals as goal

pub returns-clause-value : goal.returns-clause-value
returns-clause-value g c = rw c.min.ensures (take_min 4096 c.args.self.now.cells.now)
