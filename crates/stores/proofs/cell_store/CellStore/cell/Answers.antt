use Rattle.stores.proofs.Places.{found_at}
use Rattle.stores.proofs.cell_store.CellStore.cell.Goals as goal

pub returns : goal.returns
returns g c =
    let read = c.get.ensures.lookup in
    found_at g.C.Cell.place c.args.self.now.cells.now c.used.result.now c.args.place c.get.result c.used.ensures.value read.0 read.1
