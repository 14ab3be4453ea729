use Rattle.std.proofs.Common.{rules}
use Rattle.std.proofs.lemmas.List.{drop-set-lt}
use Rattle.stores.proofs.Places.{places_in, places_set}
use Rattle.stores.proofs.cell_store.CellStore.write.Goals as goal

pub bounds-self-place : goal.bounds-self-place
bounds-self-place g c = (places_in g.C.Cell.place c.args.self.now.cells.now c.args.place c.requires).0

pub offset_bounds-self-place : goal.offset_bounds-self-place
offset_bounds-self-place g c = let h = bounds-self-place g c in search rules

pub returns-clause-writes : goal.returns-clause-writes
returns-clause-writes g c =
    let memory = c.args.self.now.cells.now in
    places_set g.C.Cell.place memory c.args.place c.args.cell (places_in g.C.Cell.place memory c.args.place c.requires).1

pub returns-clause-beyond : goal.returns-clause-beyond
returns-clause-beyond g c =
    let memory = c.args.self.now.cells.now in
    drop-set-lt 4096 memory c.args.place c.args.cell (places_in g.C.Cell.place memory c.args.place c.requires).1
