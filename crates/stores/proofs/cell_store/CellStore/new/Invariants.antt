use Rattle.std.proofs.Common.{◌≡◌, map, take, replicate}
use Rattle.facts.specs.Places.{empty}
use Rattle.stores.proofs.cell_store.CellStore.new.Given as goal

abbrev pub invariant-loop-cell : goal.invariant-loop-cell
invariant-loop-cell g l = map g.C.Cell.place (take l.cell-index l.cell-items) ≡ replicate l.cell-index empty
