use Rattle.std.proofs.Common.{◌≡◌, ◌≤◌, map, take}
use Rattle.stores.specs.Stores.{empties}
use Rattle.stores.proofs.cell_store.CellStoreStoreValue.room.Given as goal

abbrev pub invariant-loop-cell : goal.invariant-loop-cell
invariant-loop-cell g l =
    record {
      few : l.count ≤ l.cell-index;
      counted : l.count ≡ empties (map g.C.Cell.place (take l.cell-index l.cell-items));
    }
