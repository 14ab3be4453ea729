use Rattle.std.proofs.Common.{◌≡◌, ◌+◌, map, take, arith}
use Rattle.std.proofs.lemmas.List.{map_more}
use Rattle.stores.specs.Stores.{empties}
use Rattle.stores.proofs.Places.{empties_empty, empties_full, numbered_empty, numbered_full}
use Rattle.stores.proofs.cell_store.CellStoreStoreValue.room.Goals as goal
use Rattle.stores.proofs.cell_store.CellStoreStoreValue.room.Goals.{then-number-eq0, else-number-eq0}

pub loop-cell-preserved : goal.loop-cell-preserved
loop-cell-preserved g c =
    let f = g.C.Cell.place in
    let cells = c.used-cell-items.result.now in
    let i = c.loop-cell.cell-index in
    let x = c.cell-item.result in
    let s = map f (take i cells) in
    let more = map_more f cells i x c.loop-cell-test.true in
    let is = c.cell-item.is in
    elim c.if-number-eq0.branch [
      | then-number-eq0 w ↦ (
          let e = empties_empty s (f x) (numbered_empty (f x) c.number.result c.number.ensures w.if-number-eq0.true) in
          let t : empties (map f (take (i + 1) cells)) ≡ empties s + 1 = cc in
          record { few = omega (arith, w.count-is, c.loop-cell.invariant.few); counted = omega (arith, t, w.count-is, c.loop-cell.invariant.counted) })
      | else-number-eq0 w ↦ (
          let e = empties_full s (f x) (numbered_full (f x) c.number.result c.number.ensures w.if-number-eq0.false) in
          let t : empties (map f (take (i + 1) cells)) ≡ empties s = cc in
          record { few = omega (arith, w.count-is, c.loop-cell.invariant.few); counted = omega (arith, t, w.count-is, c.loop-cell.invariant.counted) })
    ]
