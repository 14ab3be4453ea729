use Rattle.std.proofs.Common.{◌≡◌, ℕ, min, length, map, replicate, ap, sym, ◌∙◌, arith, length-take}
use Rattle.std.proofs.lemmas.List.{take_all}
use Rattle.facts.specs.Places.{empty}
use Rattle.stores.proofs.Places.{places_anew, beyond_anew}
use Rattle.stores.proofs.cell_store.CellStore.new.Goals as goal

pub returns-clause-clears : goal.returns-clause-clears
returns-clause-clears g c =
    let f = g.C.Cell.place in
    let memory = c.args.cells.now in
    let cells = c.loop-cell.cell-items in
    let i = c.loop-cell.cell-index in
    let l = length-take c.min-used.result memory in
    let all = take_all i cells (omega arith) in
    let m : i ≡ min 4096 (length memory) = omega arith in
    places_anew f memory cells c.min-used.result c.min-used.ensures (omega arith)
    ∙ ap (map f) (sym all)
    ∙ c.loop-cell.invariant
    ∙ ap (λ (k : ℕ). replicate k empty) m

pub returns-clause-beyond : goal.returns-clause-beyond
returns-clause-beyond g c =
    let l = length-take c.min-used.result c.args.cells.now in
    beyond_anew c.args.cells.now c.loop-cell.cell-items c.min-used.result c.min-used.ensures (omega arith)
