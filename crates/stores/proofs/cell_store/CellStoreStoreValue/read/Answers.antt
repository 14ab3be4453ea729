use Rattle.std.proofs.Common.{arith}
use Rattle.facts.proofs.Nths.{nth_within}
use Rattle.facts.specs.Places.{held}
use Rattle.stores.specs.Built.{cells_of}
use Rattle.stores.proofs.Places.{holds_reads}
use Rattle.stores.proofs.cell_store.CellStoreStoreValue.read.Goals as goal

pub returns-in_err-cell : goal.returns-in_err-cell
returns-in_err-cell g c =
    let s = cells_of g.C.Cell.place c.args.self.now in
    rw c.from_residual.ensures (λ n m h. omega (arith, c.in_err-cell.ensures, nth_within s c.args.place (held n m) h))

pub returns : goal.returns
returns g c =
    let s = cells_of g.C.Cell.place c.args.self.now in
    holds_reads g.C.Value.Kind.meaning s c.args.place (g.C.Cell.place c.in_ok-cell.field-0.now) c.content.result c.in_ok-cell.ensures
    c.content.ensures
