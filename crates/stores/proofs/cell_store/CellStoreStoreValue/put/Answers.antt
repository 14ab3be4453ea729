use Rattle.std.proofs.Common.{◌<◌, ◌≤◌, refl, inl, arith}
use Rattle.facts.proofs.Nths.{nth_within}
use Rattle.facts.specs.Places.{empty}
use Rattle.stores.specs.Built.{cells_of}
use Rattle.stores.proofs.Places.{filled_room}
use Rattle.stores.proofs.cell_store.CellStoreStoreValue.put.Goals as goal

pub returns-in_err-place-clause-puts : goal.returns-in_err-place-clause-puts
returns-in_err-place-clause-puts g c =
    let filled = rw c.used.ensures.value at c.in_err-place.ensures in
    rw c.from_residual.ensures (inl (filled_room (cells_of g.C.Cell.place c.args.self.now) filled), refl)

pub write-requires : goal.write-requires
write-requires g c =
    let found = rw c.used.ensures.value at c.in_ok-place.ensures.0 in
    nth_within (cells_of g.C.Cell.place c.args.self.now) c.in_ok-place.place empty found

pub returns-clause-puts : goal.returns-clause-puts
returns-clause-puts g c =
    let found = rw c.used.ensures.value at c.in_ok-place.ensures.0 in
    let n : 0 < c.args.number = omega arith in
    let q : c.args.fact.now.count ≤ 3 = omega arith in
    (n, q, found, rw (c.holding.ensures n q) at c.write.ensures.writes)
