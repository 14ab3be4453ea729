use Rattle.std.proofs.Common.{◌<◌, refl, ⊎_elim, arith}
use Rattle.facts.proofs.Nths.{nth_within}
use Rattle.facts.specs.Places.{held}
use Rattle.stores.specs.Built.{cells_of}
use Rattle.stores.proofs.Places.{nth_other, nth_held}
use Rattle.stores.proofs.cell_store.CellStoreStoreValue.remove.Goals as goal

pub returns-in_default-clause-removes : goal.returns-in_default-clause-removes
returns-in_default-clause-removes g c =
    let s = cells_of g.C.Cell.place c.args.self.now in
    (λ m h. omega (arith, c.in_default.ensures, nth_within s c.args.place (held c.args.number m) h), refl)

pub returns-then-held-eq0-clause-removes : goal.returns-then-held-eq0-clause-removes
returns-then-held-eq0-clause-removes g c =
    let s = cells_of g.C.Cell.place c.args.self.now in (
      nth_other s c.args.place (g.C.Cell.place c.in-Some.cell.now) c.number-held.result c.args.number c.in-Some.ensures c.number-held.ensures
          (⊎_elim (λ z l e. omega arith) (λ z l e. z.1 e) c.then-held-eq0.either),
      refl,
    )

pub write-requires : goal.write-requires
write-requires g c =
    nth_within (cells_of g.C.Cell.place c.args.self.now) c.args.place (g.C.Cell.place c.in-Some.cell.now) c.in-Some.ensures

pub returns-clause-removes : goal.returns-clause-removes
returns-clause-removes g c =
    let s = cells_of g.C.Cell.place c.args.self.now in
    let l : 0 < c.args.number = omega arith in
    let h = nth_held s c.args.place (g.C.Cell.place c.in-Some.cell.now) c.args.number c.in-Some.ensures
    (rw c.if-held-number.false at c.number-held.ensures) l in
    (h.0, l, h.1, rw c.emptied-emptied.ensures at c.write.ensures.writes)
