use Rattle.std.proofs.Common.{rules}
use Rattle.stores.proofs.Places.{first_from}
use Rattle.stores.proofs.pick.first_empty.Goals as goal

pub returns : goal.returns
returns g c =
    first_from g.C.Cell.place c.args.cells.now c.position.result (λ d k e l. search rules) (λ i e. search rules) (λ d i e. search rules)
    (λ d i k e l. search rules)
