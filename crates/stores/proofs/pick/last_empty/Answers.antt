use Rattle.std.proofs.Common.{rules}
use Rattle.stores.proofs.Places.{last_from}
use Rattle.stores.proofs.pick.last_empty.Goals as goal

pub returns : goal.returns
returns g c =
    last_from g.C.Cell.place c.args.cells.now c.rposition.result (λ d k e l. search rules) (λ i e. search rules) (λ d i e. search rules)
    (λ d i k e l m. search rules)
