use Rattle.writer.specs.declared.part.Part.TheVariants.{Guard}
use Rattle.writer.specs.Stages.{IsGuarding}
use Rattle.writer.proofs.Grows.{grows}
use Rattle.writer.proofs.table.OpenRule.guard.Goals as goal

pub returns-clause-table : goal.returns-clause-table
returns-clause-table g c =
    let l = g.met.S.MayGuard.no_body in
    grows g.S.Stage.reached IsGuarding c.args.self (Guard c.args.guard) c.args.memory.now c.add.new.memory l
    (λ r s. (g.met.S.MayClose.takes r s, l r s)) c.add.result c.add.ensures
