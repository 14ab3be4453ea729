use Rattle.writer.specs.declared.part.Part.TheVariants.{Body}
use Rattle.writer.specs.Stages.{IsFilling}
use Rattle.writer.proofs.Grows.{grows}
use Rattle.writer.proofs.table.OpenRule.fill.Goals as goal

pub returns-clause-table : goal.returns-clause-table
returns-clause-table g c =
    grows g.S.Stage.reached IsFilling c.args.self (Body c.args.fact) c.args.memory.now c.add.new.memory (λ r s. tt)
    g.met.S.MayClose.takes c.add.result c.add.ensures
