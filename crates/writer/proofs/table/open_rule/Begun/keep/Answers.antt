use Rattle.writer.specs.declared.part.Part.TheVariants.{Kept}
use Rattle.writer.specs.Stages.{IsBegun}
use Rattle.writer.proofs.Grows.{grows}
use Rattle.writer.proofs.table.open_rule.Begun.keep.Goals as goal

pub returns-clause-table : goal.returns-clause-table
returns-clause-table c =
    grows IsBegun IsBegun c.args.self (Kept c.args.head) c.args.memory.now c.add.new.memory (λ r s. s) (λ r s. s) c.add.result c.add.ensures
