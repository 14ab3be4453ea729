use Rattle.std.proofs.Common.{arith}
use Rattle.std.proofs.lemmas.List.{length_push}
use Rattle.writer.specs.declared.part.Part.TheVariants.{Taken}
use Rattle.writer.specs.Stages.{IsTaking}
use Rattle.writer.proofs.Grows.{grows}
use Rattle.writer.proofs.table.OpenRule.take.Goals as goal

pub returns-clause-table : goal.returns-clause-table
returns-clause-table g c =
    let x = c.args.head in
    let l = g.met.S.MayTake.no_tail in
    grows g.S.Stage.reached IsTaking c.args.self (Taken x) c.args.memory.now c.add.new.memory l
    (λ r s. (omega (arith, length_push r.taken x), (l r s).0, (l r s).1)) c.add.result c.add.ensures
