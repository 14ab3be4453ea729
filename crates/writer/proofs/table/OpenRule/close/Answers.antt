use Rattle.writer.proofs.Ends.{rule_closed}
use Rattle.writer.proofs.table.OpenRule.close.Goals as goal

pub returns-clause-table : goal.returns-clause-table
returns-clause-table g c = λ m rs r o s. rule_closed c.args.self.tally m rs r o (g.met.S.MayClose.takes r s)
