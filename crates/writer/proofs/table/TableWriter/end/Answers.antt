use Rattle.std.proofs.Common.{◌+◌, [], ◌∷◌, ap, ◌∙◌}
use Rattle.writer.specs.Memory.{placed}
use Rattle.writer.proofs.Ends.{table_ended}
use Rattle.writer.proofs.table.TableWriter.end.Goals as goal

pub returns-in-Ok-clause-table : goal.returns-in-Ok-clause-table
returns-in-Ok-clause-table c = λ rs d.
    table_ended c.args.self (c.give_up.result + 1) c.args.memory.now c.add_words.new.memory rs d (ap (λ n. n + 1) c.give_up.ensures)
    (c.in-Ok.ensures.2 ∙ ap (λ w. placed c.args.self.used (w ∷ []) c.args.memory.now) c.word_of.ensures)
