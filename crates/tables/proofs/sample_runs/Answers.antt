use Rattle.tables.proofs.Running.{valid, writes, widths, runs}
use Rattle.tables.proofs.sample_runs.Goals as goal

pub returns : goal.returns
returns c = record { valid = valid; words = writes; widths = widths; run = runs }
