use Rattle.facts.specs.Meanings.{Meaning}
use Rattle.grammar.specs.Parts.{Parts}
use Rattle.laws.proofs.Theory.{law}
use Rattle.tables.specs.Loaded.{rule_table}
use Rattle.tables.proofs.Serving.{serves}
use Rattle.tables.proofs.tables_obey.Goals as goal

pub returns : goal.returns
returns c = λ low high rs v S tr s h. law Meaning Parts (rule_table low high rs) (serves low high rs v) S tr s h
