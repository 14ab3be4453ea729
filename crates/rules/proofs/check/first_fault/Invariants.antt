use Rattle.std.proofs.Common.{map}
use Rattle.grammar.specs.Parts.{parts}
use Rattle.rules.proofs.Walk.{Walked}
use Rattle.rules.proofs.check.first_fault.Given as goal

abbrev pub invariant-loop-rule : goal.invariant-loop-rule
invariant-loop-rule l = Walked (map parts l.rules) l.rule-index l.at l.last
