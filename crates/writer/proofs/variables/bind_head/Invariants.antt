use Rattle.std.proofs.Common.{◌≡◌}
use Rattle.std.specs.List.{AllByRecursion}
use Rattle.args.specs.Listed.{listed}
use Rattle.grammar.specs.Writing.{FormedOperand}
use Rattle.writer.specs.Variables.{bind_all}
use Rattle.writer.proofs.variables.bind_head.Given as goal

abbrev pub invariant-loop-operand : goal.invariant-loop-operand
invariant-loop-operand l = record {
  left : bind_all l.bound (listed l.operand-iterator.rest) ≡ bind_all l.variables (listed l.fn.head.args);
  formed : AllByRecursion FormedOperand (listed l.operand-iterator.rest);
}
