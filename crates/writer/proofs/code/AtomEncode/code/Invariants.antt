use Rattle.std.proofs.Common.{◌≡◌, ◌+◌, ◌*◌, ◌≤◌, ◌++◌}
use Rattle.std.specs.List.{flat_map, AllByRecursion}
use Rattle.args.specs.Listed.{listed, amount}
use Rattle.arrayvec.specs.ArrayVec.{array_vec_len}
use Rattle.writer.proofs.code.AtomEncode.code.Given as goal

abbrev pub invariant-loop-argument : goal.invariant-loop-argument
invariant-loop-argument g l = record {
  left : l.code.items ++ flat_map g.A.Argument.words (listed l.argument-iterator.rest) ≡ l.initial.code.items ++ flat_map g.A.Argument.words (listed l.fn.self.args);
  room : array_vec_len l.code + 3 * amount l.argument-iterator.rest ≤ 10;
  from_rest : AllByRecursion g.A.Argument.formed (listed l.argument-iterator.rest) → AllByRecursion g.A.Argument.formed (listed l.fn.self.args);
  to_rest : AllByRecursion g.A.Argument.formed (listed l.fn.self.args) → AllByRecursion g.A.Argument.formed (listed l.argument-iterator.rest);
}
