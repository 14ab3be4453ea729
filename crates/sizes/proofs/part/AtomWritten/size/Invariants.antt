use Rattle.std.proofs.Common.{◌≡◌, ◌+◌, ◌*◌, ◌≤◌, sum_by}
use Rattle.args.specs.Listed.{listed, amount}
use Rattle.sizes.proofs.part.AtomWritten.size.Given as goal

abbrev pub invariant-loop-argument : goal.invariant-loop-argument
invariant-loop-argument g l = record {
  left : l.size + sum_by g.A.Written.size (listed l.argument-iterator.rest) ≡ 1 + sum_by g.A.Written.size (listed l.fn.self.args);
  few : l.size + 3 * amount l.argument-iterator.rest ≤ 10;
}
