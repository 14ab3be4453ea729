use Rattle.std.proofs.Common.{◌≡◌, ◌*◌, ◌≤◌, sum_by, take}
use Rattle.sizes.proofs.rule.total_size.Given as goal

abbrev pub invariant-loop-item : goal.invariant-loop-item
invariant-loop-item g l = record {
  sum : l.size ≡ sum_by g.P.Written.size (take l.item-index l.items);
  few : l.size ≤ 10 * l.item-index;
}
