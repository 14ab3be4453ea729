use Rattle.std.proofs.Common.{◌≡◌, length}
use Rattle.std.specs.List.{list_all, zip, fold}
use Rattle.matching.proofs.Meetings.{pair_fits, with_pair, left}
use Rattle.matching.proofs.heads.bind_each.Given as goal

-- what is left decides, from the values so far
abbrev pub invariant-loop-head : goal.invariant-loop-head
invariant-loop-head l = record {
  fit : list_all pair_fits (zip l.fn.heads l.fn.facts) ≡ list_all pair_fits (left l.fn.heads l.fn.facts (length l.yielded));
  numbers : fold with_pair l.initial.values.numbers (zip l.fn.heads l.fn.facts) ≡ fold with_pair l.values.numbers (left l.fn.heads l.fn.facts (length l.yielded));
}
