use Rattle.std.proofs.Common.{◌≡◌, ◌+◌, length, drop}
use Rattle.std.specs.List.{flat_map}
use Rattle.writer.specs.Memory.{placed}
use Rattle.writer.specs.Tables.{words_of}
use Rattle.writer.proofs.whole.put_rules.Given as goal

-- the words that are left, put behind those so far, make the whole
abbrev pub invariant-loop-rule : goal.invariant-loop-rule
invariant-loop-rule l =
    let left = flat_map words_of (drop l.rule-index l.rules) in
    let all = flat_map words_of l.rules in
    record {
      memory : placed l.end left l.memory ≡ placed 0 all l.initial.memory;
      place : l.end + length left ≡ length all;
    }
