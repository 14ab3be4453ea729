use Rattle.std.proofs.Common.{◌≡◌, ◌+◌, ◌++◌}
use Rattle.args.specs.Listed.{listed, amount}
use Rattle.arrayvec.specs.ArrayVec.{array_vec_len}
use Rattle.writer.proofs.code.push_all.Given as goal

abbrev pub invariant-loop-word : goal.invariant-loop-word
invariant-loop-word l = record {
  left : l.code.items ++ listed l.word-iterator.rest ≡ l.initial.code.items ++ listed l.fn.words;
  room : array_vec_len l.code + amount l.word-iterator.rest ≡ array_vec_len l.initial.code + amount l.fn.words;
}
