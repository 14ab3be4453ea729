use Rattle.std.proofs.Common.{◌≡◌, ◌+◌, length, drop}
use Rattle.std.specs.List.{flat_map}
use Rattle.words.specs.Words.{tag}
use Rattle.writer.specs.Memory.{placed}
use Rattle.writer.proofs.whole.put_parts.Given as goal

-- the words that are left, put behind those so far, make the whole
abbrev pub invariant-loop-part : goal.invariant-loop-part
invariant-loop-part g l =
    let left = flat_map (g.P.Encode.words (tag l.kind)) (drop l.part-index l.parts) in
    let all = flat_map (g.P.Encode.words (tag l.kind)) l.parts in
    record {
      memory : placed l.end left l.memory ≡ placed l.at all l.initial.memory;
      place : l.end + length left ≡ l.at + length all;
    }
