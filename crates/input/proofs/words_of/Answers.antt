use Rattle.std.proofs.Common.{◌/◌, length, rules}
use Rattle.std.proofs.lemmas.Iterator.{YieldsList-from_slice, YieldsList-from_take, YieldsList-from_map, items_from_collect}
use Rattle.std.specs.Int.{w32, from_be_bytes}
use Rattle.std.specs.Simd.{first_chunks}
use Rattle.input.proofs.Words.{first_words}
use Rattle.input.proofs.words_of.Goals as goal

pub returns : goal.returns
returns c =
    let bs = c.args.bytes.now in
    let all = YieldsList-from_slice {s = c.map.result.iter.iter} (first_chunks 4 (length bs / 4) bs) cc in
    let front = YieldsList-from_take {s = c.map.result.iter} c.args.most all cc in
    let h = items_from_collect c.collect.result c.collect.ensures.ran (YieldsList-from_map {s = c.map.result} _ (from_be_bytes w32) front c.map.ensures.closure (λ x r q k. search rules)) in
    rw (first_words bs c.args.most) at h
