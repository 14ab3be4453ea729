use Rattle.std.proofs.Common.{◌+◌, ℕ, ◌≤◌, List, length, subst, ◌∙◌, arith}
use mathlib.Core.Logic.{∥∥₁_elim}
use Rattle.std.specs.List.{flat_map}
use Rattle.words.specs.Words.{tag}
use Rattle.writer.proofs.Places.{Puts}
use Rattle.writer.proofs.Rows.{all_at, puts_next}
use Rattle.writer.proofs.whole.put_parts.Goals as goal

pub unreachable-requires : goal.unreachable-requires
unreachable-requires g c =
    ∥∥₁_elim c.requires.formed (λ x. absurd x)
    (λ a. c.in_default.ensures (all_at g.P.Encode.formed c.args.parts.now c.loop-part.part-index c.part-item.result c.loop-part-test.true c.part-item.is a))

pub loop-part-preserved : goal.loop-part-preserved
loop-part-preserved g c =
    let f = g.P.Encode.words (tag c.args.kind) in
    let xs = c.args.parts.now in
    let x = c.part-item.result in
    let m = c.loop-part.memory in
    let r : c.args.at + length (flat_map f xs) ≤ length m = omega arith in
    let v = c.deref.ensures.0 ∙ c.in-Some.ensures.1 in
    let p = puts_next f xs c.loop-part.part-index c.loop-part.end m c.args.at (flat_map f xs) c.args.memory.now
    (c.loop-part.invariant.memory, c.loop-part.invariant.place) x c.loop-part-test.true c.part-item.is r c.put_words-end.result c.put_words-end.new.memory
    (subst (λ (u : List ℕ). Puts c.loop-part.end u m c.put_words-end.result c.put_words-end.new.memory) v (c.put_words-end.ensures.memory, c.put_words-end.ensures.value)) in
    record { memory = p.0; place = p.1 }
