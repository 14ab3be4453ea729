use Rattle.std.proofs.Common.{◌∙◌}
use Rattle.writer.proofs.Adds.{wrote_part}
use Rattle.writer.proofs.tally.Tally.add.Goals as goal

pub returns : goal.returns
returns c =
    wrote_part c.args.self c.args.part c.deref-2.result.now c.args.memory.now c.add_words.new.memory c.in_ok-used.used c.with.result
    (c.in-Some.ensures.0, c.has_place.ensures.0 c.if-not-has_place.false) (c.deref-2.ensures.0 ∙ c.in-Some.ensures.1)
    (c.binds.ensures.0 c.if-not-binds.false) c.in_ok-used.ensures c.with.ensures
