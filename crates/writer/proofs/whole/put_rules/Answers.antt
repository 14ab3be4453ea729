use Rattle.std.proofs.Common.{◌≡◌, ◌+◌, length, drop, zero-add, ◌∙◌, arith}
use mathlib.Core.Logic.{∥∥₁_map}
use Rattle.std.specs.List.{flat_map}
use Rattle.writer.specs.Tables.{words_of, FormedRuleOf}
use Rattle.writer.proofs.Rows.{all_at, puts_next}
use Rattle.writer.proofs.whole.put_rules.Goals as goal

pub put_rule-end-requires-clause-formed : goal.put_rule-end-requires-clause-formed
put_rule-end-requires-clause-formed c =
    ∥∥₁_map c.requires.formed (all_at FormedRuleOf c.args.rules.now c.loop-rule.rule-index c.rule-item.result c.loop-rule-test.true c.rule-item.is)

pub loop-rule-preserved : goal.loop-rule-preserved
loop-rule-preserved c =
    let m = c.loop-rule.memory in
    let all = flat_map words_of c.args.rules.now in
    let e : c.loop-rule.end + length (flat_map words_of (drop c.loop-rule.rule-index c.args.rules.now)) ≡ 0 + length all = omega arith in
    let p = puts_next words_of c.args.rules.now c.loop-rule.rule-index c.loop-rule.end m 0 all c.args.memory.now
    (c.loop-rule.invariant.memory, e) c.rule-item.result c.loop-rule-test.true c.rule-item.is (omega arith) c.put_rule-end.result c.put_rule-end.new.memory
    (c.put_rule-end.ensures.memory, c.put_rule-end.ensures.value) in
    record { memory = p.0; place = p.1 ∙ zero-add (length all) }
