use Rattle.std.proofs.lemmas.Result.{err_from_is_err_and}
use Rattle.rules.proofs.Steps.{rule_no_body, rule_ok}
use Rattle.rules.proofs.rule.read_rule.Goals as goal

pub returns-in_err-body : goal.returns-in_err-body
returns-in_err-body c =
    let p = err_from_is_err_and c.from_residual-in_err-body.result c.from_residual-in_err-body.ensures.1 in
    rw (p.1, p.2)
    (rule_no_body c.args.label c.args.ws.now _ _ c.in_ok-kept.ensures.reads _ c.len.ensures.value _ _ c.in_ok-taken.ensures.reads
    _ _ c.len-2.ensures.value c.len-3.ensures.value c.if-len-eq0.false _ _ c.in_ok-guards.ensures.reads _ _ c.in_err-body.ensures.reads)

pub returns : goal.returns
returns c =
    rule_ok c.args.label c.args.ws.now _ _ c.in_ok-kept.ensures.reads _ c.len.ensures.value _ _ c.in_ok-taken.ensures.reads
    _ _ c.len-2.ensures.value c.len-3.ensures.value c.if-len-eq0.false _ _ c.in_ok-guards.ensures.reads _ _ c.in_ok-body.ensures.reads
