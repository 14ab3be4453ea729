use Rattle.std.proofs.Common.{rules}
use Rattle.std.proofs.lemmas.Iterator.{YieldsList-from_slice}
use Rattle.std.proofs.lemmas.Iterator.Consumers.{YieldsList-from_chain}
use Rattle.std.proofs.lemmas.Iterator.Search.{any_from_yields_List}
use Rattle.grammar.specs.Validity.{head_has}
use Rattle.rules.proofs.check.is_bound.Goals as goal

pub returns : goal.returns
returns c =
    let f = head_has c.args.variable in
    let ks = c.args.rule.now.kept.items in
    let ts = c.args.rule.now.taken.items in
    let kept = YieldsList-from_slice {s = c.chain.result.a} ks (search rules) in
    let taken = YieldsList-from_slice {s = c.chain.result.b} ts (search rules) in
    let both = YieldsList-from_chain {s = c.chain.result} kept taken (search rules) (search rules) in
    any_from_yields_List f _ _ c.any.result c.any.ensures.ran both (λ x b q k. search rules)
