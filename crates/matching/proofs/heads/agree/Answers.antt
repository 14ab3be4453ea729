use Rattle.std.proofs.Common.{◌∙◌, rules, tests}
use Rattle.std.proofs.lemmas.Iterator.Search.{all_from_yields_List}
use Rattle.grammar.specs.Parts.{seen}
use Rattle.matching.specs.Heads.{agree}
use Rattle.matching.specs.Applying.{heads}
use Rattle.matching.proofs.Meetings.{pair_met, heads_agree}
use Rattle.matching.proofs.Roads.{pairs_give}
use Rattle.matching.proofs.heads.agree.Goals as goal

pub returns : goal.returns
returns c =
    let hs = heads (seen c.args.rule) in
    let fs = c.args.facts.now in
    let ns = c.args.values.now.numbers in
    all_from_yields_List (λ p. agree ns (pair_met p)) c.all.new.self _ c.all.result c.all.ensures.ran (pairs_give {s = c.zip.result} c.heads.result hs fs c.zip.ensures.first c.heads.ensures c.zip.ensures.second.0) (λ x b q k. search (rules, tests)) ∙ heads_agree ns hs fs c.requires
