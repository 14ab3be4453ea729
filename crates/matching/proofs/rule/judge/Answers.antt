use Rattle.std.proofs.Common.{map, sym, subst, ◌∙◌}
use Rattle.facts.specs.Meanings.{read_meaning}
use Rattle.grammar.specs.Parts.{seen}
use Rattle.matching.specs.Conditions.{Decided}
use Rattle.matching.proofs.Deciding.{decided}
use Rattle.matching.proofs.Laws.{rewrite_stands}
use Rattle.matching.proofs.rule.judge.Goals as goal

pub returns-clause-decided : goal.returns-clause-decided
returns-clause-decided c =
    let ends = c.args.ends in
    let rule = seen c.args.rule in
    let facts = map read_meaning c.args.facts.now in
    subst (Decided ends.low ends.high rule facts) (sym c.verdict_on.ensures) (decided rule facts ends.low ends.high)

pub returns-clause-rewrites : goal.returns-clause-rewrites
returns-clause-rewrites c =
    λ e others. rewrite_stands c.args.ends.low c.args.ends.high (seen c.args.rule) (map read_meaning c.args.facts.now) others (sym c.verdict_on.ensures ∙ e)
