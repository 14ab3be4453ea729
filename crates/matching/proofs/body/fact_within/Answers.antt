use Rattle.std.proofs.Common.{rules, tests}
use Rattle.std.proofs.lemmas.Iterator.Search.{all_from_yields_List}
use Rattle.std.proofs.lemmas.Iterator.Consumers.{YieldsList-from_first}
use Rattle.args.specs.Listed.{listed}
use Rattle.matching.specs.Terms.{term_value}
use Rattle.matching.specs.Applying.{within}
use Rattle.matching.proofs.body.fact_within.Goals as goal

pub returns : goal.returns
returns c =
    all_from_yields_List (λ t. within c.args.ends.low c.args.ends.high (term_value c.args.values.now.numbers t)) _ _ _ c.all.ensures.ran (YieldsList-from_first (λ x. x) (λ s. listed s.rest) (listed c.args.fact.now.args) cc) (λ x b q k. search (rules, tests))
