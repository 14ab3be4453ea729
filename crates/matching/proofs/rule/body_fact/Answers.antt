use Rattle.std.proofs.Common.{◌≡◌, map, List, ℤ, sym, ap, ◌∙◌, subst}
use Rattle.facts.specs.Lists.{Nth}
use Rattle.facts.specs.Meanings.{Meaning, read_meaning}
use Rattle.grammar.specs.Atoms.{BodyFact}
use Rattle.grammar.specs.Parts.{seen}
use Rattle.matching.specs.Applying.{values, written, body}
use Rattle.matching.proofs.Bodies.{nth_map}
use Rattle.matching.proofs.Laws.{body_is_exact}
use Rattle.matching.proofs.rule.body_fact.Goals as goal

pub returns : goal.returns
returns c =
    let low = c.args.ends.low in
    let high = c.args.ends.high in
    let rule = seen c.args.rule in
    let facts = map read_meaning c.args.facts.now in
    let found = c.in_ok-fact.ensures.lookup in
    let written_fact = read_meaning c.fact_written.result in
    let write : BodyFact → Meaning = λ b. written low high (values rule facts) b in
    let is : written_fact ≡ write c.in_ok-fact.fact.now = c.fact_written.ensures.meaning ∙ ap (λ (ns : List ℤ). written low high ns c.in_ok-fact.fact.now) c.values_of.ensures in
    let there : Nth (body low high rule facts) c.args.index written_fact = nth_map write rule.body c.args.index c.in_ok-fact.fact.now written_fact found.3.0 (is ∙ ap write found.1) in
    record {
      meaning = there;
      spare = λ others e. subst (λ (ms : List Meaning). Nth (body low high rule ms) c.args.index written_fact) (sym e) there;
      exact = λ e. subst (λ (ms : List Meaning). Nth ms c.args.index written_fact) (body_is_exact low high rule facts e) there;
      between = c.fact_written.ensures.between;
    }
