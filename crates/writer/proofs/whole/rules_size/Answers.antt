use Rattle.std.proofs.Common.{◌≡◌, sum_by, sym, ◌∙◌, rules}
use Rattle.grammar.specs.Parts.{parts}
use Rattle.grammar.specs.Sizes.{rule_size}
use Rattle.grammar.proofs.Sizes.{length_joined, rule_length}
use Rattle.writer.specs.Tables.{words_of}
use Rattle.writer.proofs.whole.rules_size.Goals as goal

pub returns : goal.returns
returns c =
    let s : c.sum.result ≡ sum_by (λ r. rule_size (parts r)) c.args.rules.now = search rules in
    s ∙ sym (length_joined words_of (λ r. rule_size (parts r)) (λ r. rule_length (parts r)) c.args.rules.now)
