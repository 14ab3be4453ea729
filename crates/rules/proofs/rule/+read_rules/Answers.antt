use Rattle.std.proofs.Common.{◌≡◌, ℕ, ◌-◌, ◌<◌, true, List, map, sym, ap, ◌∙◌, subst, rules}
use Rattle.std.proofs.lemmas.List.{map_push}
use Rattle.words.specs.Words.{tag, kind_of, payload_of, clean, label_in}
use Rattle.grammar.specs.Parts.{Parts, parts}
use Rattle.grammar.specs.Writing.{standard}
use Rattle.grammar.specs.Reading.{ok, read_rule, read_rules}
use Rattle.rules.specs.Progress.{front}
use Rattle.rules.proofs.Steps.{rules_more, adds_more}
use Rattle.rules.proofs.rule.+read_rules.Goals as goal

pub returns-in_ok-rule-in-Rule : goal.returns-in_ok-rule-in-Rule
returns-in_ok-rule-in-Rule t c =
    let w : ℕ = c.in_ok-first.first in
    let rule = c.in_ok-rule-in-Rule.rule in
    let next = c.in_ok-rule-in-Rule.next.now in
    let i = c.from-word.ensures.0 in
    let j = c.from-word.ensures.1 in
    let a = c.in-Rule.is in
    let b = c.in_ok-unless-in-Rule.ensures.passes in
    let f = c.is_clean-in-Rule.ensures in
    let room : 0 < c.args.room = search rules in
    let k : tag c.from-word.result.kind ≡ 1 = ap tag a in
    let e : kind_of w ≡ 1 = sym i ∙ k in
    let d : clean w ≡ true = cc in
    let r : read_rule standard (label_in (payload_of w)) c.in_ok-first.after.now ≡ ok (parts rule) next
    = subst (λ (n : ℕ). read_rule standard n c.in_ok-first.after.now ≡ ok (parts rule) next) (c.label.ensures ∙ ap label_in j) c.in_ok-rule-in-Rule.ensures in
    let more
    : front (map parts c.args.rules.now.items) (read_rules standard c.args.room c.args.ws.now)
    ≡ front (map parts c.push.new.self.items) (read_rules standard (c.args.room - 1) next)
    = rules_more c.args.room (map parts c.args.rules.now.items) c.args.ws.now w c.in_ok-first.after.now (search rules) e d room (parts rule) next r
    ∙ ap (λ (xs : List Parts). front xs (read_rules standard (c.args.room - 1) next)) (sym (ap (map parts) c.push.ensures.items ∙ map_push parts c.args.rules.now.items rule)) in
    adds_more _ _ _ _ _ c.read_rules.result more c.read_rules.ensures
