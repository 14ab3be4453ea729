use Rattle.std.proofs.Common.{◌≡◌, Bool, cond, ◌&&◌, List, ◌++◌, length, map, ℤ, refl, ap, ◌∙◌, arith}
use Rattle.std.proofs.lemmas.List.{length-append}
use Rattle.facts.specs.Meanings.{read_meaning}
use Rattle.grammar.specs.Parts.{seen}
use Rattle.matching.specs.Heads.{all_fit, met, bind_all, unbound}
use Rattle.matching.specs.Applying.{heads}
use Rattle.matching.proofs.Meetings.{unfit, none_met, fit_parts, bind_parts}
use Rattle.matching.proofs.heads.bound.Goals as goal

pub returns-then-facts-kept : goal.returns-then-facts-kept
returns-then-facts-kept c =
    let rule = c.args.rule in
    let fs = c.args.facts.now in
    let no = unfit (heads (seen rule)) fs (λ e. omega (arith, e, length-append rule.kept.now rule.taken.now)) in
    record { fit = no; numbers = none_met (heads (seen rule)) (map read_meaning fs) no }

pub returns-then-not-bind_each : goal.returns-then-not-bind_each
returns-then-not-bind_each c =
    let ks = c.args.rule.kept.now in
    let ts = c.args.rule.taken.now in
    let fs = c.args.facts.now in
    let front = c.split_at.result.0.now in
    let back = c.split_at.result.1.now in
    let as_many : length front ≡ length ks = omega (arith, c.split_at.ensures.front_len) in
    let rest = all_fit ts (map read_meaning back) in
    let no = ap (λ (b : Bool). b && rest) c.if-not-bind_each.ensures.fit ∙ fit_parts ks ts fs front back c.split_at.ensures.by_index.0 as_many in
    record { fit = no; numbers = none_met (ks ++ ts) (map read_meaning fs) no }

pub returns-then-not-bind_each-2 : goal.returns-then-not-bind_each-2
returns-then-not-bind_each-2 c =
    let ks = c.args.rule.kept.now in
    let ts = c.args.rule.taken.now in
    let fs = c.args.facts.now in
    let front = c.split_at.result.0.now in
    let back = c.split_at.result.1.now in
    let as_many : length front ≡ length ks = omega (arith, c.split_at.ensures.front_len) in
    let rest = all_fit ts (map read_meaning back) in
    let no = c.if-not-bind_each-2.ensures.fit ∙ ap (λ (b : Bool). b && rest) c.if-not-bind_each.ensures.fit ∙ fit_parts ks ts fs front back c.split_at.ensures.by_index.0 as_many in
    record { fit = no; numbers = none_met (ks ++ ts) (map read_meaning fs) no }

pub returns : goal.returns
returns c =
    let ks = c.args.rule.kept.now in
    let ts = c.args.rule.taken.now in
    let fs = c.args.facts.now in
    let front = c.split_at.result.0.now in
    let back = c.split_at.result.1.now in
    let as_many : length front ≡ length ks = omega (arith, c.split_at.ensures.front_len) in
    let rest = all_fit ts (map read_meaning back) in
    let fit = c.if-not-bind_each-2.ensures.fit ∙ ap (λ (b : Bool). b && rest) c.if-not-bind_each.ensures.fit ∙ fit_parts ks ts fs front back c.split_at.ensures.by_index.0 as_many in
    let later = met ts (map read_meaning back) in
    let all = met (ks ++ ts) (map read_meaning fs) in
    record {
      fit = fit;
      numbers = c.if-not-bind_each-2.ensures.bound refl ∙ ap (λ (ns : List ℤ). bind_all ns later) (c.if-not-bind_each.ensures.bound refl) ∙ bind_parts ks ts fs front back c.split_at.ensures.by_index.0 as_many c.unbound-values.result.numbers ∙ ap (λ (ns : List ℤ). bind_all ns all) c.unbound-values.ensures ∙ ap (λ (b : Bool). cond b (bind_all unbound all) unbound) fit;
    }
