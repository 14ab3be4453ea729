use Rattle.std.proofs.Common.{◌≡◌, ◌≤◌, true, List, [], ◌∷◌, ◌++◌, length, ℤ, sym, ap, ◌∙◌, arith, rules}
use Rattle.std.specs.List.{list_all, zip, fold}
use Rattle.std.proofs.lemmas.List.{length_push, drop_all}
use Rattle.std.proofs.lemmas.List.Folds.{list_all_at}
use Rattle.std.proofs.lemmas.Bool.{false≢true}
use Rattle.std.proofs.lemmas.Iterator.Consumers.{YieldsList-turn, YieldsList-end}
use Rattle.facts.specs.Meanings.{ReadFact}
use Rattle.grammar.specs.Atoms.{Head}
use Rattle.matching.proofs.Meetings.{pair_fits, with_pair, left, heads_fit, heads_bind, unfit, fit_next, bind_next}
use Rattle.matching.proofs.Roads.{slices_give}
use Rattle.matching.proofs.heads.bind_each.Goals as goal

pub returns-then-heads-facts : goal.returns-then-heads-facts
returns-then-heads-facts c =
    record {
      fit = unfit c.args.heads.now c.args.facts.now (λ e. c.if-heads-facts.true (sym e));
      bound = λ e. absurd (false≢true e);
    }

pub returns-then-not-head_fits : goal.returns-then-not-head_fits
returns-then-not-head_fits c =
    let hs = c.args.heads.now in
    let fs = c.args.facts.now in
    let p : Head × ReadFact = (c.in-Some.head.now, c.in-Some.fact.now) in
    let road = slices_give {s = c.into_iter-head-iterator.result} hs fs (search rules) (search rules) in
    let turn = YieldsList-turn road c.loop-head.yielded c.loop-head.head-iterator c.loop-head.yielded_by c.next.result c.next.new.self (c.in-Some.head, c.in-Some.fact) c.in-Some.is c.next.ensures.steps in
    let no = list_all_at pair_fits (zip hs fs) (length c.loop-head.yielded) p turn.0 (ap pair_fits (sym turn.1) ∙ sym c.if-not-head_fits.ensures) in
    record {
      fit = sym no ∙ heads_fit hs fs (sym c.if-heads-facts.false);
      bound = λ e. absurd (false≢true e);
    }

pub loop-head-preserved : goal.loop-head-preserved
loop-head-preserved c =
    let hs = c.args.heads.now in
    let fs = c.args.facts.now in
    let p : Head × ReadFact = (c.in-Some.head.now, c.in-Some.fact.now) in
    let road = slices_give {s = c.into_iter-head-iterator.result} hs fs (search rules) (search rules) in
    let turn = YieldsList-turn road c.loop-head.yielded c.loop-head.head-iterator c.loop-head.yielded_by c.next.result c.next.new.self (c.in-Some.head, c.in-Some.fact) c.in-Some.is c.next.ensures.steps in
    let i = length c.loop-head.yielded in
    let more = length_push c.loop-head.yielded (c.in-Some.head, c.in-Some.fact) in
    record {
      fit = c.loop-head.invariant.fit ∙ fit_next hs fs i _ p more turn.0 turn.1 (sym c.if-not-head_fits.ensures);
      numbers = c.loop-head.invariant.numbers ∙ bind_next hs fs i _ p more turn.0 turn.1 c.loop-head.values.numbers ∙ ap (λ (ns : List ℤ). fold with_pair ns (left hs fs (length (c.loop-head.yielded ++ ((c.in-Some.head, c.in-Some.fact) ∷ []))))) (sym c.bind.ensures);
    }

pub returns : goal.returns
returns c =
    let hs = c.args.heads.now in
    let fs = c.args.facts.now in
    let road = slices_give {s = c.into_iter-head-iterator.result} hs fs (search rules) (search rules) in
    let last = YieldsList-end road c.loop-head.yielded c.loop-head.head-iterator c.loop-head.yielded_by c.next.result c.next.new.self c.in-None.is c.next.ensures.steps in
    let past : length (zip hs fs) ≤ length c.loop-head.yielded = omega (arith, last.1) in
    let none = drop_all (length c.loop-head.yielded) (zip hs fs) past in
    let fit : list_all pair_fits (zip hs fs) ≡ true = c.loop-head.invariant.fit ∙ ap (list_all pair_fits) none in
    record {
      fit = sym fit ∙ heads_fit hs fs (sym c.if-heads-facts.false);
      bound = λ _. sym (c.loop-head.invariant.numbers ∙ ap (fold with_pair c.loop-head.values.numbers) none) ∙ heads_bind c.args.values.now.numbers hs fs fit;
    }
