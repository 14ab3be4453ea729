use Rattle.std.proofs.Common.{◌≡◌, ◌<◌, length, sym, refl, arith}
use Rattle.std.proofs.lemmas.Bool.Decides.{nat_tests}
use Rattle.grammar.specs.Parts.{parts}
use Rattle.grammar.proofs.Sizes.{heads_length}
use Rattle.rules.proofs.Tails.{heads_within, tail_bound, tail_free}
use Rattle.rules.proofs.check.rule_fault.Goals as goal

pub slice_bounds-first_free-count : goal.slice_bounds-first_free-count
slice_bounds-first_free-count c = heads_within (parts c.args.rule.now) c.args.ws.now c.heads_size-heads.result c.requires.words c.heads_size-heads.ensures.value

pub slice_bounds-first_free-start : goal.slice_bounds-first_free-start
slice_bounds-first_free-start c = heads_within (parts c.args.rule.now) c.args.ws.now c.heads_size-heads.result c.requires.words c.heads_size-heads.ensures.value

pub returns-in-Some-clause-fault : goal.returns-in-Some-clause-fault
returns-in-Some-clause-fault c = (
  c.in-Some.n,
  tail_free (parts c.args.rule.now) c.args.ws.now c.heads_size-heads.result c.requires.words c.heads_size-heads.ensures.value c.in-Some.n (sym c.in-Some.ensures),
  omega (arith, c.heads_size-heads.ensures.value, heads_length (parts c.args.rule.now)),
)

pub returns-then-is_empty-clause-fault : goal.returns-then-is_empty-clause-fault
returns-then-is_empty-clause-fault c =
    let e = c.if-is_empty.ensures in
    let z : length c.args.rule.now.taken.items ≡ 0 = grind (arith, nat_tests) in
    (tail_bound (parts c.args.rule.now) c.args.ws.now c.heads_size-heads.result c.requires.words c.heads_size-heads.ensures.value (sym c.in_default.ensures), z, refl)

pub returns-then-rule-last-clause-fault : goal.returns-then-rule-last-clause-fault
returns-then-rule-last-clause-fault c =
    let e = c.if-is_empty.ensures in
    let z : 0 < length c.args.rule.now.taken.items = grind (arith, nat_tests) in
    (record { bound = tail_bound (parts c.args.rule.now) c.args.ws.now c.heads_size-heads.result c.requires.words c.heads_size-heads.ensures.value (sym c.in_default.ensures); takes = z }, c.if-rule-last.true, refl)

pub returns-clause-sound : goal.returns-clause-sound
returns-clause-sound c =
    let e = c.if-is_empty.ensures in
    let z : 0 < length c.args.rule.now.taken.items = grind (arith, nat_tests) in
    record { bound = tail_bound (parts c.args.rule.now) c.args.ws.now c.heads_size-heads.result c.requires.words c.heads_size-heads.ensures.value (sym c.in_default.ensures); takes = z }
