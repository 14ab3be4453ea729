use Rattle.std.proofs.Common.{◌≡◌, ℕ, ◌+◌, ◌<◌, ◌≤◌, length, Ok, Err, arith, rules}
use Rattle.std.proofs.lemmas.Result.{err_from_is_err_and}
use Rattle.grammar.specs.Parts.{parts}
use Rattle.grammar.specs.Validity.{Sound}
use Rattle.rules.proofs.Loads.{mapped_ok, mapped_err}
use Rattle.rules.specs.declared.refusal.LoadFault.{LoadFault}
use Rattle.rules.specs.Faults.{RuleFault}
use Rattle.rules.proofs.Walk.{rule_formed, rule_found, rule_inside, rule_written, fault_inside, walked_more, walked_all}
use Rattle.rules.proofs.check.first_fault.Goals as goal

pub overflow_add-at : goal.overflow_add-at
overflow_add-at c =
    let h = rule_inside c.args.rules.now c.args.ws.now c.requires.formed c.requires.begins c.loop-rule.rule-index c.loop-rule.at c.loop-rule.last
    c.loop-rule.invariant c.rule-item.result c.loop-rule-test.true c.rule-item.is c.rule_size-size.result c.rule_size-size.ensures.value in
    omega arith

pub offset_bounds-ws-at : goal.offset_bounds-ws-at
offset_bounds-ws-at c =
    let h = rule_inside c.args.rules.now c.args.ws.now c.requires.formed c.requires.begins c.loop-rule.rule-index c.loop-rule.at c.loop-rule.last
    c.loop-rule.invariant c.rule-item.result c.loop-rule-test.true c.rule-item.is c.rule_size-size.result c.rule_size-size.ensures.value in
    omega arith

pub slice_bounds-rule_fault-end : goal.slice_bounds-rule_fault-end
slice_bounds-rule_fault-end c =
    let h = rule_inside c.args.rules.now c.args.ws.now c.requires.formed c.requires.begins c.loop-rule.rule-index c.loop-rule.at c.loop-rule.last
    c.loop-rule.invariant c.rule-item.result c.loop-rule-test.true c.rule-item.is c.rule_size-size.result c.rule_size-size.ensures.value in
    omega arith

pub overflow_add-at-in-loop-rule : goal.overflow_add-at-in-loop-rule
overflow_add-at-in-loop-rule c =
    let h = rule_inside c.args.rules.now c.args.ws.now c.requires.formed c.requires.begins c.loop-rule.rule-index c.loop-rule.at c.loop-rule.last
    c.loop-rule.invariant c.rule-item.result c.loop-rule-test.true c.rule-item.is c.rule_size-size.result c.rule_size-size.ensures.value in
    omega arith

pub rule_fault-requires : goal.rule_fault-requires
rule_fault-requires c =
    record {
      formed = rule_formed c.args.rules.now c.args.ws.now c.requires.formed c.requires.begins c.loop-rule.rule-index c.loop-rule.at c.loop-rule.last
          c.loop-rule.invariant c.rule-item.result c.loop-rule-test.true c.rule-item.is;
      words = rule_written c.args.rules.now c.args.ws.now c.requires.formed c.requires.begins c.loop-rule.rule-index c.loop-rule.at c.loop-rule.last
          c.loop-rule.invariant c.rule-item.result c.loop-rule-test.true c.rule-item.is c.rule_size-size.result c.rule_size-size.ensures.value;
    }

pub map_err-requires : goal.map_err-requires
map_err-requires c =
    let inside : (x : LoadFault × ℕ) → c.rule_fault.result ≡ Err x → c.loop-rule.at + x.1 ≤ length c.args.ws.now
    = λ x q. (let f : RuleFault (parts c.rule-item.result) c.loop-rule.last x.0 x.1 = rw q at c.rule_fault.ensures.fault in
    fault_inside c.args.rules.now c.args.ws.now c.requires.formed c.requires.begins c.loop-rule.rule-index c.loop-rule.at c.loop-rule.last
    c.loop-rule.invariant c.rule-item.result c.loop-rule-test.true c.rule-item.is c.rule_size-size.result c.rule_size-size.ensures.value x.0 x.1 f) in
    λ x q. (let h = inside x q in search rules)

pub returns-in_err-map_err-clause-fault : goal.returns-in_err-map_err-clause-fault
returns-in_err-map_err-clause-fault c =
    let x = c.in_err-map_err.field-0.0 in
    let k = mapped_err {E = LoadFault × ℕ} _ _ _ x c.map_err.ensures.cases c.in_err-map_err.was in
    let was : c.rule_fault.result ≡ Err k.0 = k.1 in
    let f : RuleFault (parts c.rule-item.result) c.loop-rule.last k.0.0 k.0.1 = rw was at c.rule_fault.ensures.fault in
    let said = k.2 in
    let fault : x.0 ≡ k.0.0 = search rules in
    let place : x.1 ≡ c.loop-rule.at + k.0.1 = search rules in
    let p = err_from_is_err_and c.from_residual.result c.from_residual.ensures.1 in
    rw (p.1, p.2)
    (rule_found c.args.rules.now c.args.ws.now c.requires.formed c.requires.begins c.loop-rule.rule-index c.loop-rule.at c.loop-rule.last
    c.loop-rule.invariant c.rule-item.result c.loop-rule-test.true c.rule-item.is k.0.0 k.0.1 f x.0 x.1 fault place)

pub loop-rule-preserved : goal.loop-rule-preserved
loop-rule-preserved c =
    let good : c.rule_fault.result ≡ Ok tt = mapped_ok _ _ _ _ c.map_err.ensures.cases c.in_ok-map_err.was in
    let sound : Sound (parts c.rule-item.result) = rw good at c.rule_fault.ensures.sound in
    let rises : c.loop-rule.last < c.rule-item.result.label = rw good at c.rule_fault.ensures.rises in
    walked_more c.args.rules.now c.args.ws.now c.requires.formed c.requires.begins c.loop-rule.rule-index c.loop-rule.at c.loop-rule.last
    c.loop-rule.invariant c.rule-item.result c.loop-rule-test.true c.rule-item.is c.rule_size-size.result c.rule_size-size.ensures.value sound rises

pub returns-clause-valid : goal.returns-clause-valid
returns-clause-valid c =
    walked_all c.args.rules.now c.loop-rule.rule-index c.loop-rule.at c.loop-rule.last c.requires.formed c.loop-rule.invariant c.loop-rule-test.false
