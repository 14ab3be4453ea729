use Rattle.std.proofs.Common.{◌≡◌, ℕ, ◌-◌, List, map, length, Ok, Err, ap, ◌∙◌, subst, rules}
use Rattle.grammar.specs.declared.rule.Rule.{Rule}
use Rattle.grammar.specs.Parts.{Parts, parts}
use Rattle.grammar.specs.Validity.{Valid}
use Rattle.grammar.specs.Reading.{ok, no, read_table}
use Rattle.grammar.specs.Writing.{standard, written}
use Rattle.std.proofs.lemmas.Result.{err_from_is_err_and}
use Rattle.grammar.specs.Faults.{rule_words_to}
use Rattle.rules.specs.declared.fault.Fault.{Fault}
use Rattle.rules.specs.declared.refusal.LoadFault.{LoadFault}
use Rattle.rules.specs.Faults.{FirstFault}
use Rattle.rules.specs.Loading.{fault_of}
use Rattle.rules.proofs.Loads.{mapped_ok, mapped_err, adds_first, refused_loads, word_accepts, lent, table_formed, table_words, table_left, table_used, table_same, fault_loads, fault_accepts}
use Rattle.rules.proofs.loader.load.Goals as goal

pub returns-in_err-rest : goal.returns-in_err-rest
returns-in_err-rest c =
    let x = c.in_err-rest.field-0.0 in
    let k = mapped_err {E = Fault} _ _ _ x c.map_err.ensures.cases c.in_err-rest.was in
    let was : c.read_rules.result ≡ Err k.0 = k.1 in
    let h : read_table standard c.args.words.now ≡ no k.0.reason k.0.left = rw was at (adds_first {A = Parts} (map parts c.new-rules.result.items) (read_table standard c.args.words.now) (map parts c.read_rules.new.rules.items) c.read_rules.result (ap (map parts) c.new-rules.ensures) c.read_rules.ensures) in
    let said = k.2 in
    let fault : x.fault ≡ fault_of k.0.reason = search rules in
    let place : x.place ≡ length c.args.words.now - k.0.left = search rules in
    let counted : x.rules ≡ rule_words_to c.args.words.now x.place = search rules in
    let p = err_from_is_err_and c.from_residual.result c.from_residual.ensures.1 in
    rw (p.1, p.2)
    (record {
      loads = refused_loads c.args.words.now _ _ h x fault place counted;
      accepts = word_accepts c.args.words.now _ _ h;
    })

pub first_fault-requires : goal.first_fault-requires
first_fault-requires c =
    let k : c.read_rules.result ≡ Ok c.in_ok-rest.rest = mapped_ok _ _ _ _ c.map_err.ensures.cases c.in_ok-rest.was in
    let h : read_table standard c.args.words.now ≡ ok (map parts c.read_rules.new.rules.items) c.in_ok-rest.rest.now = rw k at (adds_first {A = Parts} (map parts c.new-rules.result.items) (read_table standard c.args.words.now) (map parts c.read_rules.new.rules.items) c.read_rules.result (ap (map parts) c.new-rules.ensures) c.read_rules.ensures) in
    let g = lent c.args.words.now c.in_ok-rest.rest.now c.read_rules.new.rules.items c.deref.result.now h c.deref.ensures.0 in
    record { formed = table_formed c.args.words.now _ _ g; begins = (c.in_ok-rest.rest.now, table_words c.args.words.now _ _ g) }

pub returns-in_err-map_err : goal.returns-in_err-map_err
returns-in_err-map_err c =
    let x = c.in_err-map_err.field-0.0 in
    let k : c.read_rules.result ≡ Ok c.in_ok-rest.rest = mapped_ok _ _ _ _ c.map_err.ensures.cases c.in_ok-rest.was in
    let h : read_table standard c.args.words.now ≡ ok (map parts c.read_rules.new.rules.items) c.in_ok-rest.rest.now = rw k at (adds_first {A = Parts} (map parts c.new-rules.result.items) (read_table standard c.args.words.now) (map parts c.read_rules.new.rules.items) c.read_rules.result (ap (map parts) c.new-rules.ensures) c.read_rules.ensures) in
    let g = lent c.args.words.now c.in_ok-rest.rest.now c.read_rules.new.rules.items c.deref.result.now h c.deref.ensures.0 in
    let e = mapped_err {E = LoadFault × ℕ} _ _ _ x c.map_err-2.ensures.cases c.in_err-map_err.was in
    let was : c.first_fault.result ≡ Err e.0 = e.1 in
    let f : FirstFault (map parts c.deref.result.now) e.0.0 e.0.1 = rw was at c.first_fault.ensures.fault in
    let said = e.2 in
    let fault : x.fault ≡ e.0.0 = search rules in
    let place : x.place ≡ e.0.1 = search rules in
    let counted : x.rules ≡ rule_words_to c.args.words.now e.0.1 = search rules in
    let p = err_from_is_err_and c.from_residual-in_err-map_err.result c.from_residual-in_err-map_err.ensures.1 in
    rw (p.1, p.2)
    (record {
      loads = fault_loads c.args.words.now _ _ g x e.0.0 e.0.1 f fault place counted;
      accepts = fault_accepts c.args.words.now _ _ g e.0.0 e.0.1 f;
    })

pub overflow_sub-result : goal.overflow_sub-result
overflow_sub-result c =
    let k : c.read_rules.result ≡ Ok c.in_ok-rest.rest = mapped_ok _ _ _ _ c.map_err.ensures.cases c.in_ok-rest.was in
    let h : read_table standard c.args.words.now ≡ ok (map parts c.read_rules.new.rules.items) c.in_ok-rest.rest.now = rw k at (adds_first {A = Parts} (map parts c.new-rules.result.items) (read_table standard c.args.words.now) (map parts c.read_rules.new.rules.items) c.read_rules.result (ap (map parts) c.new-rules.ensures) c.read_rules.ensures) in
    table_left c.args.words.now _ _ h

pub returns : goal.returns
returns c =
    let k : c.read_rules.result ≡ Ok c.in_ok-rest.rest = mapped_ok _ _ _ _ c.map_err.ensures.cases c.in_ok-rest.was in
    let h : read_table standard c.args.words.now ≡ ok (map parts c.read_rules.new.rules.items) c.in_ok-rest.rest.now = rw k at (adds_first {A = Parts} (map parts c.new-rules.result.items) (read_table standard c.args.words.now) (map parts c.read_rules.new.rules.items) c.read_rules.result (ap (map parts) c.new-rules.ensures) c.read_rules.ensures) in
    let u = table_used c.args.words.now _ _ h in
    let same = table_same c.args.words.now _ _ h in
    let good : c.first_fault.result ≡ Ok tt = mapped_ok _ _ _ _ c.map_err-2.ensures.cases c.in_ok-map_err.was in
    let sound : Valid (map parts c.deref.result.now) = rw good at c.first_fault.ensures.valid in
    let valid = subst (λ (rs : List Rule). Valid (map parts rs)) c.deref.ensures.0 sound in
    record {
      loads = (valid, u, (c.in_ok-rest.rest.now, table_words c.args.words.now _ _ h));
      accepts = λ rs us v e. (same rs us v e, u ∙ ap (λ qs. length (written qs)) (same rs us v e));
    }
