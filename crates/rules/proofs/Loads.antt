-- What was read is what the loader promises.
use Rattle.std.proofs.Common.{◌≡◌, ℕ, zero, suc, ◌-◌, ◌<◌, ◌≤◌, false, List, [], ◌∷◌, ◌++◌, map, length, take, Result, Ok, Err, IsErrAnd, MatchResult, refl, sym, ap, ◌∙◌, subst, arith, length-append, Bor}
use Rattle.facts.specs.Lists.{Nth}
use Rattle.grammar.specs.declared.reason.Reason.{Reason}
use Rattle.grammar.specs.declared.reason.Reason.TheVariants.{OutOfTurn as TurnReason, StrayBit as BitReason, OutOfRange as RangeReason}
use Rattle.grammar.specs.declared.rule.Rule.{Rule}
use Rattle.grammar.specs.Parts.{Parts, parts}
use Rattle.grammar.specs.Writing.{standard, Formed, tail_words, written}
use Rattle.grammar.specs.Reading.{Parsed, ok, no, read_table}
use Rattle.rules.specs.Progress.{Adds}
use Rattle.rules.specs.declared.fault.Fault.{Fault}
use Rattle.grammar.specs.Faults.{Faulty, rule_words_to}
use Rattle.grammar.specs.Validity.{free, Sound, Rising, Valid, last_label}
use Rattle.grammar.proofs.Codec.{table_all, table_only}
use Rattle.grammar.proofs.Law.{faulty}
use Rattle.rules.specs.declared.refusal.LoadFault.{LoadFault}
use Rattle.rules.specs.declared.refusal.LoadFault.TheVariants.{OutOfTurn, StrayBit, OutOfRange, Unbound, NoTaken, Label}
use Rattle.rules.specs.Faults.{RuleFault, FirstFault}
use Rattle.rules.specs.declared.refusal.Refusal.{Refusal}
use Rattle.rules.specs.Loading.{fault_of, Wrong, Loads}
use Rattle.facts.proofs.Nths.{all_nth}

ok_same : {T E : Type 0} (r : Result T E) (x y : T) → r ≡ Ok x → r ≡ Ok y → x ≡ y
ok_same r x y h e = cc

not_both : {T E : Type 0} (r : Result T E) (x : T) (d : E) → r ≡ Ok x → r ≡ Err d → ⊥
not_both r x d h e = cc

-- what a result was before map_err
pub mapped_ok : {T E D : Type 0} (P : E → D → Type 0) (s : Result T E) (r : Result T D) (x : T) → MatchResult s (λ y. r ≡ Ok y) (λ e. IsErrAnd r (P e)) → r ≡ Ok x → s ≡ Ok x
mapped_ok P (Ok y) r x h e = ap (λ v. Ok v) (ok_same r y x h e)
mapped_ok P (Err f) (Ok y) x h e = absurd h
mapped_ok P (Err f) (Err d) x h e = cc

pub mapped_err : {T E D : Type 0} (P : E → D → Type 0) (s : Result T E) (r : Result T D) (d : D) → MatchResult s (λ y. r ≡ Ok y) (λ e. IsErrAnd r (P e)) → r ≡ Err d → (f : E) × (s ≡ Err f) × P f d
mapped_err P (Ok y) r d h e = absurd (not_both r y d h e)
mapped_err P (Err f) (Ok y) d h e = absurd h
mapped_err P (Err f) (Err d) g h e = (f, refl, subst (P f) (let z : d ≡ g = cc in z) h)

-- where nothing was read before, what was read is all that was added
pub adds_first : {A : Type 0} (old : List A) (p : Parsed (List A)) (new : List A) (r : Result (Bor (List ℕ)) Fault) → old ≡ [] → Adds old p new r → MatchResult r (λ rest. p ≡ ok new rest.now) (λ fault. p ≡ no fault.reason fault.left)
adds_first [] (ok ys us) new (Ok rest) e h = h
adds_first [] (ok ys us) new (Err fault) e h = h
adds_first [] (no r n) new (Ok rest) e h = h
adds_first [] (no r n) new (Err fault) e h = h
adds_first (x ∷ xs) p new r e h = absurd (omega (arith, ap length e))

wrong_word : (ws : List ℕ) (place : ℕ) (r : Reason) → Faulty ws place r → Wrong ws (fault_of r) place
wrong_word ws place TurnReason f = f
wrong_word ws place BitReason f = f
wrong_word ws place RangeReason f = f

-- a word was refused
module _ (ws : List ℕ) (r : Reason) (n : ℕ) (h : read_table standard ws ≡ no r n) where
  word_wrong : Wrong ws (fault_of r) (length ws - n)
  word_wrong = wrong_word ws (length ws - n) r (faulty ws r n h).1

  pub word_accepts : (rs : List Parts) (us : List ℕ) → Valid rs → ws ≡ written rs ++ us → ⊥
  word_accepts rs us v e = (faulty ws r n h).1.none (rs, us, v.formed, e)

  -- the loader's refusal is the reader's
  pub refused_loads : (x : Refusal) → x.fault ≡ fault_of r → x.place ≡ length ws - n → x.rules ≡ rule_words_to ws x.place → Loads ws (Err x)
  refused_loads x f p k = (
    subst (λ (fault : LoadFault). Wrong ws fault x.place) (sym f)
        (subst (λ (m : ℕ). Wrong ws (fault_of r) m) (sym p) word_wrong),
    k,
  )

rising_at : (n : ℕ) (rs : List Parts) (i : ℕ) (r : Parts) → Rising n rs → Nth rs i r → last_label n (take i rs) < r.label
rising_at n [] i r h k = absurd k
rising_at n (q ∷ rs) zero r h k = subst (λ (x : Parts). n < x.label) k h.0
rising_at n (q ∷ rs) (suc i) r h k = rising_at q.label rs i r h.1 k

fault_rule : (r : Parts) (last : ℕ) (fault : LoadFault) (n : ℕ) → RuleFault r last fault n → Sound r → last < r.label → ⊥
fault_rule r last OutOfTurn n f s l = f
fault_rule r last StrayBit n f s l = f
fault_rule r last OutOfRange n f s l = f
fault_rule r last Unbound n f s l =
    let a : free r f.1.word ≡ false = all_nth (λ w. free r w ≡ false) (tail_words r) f.0 f.1.word s.bound f.1.stands in
    let b = f.1.unbound in
    let z : ◌≡◌ {A = ℕ} 0 1 = cc in
    omega arith
fault_rule r last NoTaken n f s l = omega (arith, f.1, s.takes)
fault_rule r last Label n f s l = omega (arith, f.1)

-- the rules that were read, as the slice that was lent
pub lent : (ws vs : List ℕ) (rules slice : List Rule) → read_table standard ws ≡ ok (map parts rules) vs → slice ≡ rules → read_table standard ws ≡ ok (map parts slice) vs
lent ws vs rules slice h e = h ∙ sym (ap (λ (rs : List Rule). ok (map parts rs) vs) e)

-- a table was read
module _ (ws : List ℕ) (qs : List Parts) (vs : List ℕ) (h : read_table standard ws ≡ ok qs vs) where
  pub table_formed : Formed standard qs
  table_formed = (table_only standard ws qs vs h).0

  pub table_words : ws ≡ written qs ++ vs
  table_words = (table_only standard ws qs vs h).1

  pub table_left : length vs ≤ length ws
  table_left = omega (arith, ap length table_words, length-append (written qs) vs)

  pub table_used : length ws - length vs ≡ length (written qs)
  table_used = omega (arith, ap length table_words, length-append (written qs) vs)

  -- words are the writing of one table at most
  pub table_same : (rs : List Parts) (us : List ℕ) → Valid rs → ws ≡ written rs ++ us → qs ≡ rs
  table_same rs us v e =
      let a = table_all standard rs us v.formed in
      let b : read_table standard ws ≡ ok rs us = ap (read_table standard) e ∙ a in
      cc

  wrong_rule : (fault : LoadFault) (place : ℕ) → FirstFault qs fault place → Wrong ws fault place
  wrong_rule OutOfTurn place f = absurd f.wrong
  wrong_rule StrayBit place f = absurd f.wrong
  wrong_rule OutOfRange place f = absurd f.wrong
  wrong_rule Unbound place f = (qs, vs, table_formed, table_words, f)
  wrong_rule NoTaken place f = (qs, vs, table_formed, table_words, f)
  wrong_rule Label place f = (qs, vs, table_formed, table_words, f)

  pub fault_loads : (x : Refusal) (fault : LoadFault) (place : ℕ) → FirstFault qs fault place →
      x.fault ≡ fault → x.place ≡ place → x.rules ≡ rule_words_to ws place → Loads ws (Err x)
  fault_loads x fault place w f p k = (
    subst (λ (g : LoadFault). Wrong ws g x.place) (sym f) (subst (λ (n : ℕ). Wrong ws fault n) (sym p) (wrong_rule fault place w)),
    k ∙ ap (rule_words_to ws) (sym p),
  )

  pub fault_accepts : (fault : LoadFault) (place : ℕ) → FirstFault qs fault place → (rs : List Parts) (us : List ℕ) → Valid rs → ws ≡ written rs ++ us → ⊥
  fault_accepts fault place f rs us v e =
      let g : Nth rs f.index f.rule = subst (λ (x : List Parts). Nth x f.index f.rule) (table_same rs us v e) f.stands in
      let l : last_label 0 (take f.index qs) ≡ last_label 0 (take f.index rs) = ap (λ (x : List Parts). last_label 0 (take f.index x)) (table_same rs us v e) in
      fault_rule f.rule (last_label 0 (take f.index qs)) fault f.offset f.wrong
      (all_nth Sound rs f.index f.rule v.sound g) (omega (arith, rising_at 0 rs f.index f.rule v.rising g))
