-- The verdict decides the conditions.
use Rattle.std.proofs.Common.{◌≡◌, ℕ, zero, suc, ◌≤◌, Bool, true, cond, ◌&&◌, ◌⊎◌, List, [], ◌∷◌, length, get_or, set, replicate, ℤ, pos, ◌≤ℤ◌, ◌<ℤ◌, Decides, sym, refl, ap, ◌∙◌, subst, inl, inr, ⊎_elim, arith}
use lib.Signed.{lt_z, le_z}
use Rattle.std.specs.List.{AllByRecursion}
use Rattle.std.proofs.lemmas.List.{get_or-set_same, get_or-set_other, get_or_past, length-set, ext_get_or}
use Rattle.std.proofs.lemmas.Int.{ints}
use Rattle.std.proofs.lemmas.Bool.{cases_Bool, cases_eq, cases_lt, and_parts, and_from, false≢true}
use Rattle.std.proofs.lemmas.Bool.Decides.{Decides-and, Decides-not, Decides-eqb}
use Rattle.std.proofs.ByRecursion.{Decides-by_and}
use Rattle.facts.specs.Meanings.{Meaning}
use Rattle.grammar.specs.declared.part.Operand.{Operand}
use Rattle.grammar.specs.declared.part.Operand.TheVariants.{Var, Const}
use Rattle.grammar.specs.declared.part.Test.{Test}
use Rattle.grammar.specs.declared.part.Test.TheVariants.{Equal, NotEqual, Less, AtMost}
use Rattle.grammar.specs.Atoms.{Head, BodyFact}
use Rattle.grammar.specs.declared.part.Term.{Term}
use Rattle.grammar.specs.declared.part.Guard.{Guard}
use Rattle.args.specs.Listed.{listed, amount}
use Rattle.grammar.specs.Parts.{Parts}
use Rattle.std.specs.List.{list_all}
use Rattle.matching.specs.Terms.{equal, operand_value, term_value, compares, holds}
use Rattle.matching.specs.Heads.{fits_head, all_fit, Met, met, bind_one, bind_all, unbound, agree}
use Rattle.matching.specs.Applying.{heads, values, within, fact_within, heads_fit, numbers_agree, guards_hold, in_ends, matches, judged, verdict}
use Rattle.matching.specs.Conditions.{Fit, Stands, Compares, Matched, Inside, Decided}

-- ---- the tests

equal_decides : (a b : ℤ) → Decides (equal a b) (a ≡ b)
equal_decides a b = (λ e. omega (arith, ints, and_parts (le_z a b) (le_z b a) e), λ e. grind (arith, ints))

le_decides : (a b : ℤ) → Decides (le_z a b) (a ≤ℤ b)
le_decides a b = (λ e. grind (arith, ints), λ h. grind (arith, ints))

lt_decides : (a b : ℤ) → Decides (lt_z a b) (a <ℤ b)
lt_decides a b = (λ e. grind (arith, ints), λ h. grind (arith, ints))

compares_decides : (t : Test) (a b : ℤ) → Decides (compares t a b) (Compares t a b)
compares_decides Equal a b = equal_decides a b
compares_decides NotEqual a b = Decides-not (equal a b) (equal_decides a b)
compares_decides Less a b = lt_decides a b
compares_decides AtMost a b = le_decides a b

module _ {X : Type 0} (p : X → Bool) (P : X → Type 0) (each : (x : X) → Decides (p x) (P x)) where
  every_decides : (xs : List X) → Decides (list_all p xs) (AllByRecursion P xs)
  every_decides = Decides-by_and p P (list_all p) each refl (λ _ _. refl)

fit_decides : (hs : List Head) (fs : List Meaning) → Decides (all_fit hs fs) (Fit hs fs)
fit_decides [] [] = (λ _. tt, λ _. refl)
fit_decides [] (f ∷ fs) = (λ e. absurd (false≢true e), λ n. absurd n)
fit_decides (h ∷ hs) [] = (λ e. absurd (false≢true e), λ n. absurd n)
fit_decides (h ∷ hs) (f ∷ fs) =
    Decides-and (fits_head h f) (all_fit hs fs) (Decides-and _ _ (Decides-eqb h.name f.name) (Decides-eqb (amount h.args) f.count)) (fit_decides hs fs)

module _ (ns : List ℤ) where
  numbers_decide : (ms : List Met) → Decides (agree ns ms) (AllByRecursion (λ (m : Met). operand_value ns m.operand ≡ m.number) ms)
  numbers_decide = every_decides (λ (m : Met). equal (operand_value ns m.operand) m.number) (λ (m : Met). operand_value ns m.operand ≡ m.number) (λ m. equal_decides (operand_value ns m.operand) m.number)

  guards_decide : (gs : List Guard) → Decides (list_all (holds ns) gs) (AllByRecursion (λ (g : Guard). Compares g.test (term_value ns g.left) (term_value ns g.right)) gs)
  guards_decide = every_decides (holds ns) (λ (g : Guard). Compares g.test (term_value ns g.left) (term_value ns g.right)) (λ g. compares_decides g.test (term_value ns g.left) (term_value ns g.right))

  inside_decides : (low high : ℤ) (r : Parts) → Decides (list_all (fact_within low high ns) r.body) (Inside low high r ns)
  inside_decides low high r =
      every_decides (fact_within low high ns) (λ (b : BodyFact). AllByRecursion (λ (t : Term). (low ≤ℤ term_value ns t) × (term_value ns t ≤ℤ high)) (listed b.args)) (λ b. every_decides (λ (t : Term). within low high (term_value ns t)) (λ (t : Term). (low ≤ℤ term_value ns t) × (term_value ns t ≤ℤ high)) (λ t. Decides-and (le_z low (term_value ns t)) (le_z (term_value ns t) high) (le_decides low (term_value ns t)) (le_decides (term_value ns t) high)) (listed b.args)) r.body

-- ---- what binding does to the values

bind_one_length : (ns : List ℤ) (o : Operand) (n : ℤ) → length (bind_one ns o n) ≡ length ns
bind_one_length ns (Var v) n = length-set ns v n
bind_one_length ns (Const c) n = refl

bind_all_length : (ns : List ℤ) (ms : List Met) → length (bind_all ns ms) ≡ length ns
bind_all_length ns [] = refl
bind_all_length ns (m ∷ ms) = bind_all_length (bind_one ns m.operand m.number) ms ∙ bind_one_length ns m.operand m.number

bind_one_other : (ns : List ℤ) (o : Operand) (n : ℤ) (v : ℕ) → (o ≡ Var v) ⊎ (get_or (bind_one ns o n) v (pos 0) ≡ get_or ns v (pos 0))
bind_one_other ns (Var w) n v = ⊎_elim (λ (e : v ≡ w). inl (ap Var (sym e))) (λ (ne : v ≡ w → ⊥). inr (get_or-set_other ns w v n (pos 0) ne)) (cases_eq v w)
bind_one_other ns (Const c) n v = inr refl

-- a variable that does not stand among the operands stays as it was
bind_all_other : (ns : List ℤ) (ms : List Met) (v : ℕ) → Stands v ms ⊎ (get_or (bind_all ns ms) v (pos 0) ≡ get_or ns v (pos 0))
bind_all_other ns [] v = inr refl
bind_all_other ns (m ∷ ms) v =
    elim (bind_one_other ns m.operand m.number v) [
      | inl here ↦ inl (inl here)
      | inr e ↦ elim (bind_all_other (bind_one ns m.operand m.number) ms v) [ inl later ↦ inl (inr later) | inr f ↦ inr (f ∙ e) ]
    ]

zeros : (n v : ℕ) → get_or (replicate n (pos 0)) v (pos 0) ≡ pos 0
zeros zero v = refl
zeros (suc n) zero = refl
zeros (suc n) (suc v) = zeros n v

-- under values ρ that agree with all that is met, a variable that bind_all_is comes to its value
set_agrees : (ρ ns : List ℤ) (v : ℕ) (n : ℤ) → length ns ≡ length ρ → get_or ρ v (pos 0) ≡ n → get_or (set ns v n) v (pos 0) ≡ get_or ρ v (pos 0)
set_agrees ρ ns v n l e =
    elim (cases_lt v (length ns)) [
      | inl inside ↦ get_or-set_same ns v n (pos 0) inside ∙ sym e
      | inr past ↦ (
          let past' : length (set ns v n) ≤ v = simp length-set past in
          let past'' : length ρ ≤ v = omega arith in
          get_or_past (set ns v n) v (pos 0) past' ∙ sym (get_or_past ρ v (pos 0) past'')
          )
    ]

bind_one_agrees : (ρ ns : List ℤ) (o : Operand) (n : ℤ) (v : ℕ) → length ns ≡ length ρ → operand_value ρ o ≡ n → (get_or ns v (pos 0) ≡ get_or ρ v (pos 0)) ⊎ (o ≡ Var v) → get_or (bind_one ns o n) v (pos 0) ≡ get_or ρ v (pos 0)
bind_one_agrees ρ ns (Var w) n v l e h =
    elim (cases_eq w v) [
      | inl same ↦ subst (λ (x : ℕ). get_or (set ns x n) v (pos 0) ≡ get_or ρ v (pos 0)) (sym same) (set_agrees ρ ns v n l (ap (λ (x : ℕ). get_or ρ x (pos 0)) (sym same) ∙ e))
      | inr other ↦ elim h [ inl was ↦ get_or-set_other ns w v n (pos 0) (λ f. other (sym f)) ∙ was | inr here ↦ absurd (other cc) ]
    ]
bind_one_agrees ρ ns (Const c) n v l e h =
    elim h [ inl was ↦ was | inr here ↦ (let z : ◌≡◌ {A = ℕ} 0 1 = cc in absurd (omega arith)) ]

bind_all_is : (ρ ns : List ℤ) (ms : List Met) → length ns ≡ length ρ → AllByRecursion (λ (m : Met). operand_value ρ m.operand ≡ m.number) ms → ((v : ℕ) → (get_or ns v (pos 0) ≡ get_or ρ v (pos 0)) ⊎ Stands v ms) → bind_all ns ms ≡ ρ
bind_all_is ρ ns [] l a h =
    ext_get_or (pos 0) ns ρ l (λ i _. ⊎_elim (λ (e : get_or ns i (pos 0) ≡ get_or ρ i (pos 0)). e) (λ (n : ⊥). absurd n) (h i))
bind_all_is ρ ns (m ∷ ms) l a h =
    bind_all_is ρ (bind_one ns m.operand m.number) ms (bind_one_length ns m.operand m.number ∙ l) a.1 (λ v. elim (h v) [
      | inl was ↦ inl (bind_one_agrees ρ ns m.operand m.number v l a.0 (inl was))
      | inr stands ↦ elim stands [ inl here ↦ inl (bind_one_agrees ρ ns m.operand m.number v l a.0 (inr here)) | inr later ↦ inr later ]
    ])

-- ---- the verdict

module _ (r : Parts) (fs : List Meaning) where
  values_are : heads_fit r fs ≡ true → values r fs ≡ bind_all unbound (met (heads r) fs)
  values_are fit = ap (λ (b : Bool). cond b (bind_all unbound (met (heads r) fs)) unbound) fit

  -- a match gives the variables their values
  matched : matches r fs ≡ true → Matched r fs (values r fs)
  matched e =
      let first = and_parts (heads_fit r fs) (numbers_agree r fs && guards_hold r fs) e in
      let second = and_parts (numbers_agree r fs) (guards_hold r fs) first.1 in
      let is = values_are first.0 in
      record {
        eight = ap length is ∙ bind_all_length unbound (met (heads r) fs);
        fit = (fit_decides (heads r) fs).0 first.0;
        numbers = (numbers_decide (values r fs) (met (heads r) fs)).0 second.0;
        others = λ v. elim (bind_all_other unbound (met (heads r) fs) v) [ inl s ↦ inl s | inr u ↦ inr (ap (λ (ns : List ℤ). get_or ns v (pos 0)) is ∙ u ∙ zeros 8 v) ];
        guards = (guards_decide (values r fs) r.guards).0 second.1;
      }

  -- no other values do
  values_unique : (ns : List ℤ) → Matched r fs ns → values r fs ≡ ns
  values_unique ns m =
      values_are ((fit_decides (heads r) fs).1 m.fit) ∙ bind_all_is ns unbound (met (heads r) fs) (sym m.eight) m.numbers (λ v. elim (m.others v) [ inl s ↦ inr s | inr u ↦ inl (zeros 8 v ∙ sym u) ])

  matches_if : (ns : List ℤ) → Matched r fs ns → matches r fs ≡ true
  matches_if ns m =
      let is = sym (values_unique ns m) in
      let found : Matched r fs (values r fs) = subst (Matched r fs) is m in
      and_from (heads_fit r fs) (numbers_agree r fs && guards_hold r fs) ((fit_decides (heads r) fs).1 m.fit) (and_from (numbers_agree r fs) (guards_hold r fs) ((numbers_decide (values r fs) (met (heads r) fs)).1 found.numbers) ((guards_decide (values r fs) r.guards).1 found.guards))

  pub decided : (low high : ℤ) → Decided low high r fs (verdict low high r fs)
  decided low high =
      elim (cases_Bool (matches r fs)) [
        | inl yes' ↦ (
            elim (cases_Bool (in_ends low high r fs)) [
              | inl inside ↦ subst (Decided low high r fs) (sym (ap (λ (b : Bool). judged b (in_ends low high r fs)) yes' ∙ ap (judged true) inside)) (values r fs, matched yes', (inside_decides (values r fs) low high r).0 inside)
              | inr outside ↦ subst (Decided low high r fs) (sym (ap (λ (b : Bool). judged b (in_ends low high r fs)) yes' ∙ ap (judged true) outside)) (values r fs, matched yes', λ i. false≢true (sym outside ∙ (inside_decides (values r fs) low high r).1 i))
            ]
            )
        | inr no' ↦ subst (Decided low high r fs) (sym (ap (λ (b : Bool). judged b (in_ends low high r fs)) no')) (λ ns m. false≢true (sym no' ∙ matches_if ns m))
      ]
