-- What a load of words with one word more says of the kinds that are in turn after the words.
use Rattle.std.proofs.Common.{◌≡◌, ℕ, suc, ◌+◌, ◌-◌, ◌<◌, ◌≤◌, true, false, eqb, List, [], ◌∷◌, ◌++◌, length, take, drop, sym, ap, ◌∙◌, subst, ⊎_elim, append_assoc, append-nil, arith, length-append, take-append-drop}
use lib.Seq.{take-append_seam, take-append-le, take-append-add}
use Rattle.std.proofs.lemmas.Bool.{cases_lt}
use Rattle.std.proofs.lemmas.Bool.Decides.{nat_tests}
use Rattle.std.proofs.lemmas.List.{take_all, nil_from_length}
use Rattle.facts.specs.Lists.{Nth}
use Rattle.facts.proofs.Nths.{nth_within}
use Rattle.words.specs.Words.{kind_of, word}
use Rattle.grammar.specs.declared.reason.Reason.{Reason}
use Rattle.grammar.specs.declared.reason.Reason.TheVariants.{OutOfTurn as TurnReason, StrayBit as BitReason, OutOfRange as RangeReason}
use Rattle.grammar.specs.Parts.{Parts}
use Rattle.grammar.specs.Writing.{Limits, standard, Formed, written}
use Rattle.grammar.specs.Faults.{Begins, Holds, InTurn, Why, Faulty}
use Rattle.grammar.proofs.Payloads.{kind_word}
use Rattle.rules.specs.declared.refusal.LoadFault.{LoadFault}
use Rattle.rules.specs.declared.refusal.LoadFault.TheVariants.{OutOfTurn, StrayBit, OutOfRange, Unbound, NoTaken, Label}
use Rattle.rules.specs.Loading.{Wrong}
use Rattle.hints.specs.Follows.{Follows, other}

nth_last : (xs : List ℕ) (x w : ℕ) → Nth (xs ++ x ∷ []) (length xs) w → w ≡ x
nth_last [] x w h = sym h
nth_last (y ∷ ys) x w h = nth_last ys x w h

-- the beginning of a beginning
shorter : (L : Limits) (xs : List ℕ) (n : ℕ) → Begins L xs → Begins L (take n xs)
shorter L xs n b = (
  b.0,
  drop n xs ++ b.1,
  b.2,
  sym (append_assoc (take n xs) (drop n xs) b.1) ∙ ap (λ (v : List ℕ). v ++ b.1) (take-append-drop n xs) ∙ b.3,
)

module _ (before : List ℕ) (k : ℕ) (ws : List ℕ) (e : ws ≡ before ++ word k 0 ∷ []) where
  longer : length ws ≡ suc (length before)
  longer = ap length e ∙ length-append before (word k 0 ∷ []) ∙ omega arith

  front : take (length before) ws ≡ before
  front = ap (take (length before)) e ∙ take-append_seam before (word k 0 ∷ [])

  begins_turn : Begins standard ws → InTurn before k
  begins_turn b = (standard, 0, omega arith, subst (λ (v : List ℕ). Begins standard v) e b)

  -- a whole table among the words ends with the last of them
  whole_turn : (Holds standard before → ⊥) → (rs : List Parts) (us : List ℕ) → Formed standard rs → ws ≡ written rs ++ us → InTurn before k
  whole_turn none rs us f g =
      ⊎_elim
      (λ (h : length (written rs) < length ws).
      let n : length before ≡ length (written rs) + (length before - length (written rs)) = omega (arith, longer) in
      absurd (none (
        rs,
        take (length before - length (written rs)) us,
        f,
        sym front ∙ ap (λ (m : ℕ). take m ws) n ∙ ap (take (length (written rs) + (length before - length (written rs)))) g
            ∙ take-append-add (written rs) us (length before - length (written rs)),
      )))
      (λ (h : length ws ≤ length (written rs)).
      let l : length us ≡ 0 = omega (arith, ap length g, length-append (written rs) us) in
      begins_turn (rs, [], f, append-nil ws ∙ g ∙ ap (λ (v : List ℕ). written rs ++ v) (nil_from_length us l) ∙ append-nil (written rs)))
      (cases_lt (length (written rs)) (length ws))

  module _ (b : Begins standard before) where
    -- no word before the last is at fault
    at_last : (place w : ℕ) → Nth ws place w → (Begins standard (take (suc place) ws) → ⊥) → place ≡ length before
    at_last place w n h =
        let l : place < length ws = nth_within ws place w n in
        ⊎_elim
        (λ (g : place < length before).
        let t : take (suc place) ws ≡ take (suc place) before
        = ap (take (suc place)) e ∙ take-append-le (suc place) before (word k 0 ∷ []) (omega arith) in
        absurd (h (subst (λ (v : List ℕ). Begins standard v) (sym t) (shorter standard before (suc place) b))))
        (λ (g : length before ≤ place). omega (arith, longer))
        (cases_lt place (length before))

    same : (place w : ℕ) → place ≡ length before → Nth ws place w → (take place ws ≡ before) × (kind_of w ≡ k)
    same place w p n =
        let m : Nth (before ++ word k 0 ∷ []) (length before) w
        = subst (λ (v : List ℕ). Nth v (length before) w) e (subst (λ (q : ℕ). Nth ws q w) p n) in
        (ap (λ (q : ℕ). take q ws) p ∙ front, ap kind_of (nth_last before (word k 0) w m) ∙ kind_word k 0 (omega arith))

    turned : (place w : ℕ) → (take place ws ≡ before) × (kind_of w ≡ k) → InTurn (take place ws) (kind_of w) → InTurn before k
    turned place w s t = subst (λ (j : ℕ). InTurn before j) s.1 (subst (λ (v : List ℕ). InTurn v (kind_of w)) s.0 t)

    returned : (place w : ℕ) → (take place ws ≡ before) × (kind_of w ≡ k) → InTurn before k → InTurn (take place ws) (kind_of w)
    returned place w s t = subst (λ (j : ℕ). InTurn (take place ws) j) (sym s.1) (subst (λ (v : List ℕ). InTurn v k) (sym s.0) t)

    -- out of turn at the last word
    out : (place : ℕ) → Faulty ws place TurnReason → place ≡ length before → InTurn before k → ⊥
    out place f p t =
        ⊎_elim
        (λ (h : (place ≡ length ws) × (TurnReason ≡ TurnReason)). omega (arith, longer, h.0))
        (λ (h : (w : ℕ) × Nth ws place w × (Begins standard (take (suc place) ws) → ⊥) × Why (take place ws) w TurnReason).
        h.3 (returned place h.0 (same place h.0 p h.1) t))
        f.stops

    -- the words end after it
    ended : (place : ℕ) → Faulty ws place TurnReason → (place ≡ length before → ⊥) → InTurn before k
    ended place f p =
        ⊎_elim
        (λ (h : (place ≡ length ws) × (TurnReason ≡ TurnReason)).
        begins_turn (subst (λ (v : List ℕ). Begins standard v) (take_all place ws (omega (arith, h.0))) f.begins))
        (λ (h : (w : ℕ) × Nth ws place w × (Begins standard (take (suc place) ws) → ⊥) × Why (take place ws) w TurnReason).
        absurd (p (at_last place h.0 h.1 h.2)))
        f.stops

    -- a word at fault for another reason is the last, and its kind is in turn
    spoilt : (place : ℕ) (reason : Reason) → (reason ≡ TurnReason → ⊥) → ((w : ℕ) → Why (take place ws) w reason → InTurn (take place ws) (kind_of w)) → Faulty ws place reason → InTurn before k
    spoilt place reason n y f =
        ⊎_elim
        (λ (h : (place ≡ length ws) × (reason ≡ TurnReason)). absurd (n h.1))
        (λ (h : (w : ℕ) × Nth ws place w × (Begins standard (take (suc place) ws) → ⊥) × Why (take place ws) w reason).
        turned place h.0 (same place h.0 (at_last place h.0 h.1 h.2) h.1) (y h.0 h.3))
        f.stops

    -- a refusal is "out of turn at the last word" exactly where the kind is not in turn
    refused_yes : (Holds standard before → ⊥) → (fault : LoadFault) (place : ℕ) → Wrong ws fault place → other fault place (length before) ≡ true → InTurn before k
    refused_yes none OutOfTurn place f h = ended place f (λ p. let z : eqb place (length before) ≡ true = grind (arith, nat_tests) in cc)
    refused_yes none StrayBit place f h = spoilt place BitReason (λ i. cc) (λ w y. y.0) f
    refused_yes none OutOfRange place f h = spoilt place RangeReason (λ i. cc) (λ w y. y.0) f
    refused_yes none Unbound place f h = whole_turn none f.0 f.1 f.2 f.3
    refused_yes none NoTaken place f h = whole_turn none f.0 f.1 f.2 f.3
    refused_yes none Label place f h = whole_turn none f.0 f.1 f.2 f.3

    refused_no : (fault : LoadFault) (place : ℕ) → Wrong ws fault place → other fault place (length before) ≡ false → InTurn before k → ⊥
    refused_no OutOfTurn place f h t = out place f (grind (arith, nat_tests)) t
    refused_no StrayBit place f h t = cc
    refused_no OutOfRange place f h t = cc
    refused_no Unbound place f h t = cc
    refused_no NoTaken place f h t = cc
    refused_no Label place f h t = cc

  pub accepted : (rs : List Parts) (us : List ℕ) → Formed standard rs → ws ≡ written rs ++ us → Follows before k true
  accepted rs us f g b none = (λ h. whole_turn none rs us f g, λ h t. cc)

  pub refused : (fault : LoadFault) (place : ℕ) → Wrong ws fault place → Follows before k (other fault place (length before))
  refused fault place f b none = (λ h. refused_yes b none fault place f h, λ h t. refused_no b fault place f h t)
