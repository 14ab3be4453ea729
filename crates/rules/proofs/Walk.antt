-- Going through the rules of a well-formed table and its words, rule after rule.
use Rattle.std.proofs.Common.{◌≡◌, ℕ, zero, suc, ◌+◌, ◌-◌, ◌<◌, ◌≤◌, List, [], ◌∷◌, ◌++◌, map, length, get_or, take, drop, sym, refl, ap, ◌∙◌, subst, append_assoc, add-one, arith, length-append}
use Rattle.std.proofs.Math.Seq.{take-append_seam, drop-append_seam}
use Rattle.std.proofs.lemmas.Grind.{flat_map-append}
use Rattle.std.specs.List.{flat_map, AllByRecursion}
use Rattle.std.proofs.ByRecursion.{All-push}
use Rattle.facts.specs.Lists.{Nth}
use Rattle.grammar.specs.declared.rule.Rule.{Rule}
use Rattle.grammar.specs.Parts.{Parts, parts}
use Rattle.grammar.specs.Sizes.{rule_size}
use Rattle.grammar.specs.Validity.{Sound, Rising, Valid, last_label, rule_at}
use Rattle.grammar.specs.Writing.{standard, Formed, FormedRule, rule_words, written}
use Rattle.grammar.proofs.Sizes.{rule_length}
use Rattle.rules.proofs.Tails.{fault_within}
use Rattle.rules.specs.declared.refusal.LoadFault.{LoadFault}
use Rattle.rules.specs.Faults.{RuleFault, FirstFault}
use Rattle.std.proofs.lemmas.List.{take_all, length-map}
use Rattle.facts.proofs.Nths.{all_nth}

take_nth : {A : Type 0} (xs : List A) (i : ℕ) (x : A) → Nth xs i x → take (suc i) xs ≡ take i xs ++ x ∷ []
take_nth [] i x n = absurd n
take_nth {A} (y ∷ ys) zero x n = ap (λ (z : A). z ∷ []) n
take_nth {A} (y ∷ ys) (suc i) x n = ap (λ (zs : List A). y ∷ zs) (take_nth ys i x n)

rule_nth : (rs : List Rule) (i : ℕ) (r : Rule) → i < length rs → r ≡ get_or rs i r → Nth (map parts rs) i (parts r)
rule_nth [] i r h g = absurd (omega arith)
rule_nth (q ∷ rs) zero r h g = ap parts (sym g)
rule_nth (q ∷ rs) (suc i) r h g = rule_nth rs i r (omega arith) g

rising_push : (n : ℕ) (xs : List Parts) (r : Parts) → Rising n xs → last_label n xs < r.label → Rising n (xs ++ r ∷ [])
rising_push n [] r h l = (l, tt)
rising_push n (x ∷ xs) r h l = (h.0, rising_push x.label xs r h.1 l)

last_push : (n : ℕ) (xs : List Parts) (r : Parts) → last_label n (xs ++ r ∷ []) ≡ r.label
last_push n [] r = refl
last_push n (x ∷ xs) r = last_push x.label xs r

-- the words before a rule, its own, and those after it
parted : (rs : List Parts) (i : ℕ) (r : Parts) (us : List ℕ) → Nth rs i r →
    (vs : List ℕ) × (written rs ++ us ≡ flat_map rule_words (take i rs) ++ (rule_words r ++ vs))
parted [] i r us n = absurd n
parted (q ∷ rs) zero r us n = (written rs ++ us, ap (λ (x : Parts). ((rule_words x ++ flat_map rule_words rs) ++ 4026531840 ∷ []) ++ us) n ∙ simp append_assoc)
parted (q ∷ rs) (suc i) r us n =
    let p = parted rs i r us n in (
      p.0,
      let s : written (q ∷ rs) ++ us ≡ rule_words q ++ (written rs ++ us) = simp append_assoc in
          s ∙ ap (λ (v : List ℕ). rule_words q ++ v) p.1 ∙ sym (append_assoc (rule_words q) (flat_map rule_words (take i rs)) (rule_words r ++ p.0)),
    )

module _ (rs : List Parts) (i : ℕ) (r : Parts) (n : Nth rs i r) where
  at_more : (at size : ℕ) → at ≡ rule_at rs i → size ≡ rule_size r → at + size ≡ rule_at rs (i + 1)
  at_more at size e f =
      let g : rule_at rs (i + 1) ≡ rule_at rs i + length (rule_words r)
      = ap (λ (k : ℕ). length (flat_map rule_words (take k rs))) (add-one i)
      ∙ ap (λ (v : List Parts). length (flat_map rule_words v)) (take_nth rs i r n)
      ∙ ap length (flat_map-append rule_words (take i rs) (r ∷ []))
      ∙ length-append (flat_map rule_words (take i rs)) (rule_words r ++ [])
      ∙ ap (λ (k : ℕ). rule_at rs i + k) (length-append (rule_words r) [] ∙ omega arith) in
      omega (arith, rule_length r)

  sound_more : AllByRecursion Sound (take i rs) → Sound r → AllByRecursion Sound (take (i + 1) rs)
  sound_more a s =
      subst (λ (v : List Parts). AllByRecursion Sound v) (sym (ap (λ (k : ℕ). take k rs) (add-one i) ∙ take_nth rs i r n)) (All-push Sound (take i rs) r a s)

  rising_more : Rising 0 (take i rs) → last_label 0 (take i rs) < r.label → Rising 0 (take (i + 1) rs)
  rising_more h l =
      subst (λ (v : List Parts). Rising 0 v) (sym (ap (λ (k : ℕ). take k rs) (add-one i) ∙ take_nth rs i r n)) (rising_push 0 (take i rs) r h l)

  last_more : r.label ≡ last_label 0 (take (i + 1) rs)
  last_more = sym (ap (λ (v : List Parts). last_label 0 v) (ap (λ (k : ℕ). take k rs) (add-one i) ∙ take_nth rs i r n) ∙ last_push 0 (take i rs) r)

  module _ (us ws : List ℕ) (e : ws ≡ written rs ++ us) (at size : ℕ) (f : at ≡ rule_at rs i) (g : size ≡ rule_size r) where
    rule_within : at + size ≤ length ws
    rule_within =
        let p = parted rs i r us n in
        let l : length ws ≡ length (flat_map rule_words (take i rs)) + (length (rule_words r) + length p.0)
        = ap length (e ∙ p.1) ∙ length-append (flat_map rule_words (take i rs)) (rule_words r ++ p.0)
        ∙ ap (λ (k : ℕ). length (flat_map rule_words (take i rs)) + k) (length-append (rule_words r) p.0) in
        omega (arith, rule_length r)

    rule_slice : take (at + size - at) (drop at ws) ≡ rule_words r
    rule_slice =
        let p = parted rs i r us n in
        let d : drop at ws ≡ rule_words r ++ p.0
        = ap (λ (k : ℕ). drop k ws) f ∙ ap (drop (rule_at rs i)) (e ∙ p.1) ∙ drop-append_seam (flat_map rule_words (take i rs)) (rule_words r ++ p.0) in
        let m : at + size - at ≡ length (rule_words r) = omega (arith, rule_length r) in
        ap (λ (k : ℕ). take k (drop at ws)) m ∙ ap (take (length (rule_words r))) d ∙ take-append_seam (rule_words r) p.0

-- the rules before the i-th have no fault; where its words begin, and the label before it
pub record Walked (rs : List Parts) (i at last : ℕ) : Type 0 where
  pub begins : at ≡ rule_at rs i
  pub label : last ≡ last_label 0 (take i rs)
  pub sound : AllByRecursion Sound (take i rs)
  pub rising : Rising 0 (take i rs)

-- a step of the walk: the rule that the loop reads
module _ (rs : List Rule) (ws : List ℕ) (f : Formed standard (map parts rs)) (b : (us : List ℕ) × (ws ≡ written (map parts rs) ++ us))
    (i at last : ℕ) (w : Walked (map parts rs) i at last) (r : Rule) (h : i < length rs) (g : r ≡ get_or rs i r) where
  here : Nth (map parts rs) i (parts r)
  here = rule_nth rs i r h g

  pub rule_formed : FormedRule standard (parts r)
  rule_formed = all_nth (FormedRule standard) (map parts rs) i (parts r) f.each here

  pub rule_found : (fault : LoadFault) (offset : ℕ) → RuleFault (parts r) last fault offset →
      (told : LoadFault) (place : ℕ) → told ≡ fault → place ≡ at + offset → FirstFault (map parts rs) told place
  rule_found fault offset k told place d e =
      record {
        index = i;
        rule = parts r;
        offset = offset;
        stands = here;
        sound = w.sound;
        rising = w.rising;
        wrong = subst (λ (x : LoadFault). RuleFault (parts r) (last_label 0 (take i (map parts rs))) x offset) (sym d) (subst (λ (n : ℕ). RuleFault (parts r) n fault offset) w.label k);
        at = e ∙ ap (λ (n : ℕ). n + offset) w.begins;
      }

  module _ (size : ℕ) (e : size ≡ rule_size (parts r)) where
    pub rule_inside : at + size ≤ length ws
    rule_inside = rule_within (map parts rs) i (parts r) here b.0 ws b.1 at size w.begins e

    pub rule_written : take (at + size - at) (drop at ws) ≡ rule_words (parts r)
    rule_written = rule_slice (map parts rs) i (parts r) here b.0 ws b.1 at size w.begins e

    pub fault_inside : (fault : LoadFault) (offset : ℕ) → RuleFault (parts r) last fault offset → at + offset ≤ length ws
    fault_inside fault offset k = omega (arith, rule_inside, fault_within (parts r) last fault offset k)

    pub walked_more : Sound (parts r) → last < r.label → Walked (map parts rs) (i + 1) (at + size) r.label
    walked_more s l =
        record {
          begins = at_more (map parts rs) i (parts r) here at size w.begins e;
          label = last_more (map parts rs) i (parts r) here;
          sound = sound_more (map parts rs) i (parts r) here w.sound s;
          rising = rising_more (map parts rs) i (parts r) here w.rising (subst (λ (n : ℕ). suc n ≤ r.label) w.label l);
        }

-- no rule is left
pub walked_all : (rs : List Rule) (i at last : ℕ) → Formed standard (map parts rs) → Walked (map parts rs) i at last → length rs ≤ i → Valid (map parts rs)
walked_all rs i at last f w h =
    let e = take_all i (map parts rs) (omega (arith, length-map rs parts)) in
    record {
      formed = f;
      sound = subst (λ (v : List Parts). AllByRecursion Sound v) e w.sound;
      rising = subst (λ (v : List Parts). Rising 0 v) e w.rising;
    }
