-- A valid table has what the law asks of rules.
use Rattle.std.proofs.Common.{◌≡◌, ℕ, zero, suc, ◌<◌, List, [], ◌∷◌, refl, ap, subst, arith, length-append}
use Rattle.facts.specs.Lists.{Nth}
use Rattle.facts.proofs.Nths.{all_nth}
use Rattle.grammar.specs.Parts.{Parts}
use Rattle.grammar.specs.Validity.{Sound, Rising}
use Rattle.grammar.specs.Writing.{standard, FormedRule}
use Rattle.matching.proofs.Laws.{matches_length, matches_fits, some_taken}
use Rattle.tables.specs.Loaded.{TablesServe}

above : (n : ℕ) (rs : List Parts) → Rising n rs → (i : ℕ) (r : Parts) → Nth rs i r → n < r.label
above n [] h i r k = absurd k
above n (q ∷ rs) h zero r k = subst (λ (x : Parts). n < x.label) k h.0
above n (q ∷ rs) h (suc i) r k = let g = above q.label rs h.1 i r k in omega (arith, h.0)

-- rising labels are different
apart : (n : ℕ) (rs : List Parts) → Rising n rs → (i j : ℕ) (r s : Parts) → Nth rs i r → Nth rs j s → r.label ≡ s.label → i ≡ j
apart n [] h i j r s a b e = absurd a
apart n (q ∷ rs) h zero zero r s a b e = refl
apart n (q ∷ rs) h zero (suc j) r s a b e =
    let g = above q.label rs h.1 j s b in
    let l : q.label ≡ r.label = ap (λ (x : Parts). x.label) a in
    absurd (omega arith)
apart n (q ∷ rs) h (suc i) zero r s a b e =
    let g = above q.label rs h.1 i r a in
    let l : q.label ≡ s.label = ap (λ (x : Parts). x.label) b in
    absurd (omega arith)
apart n (q ∷ rs) h (suc i) (suc j) r s a b e = ap suc (apart q.label rs h.1 i j r s a b e)

pub serves : TablesServe
serves low high rs v =
    record {
      labelled = λ i r k. above 0 rs v.rising i r k;
      labels_apart = λ i j r s a b e. apart 0 rs v.rising i j r s a b e;
      few_heads =
          λ i r k.
          let f : FormedRule standard r = all_nth (FormedRule standard) rs i r v.formed.each k in
          omega (arith, f.few_heads, length-append r.kept r.taken);
      some_taken = λ i r k. some_taken r (all_nth Sound rs i r v.sound k).takes;
      one_each = matches_length;
      all_fit = matches_fits;
    }
