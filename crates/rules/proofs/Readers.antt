-- What reading a part, the parts of one kind, or a rule comes to, step by step.
use Rattle.std.proofs.Common.{◌≡◌, ℕ, zero, suc, ◌+◌, ◌-◌, ◌≤◌, false, eqb, ltb, List, [], ◌∷◌, ◌++◌, length, sym, refl, ap, ◌∙◌, append-nil, arith}
use Rattle.std.proofs.lemmas.Bool.Decides.{nat_tests}
use Rattle.words.specs.Words.{kind_of, name_in, count_in}
use Rattle.args.specs.declared.Args.{Args}
use Rattle.grammar.specs.declared.reason.Reason.{Reason}
use Rattle.grammar.specs.declared.part.Operand.{Operand}
use Rattle.grammar.specs.declared.part.Term.{Term}
use Rattle.grammar.specs.declared.part.Test.{Test}
use Rattle.grammar.specs.declared.part.Guard.{Guard}
use Rattle.grammar.specs.Atoms.{Head}
use Rattle.grammar.specs.Reading.{Parsed, ok, no, read_operand, read_term, read_args, test_at, read_head, read_guard, read_body, read_parts, read_rule}
use Rattle.grammar.specs.Writing.{standard}
use Rattle.rules.specs.Progress.{front}

small : (n count : ℕ) → count ≡ count_in n → count ≤ 3 → ltb 3 (count_in n) ≡ false
small n count e h = grind (arith, nat_tests)

module _ (n count name : ℕ) (e : count ≡ count_in n) (f : name ≡ name_in n) (h : count ≤ 3) (ws us : List ℕ) where
  pub head_ok : (xs : Args Operand) → read_args read_operand count ws ≡ ok xs us → read_head n ws ≡ ok (record { name = name; args = xs }) us
  head_ok xs g =
      let t : ltb 3 (count_in n) ≡ false = small n count e h in
      let q : read_args read_operand (count_in n) ws ≡ ok xs us = ap (λ (m : ℕ). read_args read_operand m ws) (sym e) ∙ g in
      rw (t, q) (ap (λ (m : ℕ). ok (record { name = m; args = xs }) us) (sym f))

  pub body_ok : (xs : Args Term) → read_args read_term count ws ≡ ok xs us → read_body n ws ≡ ok (record { name = name; args = xs }) us
  body_ok xs g =
      let t : ltb 3 (count_in n) ≡ false = small n count e h in
      let q : read_args read_term (count_in n) ws ≡ ok xs us = ap (λ (m : ℕ). read_args read_term m ws) (sym e) ∙ g in
      rw (t, q) (ap (λ (m : ℕ). ok (record { name = m; args = xs }) us) (sym f))

module _ (n number : ℕ) (e : number ≡ count_in n) (h : number ≤ 3) (ws us : List ℕ) (a : Term) (i : read_term ws ≡ ok a us) where
  pub guard_ok : (test : Test) (b : Term) (vs : List ℕ) → test ≡ test_at number → read_term us ≡ ok b vs → read_guard n ws ≡ ok (record { test = test; left = a; right = b }) vs
  guard_ok test b vs f j =
      let t : ltb 3 (count_in n) ≡ false = small n number e h in
      rw (t, i, j) (ap (λ (m : Test). ok (record { test = m; left = a; right = b }) vs) (ap test_at (sym e) ∙ sym f))

  pub guard_no : (r : Reason) (k : ℕ) → read_term us ≡ no r k → read_guard n ws ≡ no r k
  guard_no r k j = let t : ltb 3 (count_in n) ≡ false = small n number e h in rw (t, i, j)

pub front_none : {A : Type 0} (xs : List A) (us : List ℕ) → front xs (ok [] us) ≡ ok xs us
front_none {A} xs us = ap (λ (zs : List A). ok zs us) (simp append-nil)

-- a word of another kind stands next
module _ {A : Type 0} (p : ℕ → List ℕ → Parsed A) (k room : ℕ) (xs : List A) (ws : List ℕ) (w : ℕ) (vs : List ℕ) (s : ws ≡ w ∷ vs) where
  other : (n : ℕ) → eqb (kind_of w) k ≡ false → read_parts p k n (w ∷ vs) ≡ ok [] (w ∷ vs)
  other zero e = rw e
  other (suc n) e = rw e

  pub parts_stop : eqb (kind_of w) k ≡ false → front xs (read_parts p k room ws) ≡ ok xs ws
  parts_stop e =
      ap (λ (v : List ℕ). front xs (read_parts p k room v)) s ∙ ap (λ (q : Parsed (List A)). front xs q) (other room e) ∙ front_none xs (w ∷ vs)
      ∙ ap (λ (v : List ℕ). ok xs v) (sym s)

-- nothing was read before
pub front_at : {A : Type 0} (xs : List A) (p q : Parsed (List A)) → xs ≡ [] → front xs p ≡ q → p ≡ q
front_at {A} xs (ok ys us) q e f = sym (ap (λ (zs : List A). ok (zs ++ ys) us) e) ∙ f
front_at xs (no r n) q e f = f

-- a rule whose guards are not read
module _ (label : ℕ) (ws : List ℕ) (ks : List Head) (us : List ℕ) (h1 : read_parts read_head 2 3 ws ≡ ok ks us)
    (ts : List Head) (vs : List ℕ) (h2 : read_parts read_head 3 (3 - length ks) us ≡ ok ts vs) (z : eqb (length ks + length ts) 0 ≡ false) where
  pub rule_no_guards : (r : Reason) (n : ℕ) → read_parts read_guard 4 4 vs ≡ no r n → read_rule standard label ws ≡ no r n
  rule_no_guards r n h = rw (h1, h2, z, h)
