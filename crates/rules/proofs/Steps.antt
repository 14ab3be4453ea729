-- What one step of the code does to what is still to be read.
use Rattle.std.proofs.Common.{◌≡◌, ℕ, suc, ◌+◌, ◌-◌, ◌<◌, true, false, eqb, List, [], ◌∷◌, ◌++◌, length, sym, refl, ap, ◌∙◌, append_assoc, Result, Ok, Err, Bor, arith}
use Rattle.std.proofs.lemmas.Bool.Decides.{nat_tests}
use Rattle.words.specs.Words.{kind_of, payload_of, clean, label_in}
use Rattle.grammar.specs.declared.reason.Reason.{Reason}
use Rattle.grammar.specs.Atoms.{Head, BodyFact}
use Rattle.grammar.specs.declared.part.Guard.{Guard}
use Rattle.grammar.specs.Reading.{Parsed, ok, no, then, read_head, read_guard, read_body, read_parts, read_rule, read_rules}
use Rattle.grammar.specs.Parts.{Parts}
use Rattle.grammar.specs.Writing.{standard}
use Rattle.rules.specs.Progress.{front, Adds}
use Rattle.rules.specs.declared.fault.Fault.{Fault}

joined_front : {A : Type 0} (xs : List A) (a : A) (q : Parsed (List A)) → front xs (then q (λ ys us. ok (a ∷ ys) us)) ≡ front (xs ++ a ∷ []) q
joined_front {A} xs a (ok ys us) = ap (λ (zs : List A). ok zs us) (simp append_assoc)
joined_front xs a (no r n) = refl

-- what a step leaves to be added is what the rest adds
pub adds_more : {A : Type 0} (xs ys zs : List A) (p q : Parsed (List A)) (r : Result (Bor (List ℕ)) Fault) → front xs p ≡ front ys q → Adds ys q zs r → Adds xs p zs r
adds_more xs ys zs p q (Ok rest) e h = e ∙ h
adds_more xs ys zs p q (Err fault) e h = e ∙ h

-- parts of one kind, where a word stands next
module _ {A : Type 0} (p : ℕ → List ℕ → Parsed A) (k room : ℕ) (xs : List A) (ws : List ℕ) (w : ℕ) (vs : List ℕ) (s : ws ≡ w ∷ vs) where
  pub parts_more : eqb (kind_of w) k ≡ true → clean w ≡ true → 0 < room → (x : A) (us : List ℕ) → p (payload_of w) vs ≡ ok x us →
      front xs (read_parts p k room ws) ≡ front (xs ++ x ∷ []) (read_parts p k (room - 1) us)
  parts_more e c h x us g =
      let n : room ≡ suc (room - 1) = omega arith in
      let q : read_parts p k (suc (room - 1)) (w ∷ vs) ≡ then (read_parts p k (room - 1) us) (λ ys vs. ok (x ∷ ys) vs) = rw (e, c, g) in
      ap (λ (v : List ℕ). front xs (read_parts p k room v)) s ∙ ap (λ (m : ℕ). front xs (read_parts p k m (w ∷ vs))) n
      ∙ ap (λ (r : Parsed (List A)). front xs r) q ∙ joined_front xs x (read_parts p k (room - 1) us)

-- a rule, part after part; the code counts the kept heads as k and as m, and the taken ones as n
module _ (label : ℕ) (ws : List ℕ) (ks : List Head) (us : List ℕ) (h1 : read_parts read_head 2 3 ws ≡ ok ks us)
    (k : ℕ) (ek : k ≡ length ks) (ts : List Head) (vs : List ℕ) (h2 : read_parts read_head 3 (3 - k) us ≡ ok ts vs)
    (m n : ℕ) (em : m ≡ length ks) (en : n ≡ length ts) (z : m + n ≡ 0 → ⊥) (gs : List Guard) (xs : List ℕ) (h3 : read_parts read_guard 4 4 vs ≡ ok gs xs) where
  taken : read_parts read_head 3 (3 - length ks) us ≡ ok ts vs
  taken = ap (λ (k : ℕ). read_parts read_head 3 (3 - k) us) (sym ek) ∙ h2

  some_head : eqb (length ks + length ts) 0 ≡ false
  some_head = grind (arith, nat_tests)

  pub rule_no_body : (r : Reason) (left : ℕ) → read_parts read_body 5 3 xs ≡ no r left → read_rule standard label ws ≡ no r left
  rule_no_body r left h = rw (h1, taken, some_head, h3, h)

  pub rule_ok : (bs : List BodyFact) (ys : List ℕ) → read_parts read_body 5 3 xs ≡ ok bs ys →
      read_rule standard label ws ≡ ok (record { label = label; kept = ks; taken = ts; guards = gs; body = bs }) ys
  rule_ok bs ys h4 = rw (h1, taken, some_head, h3, h4)

-- rules, where a RULE word stands next
pub rules_more : (room : ℕ) (xs : List Parts) (ws : List ℕ) (w : ℕ) (vs : List ℕ) → ws ≡ w ∷ vs → kind_of w ≡ 1 → clean w ≡ true → 0 < room →
    (r : Parts) (us : List ℕ) → read_rule standard (label_in (payload_of w)) vs ≡ ok r us →
    front xs (read_rules standard room ws) ≡ front (xs ++ r ∷ []) (read_rules standard (room - 1) us)
rules_more room xs ws w vs s k c h r us g =
    let n : room ≡ suc (room - 1) = omega arith in
    let d : eqb (kind_of w) 15 ≡ false = grind (arith, nat_tests) in
    let e : eqb (kind_of w) 1 ≡ true = grind (arith, nat_tests) in
    let q : read_rules standard (suc (room - 1)) (w ∷ vs) ≡ then (read_rules standard (room - 1) us) (λ ys vs. ok (r ∷ ys) vs) = rw (d, e, c, g) in
    ap (λ (v : List ℕ). front xs (read_rules standard room v)) s ∙ ap (λ (m : ℕ). front xs (read_rules standard m (w ∷ vs))) n
    ∙ ap (λ (q : Parsed (List Parts)). front xs q) q ∙ joined_front xs r (read_rules standard (room - 1) us)
