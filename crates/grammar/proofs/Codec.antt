-- Reading accepts exactly what is written: each reader reads back what was written, and has read only what was written.
use Rattle.std.proofs.Common.{◌≡◌, ℕ, zero, suc, ◌+◌, ◌-◌, ◌*◌, ◌^◌, ◌<◌, ◌≤◌, Bool, true, false, cond, eqb, ltb, List, [], ◌∷◌, ◌++◌, length, get_or, sym, refl, ap, ◌∙◌, subst, ap₂, append_assoc, arith}
use lib.Bits.{bit_and}
use Rattle.std.specs.List.{flat_map, AllByRecursion}
use Rattle.std.proofs.lemmas.Bool.Decides.{nat_tests}
use Rattle.words.specs.Words.{kind_of, payload_of, word, masks, allowed, clean, name_in, count_in, label_in, signed, unsigned}
use Rattle.grammar.specs.declared.reason.Reason.{Reason}
use Rattle.grammar.specs.declared.reason.Reason.TheVariants.{StrayBit, OutOfRange}
use Rattle.grammar.specs.declared.part.Operand.{Operand}
use Rattle.grammar.specs.declared.part.Operand.TheVariants.{Var, Const}
use Rattle.grammar.specs.declared.part.Term.{Term}
use Rattle.grammar.specs.declared.part.Term.TheVariants.{One as Single, Sum, Diff}
use Rattle.grammar.specs.declared.part.Test.{Test}
use Rattle.grammar.specs.declared.part.Test.TheVariants.{Equal, NotEqual, Less, AtMost}
use Rattle.args.specs.declared.Args.{Args}
use Rattle.args.specs.declared.Args.TheVariants.{Zero, One, Two, Three}
use Rattle.grammar.specs.declared.part.Atom.{Atom}
use Rattle.grammar.specs.declared.part.Guard.{Guard}
use Rattle.args.specs.Listed.{listed, amount}
use Rattle.grammar.specs.Parts.{Parts}
use Rattle.grammar.specs.Writing.{operand_words, term_words, atom_words, head_words, test_number, guard_words, body_words, heads_words, tail_words, written}
use Rattle.grammar.specs.Writing.{Limits, FormedOperand, FormedTerm, FormedAtom, FormedHead, FormedGuard, FormedBody, FormedRule, Formed}
use Rattle.grammar.specs.Reading.{Parsed, ok, no, then, read_operand, read_pair, read_term, read_args, read_atom, read_head, test_at, read_guard, read_body, read_parts, read_rule, read_rules, read_table}
use Rattle.grammar.proofs.Payloads.{kind_word, payload_word, payload_lt, word_parts, clean_word, clean_payload, none_only, four_only, four_all, label_only, label_all, const_all}
use Rattle.grammar.proofs.Payloads.{fact_only, fact_all, name_in_lem, count_in_lem, unsigned_lt, signed_unsigned, signed_back}

pub record Reads {A : Type 0} (read : List ℕ → Parsed A) (words : A → List ℕ) (Good : A → Type 0) : Type 0 where
  pub all : (a : A) (us : List ℕ) → Good a → read (words a ++ us) ≡ ok a us
  pub only : (ws : List ℕ) (a : A) (us : List ℕ) → read ws ≡ ok a us → Good a × (ws ≡ words a ++ us)

-- where a reader gave a value, so did what came before
pub then_ok : {A B C : Type 0} (p : Parsed A) (f : A → List ℕ → Parsed B) (b : B) (us : List ℕ) → then p f ≡ ok b us →
    ((a : A) (vs : List ℕ) → p ≡ ok a vs → f a vs ≡ ok b us → C) → C
then_ok (ok a vs) f b us h k = k a vs refl h
then_ok (no c n) f b us h k = absurd (let z : ◌≡◌ {A = ℕ} 0 1 = cc in omega arith)

-- and where a test chose, so did the part chosen
pub cond_ok : {A C : Type 0} (b : Bool) (x y : Parsed A) (a : A) (us : List ℕ) → cond b x y ≡ ok a us →
    (b ≡ true → x ≡ ok a us → C) → (b ≡ false → y ≡ ok a us → C) → C
cond_ok true x y a us h k l = k refl h
cond_ok false x y a us h k l = l refl h

pub no_ok : {A C : Type 0} (r : Reason) (n : ℕ) (a : A) (us : List ℕ) → no r n ≡ ok a us → C
no_ok r n a us h = absurd (let z : ◌≡◌ {A = ℕ} 0 1 = cc in omega arith)

moved : {A : Type 0} (P : A → List ℕ → Type 0) (a t : A) (vs us : List ℕ) → ◌≡◌ {A = Parsed A} (ok a vs) (ok t us) → P a vs → P t us
moved {A} P a t vs us q g =
    let y : a ≡ t = cc in
    let z : vs ≡ us = cc in
    subst (λ (b : A). P b us) y (subst (λ (rs : List ℕ). P a rs) z g)

same_kind : (w k : ℕ) → eqb (kind_of w) k ≡ true → kind_of w ≡ k
same_kind w k h = grind (arith, nat_tests)

operand_all : (a : Operand) (us : List ℕ) → FormedOperand a → read_operand (operand_words a ++ us) ≡ ok a us
operand_all (Var v) us h =
    let b : v < 2 ^ 28 = omega arith in
    let k : kind_of (word 6 v) ≡ 6 = kind_word 6 v b in
    let l : payload_of (word 6 v) ≡ v = payload_word 6 v b in
    let c : clean (word 6 v) ≡ true = clean_word 6 v b (four_all v (omega arith)) in
    let m : count_in v ≡ v = omega arith in
    simp (k, l, m) (grind (arith, nat_tests))
operand_all (Const n) us h =
    let b : unsigned n < 2 ^ 28 = unsigned_lt n h in
    let k : kind_of (word 7 (unsigned n)) ≡ 7 = kind_word 7 (unsigned n) b in
    let l : payload_of (word 7 (unsigned n)) ≡ unsigned n = payload_word 7 (unsigned n) b in
    let c : clean (word 7 (unsigned n)) ≡ true = clean_word 7 (unsigned n) b (const_all (unsigned n) b) in
    rw (c, k, l, signed_unsigned n h)

abbrev Was : {A : Type 0} → (A → Type 0) → (A → List ℕ) → List ℕ → A → List ℕ → Type 0
Was G e ws a us = G a × (ws ≡ e a ++ us)

operand_only : (ws : List ℕ) (a : Operand) (us : List ℕ) → read_operand ws ≡ ok a us → FormedOperand a × (ws ≡ operand_words a ++ us)
operand_only [] a us h = no_ok _ _ a us h
operand_only (w ∷ ws) a us h =
    cond_ok (eqb (kind_of w) 6) _ _ a us h
    (λ k i. cond_ok (clean w) _ _ a us i
    (λ c j. cond_ok (ltb 7 (count_in (payload_of w))) _ _ a us j
    (λ t q. no_ok _ _ a us q)
    (λ t q.
    let e : kind_of w ≡ 6 = same_kind w 6 k in
    let f : count_in (payload_of w) ≡ payload_of w = four_only (payload_of w) (clean_payload w 6 e c) in
    moved (Was FormedOperand operand_words (w ∷ ws)) (Var (count_in (payload_of w))) a ws us q
    (grind (arith, nat_tests), ap (λ (v : ℕ). v ∷ ws) (word_parts w 6 (count_in (payload_of w)) e (sym f)))))
    (λ c j. no_ok _ _ a us j))
    (λ k i. cond_ok (eqb (kind_of w) 7) _ _ a us i
    (λ k i. cond_ok (clean w) _ _ a us i
    (λ c j.
    let b = signed_back (payload_of w) (payload_lt w) in
    moved (Was FormedOperand operand_words (w ∷ ws)) (Const (signed (payload_of w))) a ws us j
    (b.0, ap (λ (v : ℕ). v ∷ ws) (word_parts w 7 (unsigned (signed (payload_of w))) (same_kind w 7 k) (sym b.1))))
    (λ c j. no_ok _ _ a us j))
    (λ k i. no_ok _ _ a us i))

pub operand_reads : Reads read_operand operand_words FormedOperand
operand_reads = record { all = operand_all; only = operand_only }

pair_all : (a b : Operand) (us : List ℕ) → FormedOperand a × FormedOperand b → read_pair ((operand_words a ++ operand_words b) ++ us) ≡ ok (a, b) us
pair_all a b us h = rw (append_assoc, operand_all a (operand_words b ++ us) h.0, operand_all b us h.1)

pair_only : (ws : List ℕ) (x : Operand × Operand) (us : List ℕ) → read_pair ws ≡ ok x us →
    (FormedOperand x.0 × FormedOperand x.1) × (ws ≡ (operand_words x.0 ++ operand_words x.1) ++ us)
pair_only ws x us h =
    then_ok (read_operand ws) _ x us h (λ a vs i j.
    then_ok (read_operand vs) _ x us j (λ b rs k l.
    let m = operand_only ws a vs i in
    let n = operand_only vs b rs k in
    moved (Was (λ (x : Operand × Operand). FormedOperand x.0 × FormedOperand x.1) (λ x. operand_words x.0 ++ operand_words x.1) ws) (a, b) x rs us l
    ((m.0, n.0), m.1 ∙ ap (λ (v : List ℕ). operand_words a ++ v) n.1 ∙ simp append_assoc)))

operand_kind : (a : Operand) (us : List ℕ) → FormedOperand a → (w : ℕ) (vs : List ℕ) → operand_words a ++ us ≡ w ∷ vs → (eqb (kind_of w) 8 ≡ false) × (eqb (kind_of w) 9 ≡ false)
operand_kind (Var v) us h w vs e =
    let f : word 6 v ≡ w = cc in
    let k : kind_of (word 6 v) ≡ 6 = kind_word 6 v (omega arith) in
    (rw (sym f, k) refl, rw (sym f, k) refl)
operand_kind (Const n) us h w vs e =
    let f : word 7 (unsigned n) ≡ w = cc in
    let k : kind_of (word 7 (unsigned n)) ≡ 7 = kind_word 7 (unsigned n) (unsigned_lt n h) in
    (rw (sym f, k) refl, rw (sym f, k) refl)

single : (ws : List ℕ) (a : Operand) (us : List ℕ) → read_operand ws ≡ ok a us →
    ((w : ℕ) (vs : List ℕ) → ws ≡ w ∷ vs → (eqb (kind_of w) 8 ≡ false) × (eqb (kind_of w) 9 ≡ false)) → read_term ws ≡ ok (Single a) us
single [] a us h k = no_ok _ _ a us h
single (w ∷ ws) a us h k = let i = k w ws refl in rw (i.0, i.1, h)

term_all : (t : Term) (us : List ℕ) → FormedTerm t → read_term (term_words t ++ us) ≡ ok t us
term_all (Single a) us h = single (operand_words a ++ us) a us (operand_all a us h) (operand_kind a us h)
term_all (Sum a b) us h = rw (pair_all a b us h)
term_all (Diff a b) us h = rw (pair_all a b us h)

tag_only : (k w : ℕ) → eqb (kind_of w) k ≡ true → (clean w ≡ true → payload_of w ≡ 0) → clean w ≡ true → w ≡ word k 0
tag_only k w e f c = word_parts w k 0 (same_kind w k e) (f c)

term_only : (ws : List ℕ) (t : Term) (us : List ℕ) → read_term ws ≡ ok t us → FormedTerm t × (ws ≡ term_words t ++ us)
term_only [] t us h = no_ok _ _ t us h
term_only (w ∷ ws) t us h =
    cond_ok (eqb (kind_of w) 8) _ _ t us h
    (λ k i. cond_ok (clean w) _ _ t us i
    (λ m j. then_ok (read_pair ws) _ t us j (λ x vs p q.
    let r = pair_only ws x vs p in
    let e : w ≡ word 8 0 = tag_only 8 w k (λ c. none_only (payload_of w) (clean_payload w 8 (same_kind w 8 k) c)) m in
    moved (Was FormedTerm term_words (w ∷ ws)) (Sum x.0 x.1) t vs us q (r.0, ap₂ (λ (x : ℕ) (xs : List ℕ). x ∷ xs) e r.1)))
    (λ m j. no_ok _ _ t us j))
    (λ k i. cond_ok (eqb (kind_of w) 9) _ _ t us i
    (λ k i. cond_ok (clean w) _ _ t us i
    (λ m j. then_ok (read_pair ws) _ t us j (λ x vs p q.
    let r = pair_only ws x vs p in
    let e : w ≡ word 9 0 = tag_only 9 w k (λ c. none_only (payload_of w) (clean_payload w 9 (same_kind w 9 k) c)) m in
    moved (Was FormedTerm term_words (w ∷ ws)) (Diff x.0 x.1) t vs us q (r.0, ap₂ (λ (x : ℕ) (xs : List ℕ). x ∷ xs) e r.1)))
    (λ m j. no_ok _ _ t us j))
    (λ l i. then_ok (read_operand (w ∷ ws)) _ t us i (λ x vs p q.
    let r = operand_only (w ∷ ws) x vs p in
    moved (Was FormedTerm term_words (w ∷ ws)) (Single x) t vs us q (r.0, r.1))))

pub term_reads : Reads read_term term_words FormedTerm
term_reads = record { all = term_all; only = term_only }

-- arguments, and the words after them
module _ {A : Type 0} {read : List ℕ → Parsed A} {words : A → List ℕ} {Good : A → Type 0} (R : Reads read words Good) where
  args_all : (xs : Args A) (us : List ℕ) → AllByRecursion Good (listed xs) → read_args read (amount xs) (flat_map words (listed xs) ++ us) ≡ ok xs us
  args_all Zero us h = refl
  args_all (One a) us h = rw (append_assoc, R.all a us h.0)
  args_all (Two a b) us h = rw (append_assoc, append_assoc, R.all a _ h.0, R.all b us h.1.0)
  args_all (Three a b c) us h =
      rw (append_assoc, append_assoc, append_assoc, R.all a _ h.0, R.all b _ h.1.0, R.all c us h.1.1.0)

  abbrev Gave : ℕ → List ℕ → Args A → List ℕ → Type 0
  Gave n ws xs us = AllByRecursion Good (listed xs) × (amount xs ≡ n) × (ws ≡ flat_map words (listed xs) ++ us)

  args_only : (n : ℕ) (ws : List ℕ) (xs : Args A) (us : List ℕ) → n ≤ 3 → read_args read n ws ≡ ok xs us → Gave n ws xs us
  args_only zero ws xs us b h = moved (Gave 0 ws) Zero xs ws us h (tt, refl, refl)
  args_only (suc zero) ws xs us b h =
      then_ok (read ws) _ xs us h (λ a vs i j.
      let m = R.only ws a vs i in
      moved (Gave 1 ws) (One a) xs vs us j ((m.0, tt), refl, m.1 ∙ simp append_assoc))
  args_only (suc (suc zero)) ws xs us b h =
      then_ok (read ws) _ xs us h (λ a vs i j.
      then_ok (read vs) _ xs us j (λ c rs k l.
      let m = R.only ws a vs i in
      let n = R.only vs c rs k in
      moved (Gave 2 ws) (Two a c) xs rs us l ((m.0, (n.0, tt)), refl, m.1 ∙ ap (λ (v : List ℕ). words a ++ v) n.1 ∙ simp append_assoc)))
  args_only (suc (suc (suc n))) ws xs us b h =
      then_ok (read ws) _ xs us h (λ a vs i j.
      then_ok (read vs) _ xs us j (λ c rs k l.
      then_ok (read rs) _ xs us l (λ d ts p q.
      let m = R.only ws a vs i in
      let o = R.only vs c rs k in
      let s = R.only rs d ts p in
      moved (Gave (suc (suc (suc n))) ws) (Three a c d) xs ts us q (
        (m.0, (o.0, (s.0, tt))),
        omega arith,
        m.1 ∙ ap (λ (v : List ℕ). words a ++ v) (o.1 ∙ ap (λ (v : List ℕ). words c ++ v) s.1) ∙ simp append_assoc,
      ))))

  amount_le : (xs : Args A) → amount xs ≤ 3
  amount_le Zero = omega arith
  amount_le (One a) = omega arith
  amount_le (Two a b) = omega arith
  amount_le (Three a b c) = omega arith

-- A part of a rule: its first word has a kind and a payload, and further words follow.
pub record ReadsPart {A : Type 0} (read : ℕ → List ℕ → Parsed A) (k : ℕ) (words : A → List ℕ) (Good : A → Type 0) : Type 0 where
  pub first : A → ℕ
  pub rest : A → List ℕ
  pub split : (a : A) → words a ≡ word k (first a) ∷ rest a
  pub small : (a : A) → Good a → first a < 2 ^ 28
  pub bits : (a : A) → Good a → allowed k (first a) ≡ true
  pub all : (a : A) (us : List ℕ) → Good a → read (first a) (rest a ++ us) ≡ ok a us
  pub only : (n : ℕ) (ws : List ℕ) (a : A) (us : List ℕ) → allowed k n ≡ true → read n ws ≡ ok a us → Good a × (n ≡ first a) × (ws ≡ rest a ++ us)

-- a name, a count and that many arguments, whatever is made of them
module _ {A : Type 0} {read : List ℕ → Parsed A} {words : A → List ℕ} {Good : A → Type 0} (R : Reads read words Good) where
  named_all : {B : Type 0} (make : ℕ → Args A → B) (name : ℕ) (xs : Args A) (us : List ℕ) → name < 2 ^ 8 → AllByRecursion Good (listed xs) →
      cond (ltb 3 (count_in (name * 2 ^ 16 + amount xs))) (no OutOfRange (suc (length (flat_map words (listed xs) ++ us))))
      (then (read_args read (count_in (name * 2 ^ 16 + amount xs)) (flat_map words (listed xs) ++ us)) (λ ys vs. ok (make (name_in (name * 2 ^ 16 + amount xs)) ys) vs))
      ≡ ok (make name xs) us
  named_all make name xs us h g =
      let b : amount xs ≤ 3 = amount_le R xs in
      let c : count_in (name * 2 ^ 16 + amount xs) ≡ amount xs = count_in_lem name (amount xs) (omega arith) in
      let n : name_in (name * 2 ^ 16 + amount xs) ≡ name = name_in_lem name (amount xs) h (omega arith) in
      let t : ltb 3 (amount xs) ≡ false = grind (arith, nat_tests) in
      rw (c, n, t, args_all R xs us g)

  named_only : {B : Type 0} (make : ℕ → Args A → B) (n : ℕ) (ws : List ℕ) (b : B) (us : List ℕ) →
      cond (ltb 3 (count_in n)) (no OutOfRange (suc (length ws))) (then (read_args read (count_in n) ws) (λ ys vs. ok (make (name_in n) ys) vs)) ≡ ok b us →
      (xs : Args A) × AllByRecursion Good (listed xs) × (amount xs ≡ count_in n) × (make (name_in n) xs ≡ b) × (ws ≡ flat_map words (listed xs) ++ us)
  named_only make n ws b us h =
      cond_ok (ltb 3 (count_in n)) _ _ b us h
      (λ t q. no_ok _ _ b us q)
      (λ t q. then_ok (read_args read (count_in n) ws) _ b us q (λ ys vs i j.
      let g = args_only R (count_in n) ws ys vs (grind (arith, nat_tests)) i in
      let e : make (name_in n) ys ≡ b = cc in
      let f : vs ≡ us = cc in
      (ys, g.0, g.1, e, g.2 ∙ ap (λ (v : List ℕ). flat_map words (listed ys) ++ v) f)))

name_lt : (n : ℕ) → name_in n < 2 ^ 8
name_lt n = omega arith

fact_small : (name count : ℕ) → name < 2 ^ 8 → count ≤ 3 → name * 2 ^ 16 + count < 2 ^ 28
fact_small name count h b = omega arith

-- the payload of an atom's first word, from its parts
same_payload : (n m c : ℕ) → eqb (bit_and n 0xFF000F) n ≡ true → name_in n ≡ m → c ≡ count_in n → n ≡ m * 2 ^ 16 + c
same_payload n m c h e f = fact_only n h ∙ ap₂ (λ (x y : ℕ). x * 2 ^ 16 + y) e (sym f)

-- an atom, over arguments that are read and written
module _ {A : Type 0} {read : List ℕ → Parsed A} {words : A → List ℕ} {Good : A → Type 0} (R : Reads read words Good) where
  abbrev payload : Atom A → ℕ
  payload a = a.name * 2 ^ 16 + amount a.args

  atom_all : (a : Atom A) (us : List ℕ) → FormedAtom Good a → read_atom read (payload a) (flat_map words (listed a.args) ++ us) ≡ ok a us
  atom_all a us g =
      let b : amount a.args ≤ 3 = amount_le R a.args in
      let c : count_in (payload a) ≡ amount a.args = count_in_lem a.name (amount a.args) (omega arith) in
      let n : name_in (payload a) ≡ a.name = name_in_lem a.name (amount a.args) g.0 (omega arith) in
      let t : ltb 3 (amount a.args) ≡ false = grind (arith, nat_tests) in
      rw (c, n, t, args_all R a.args us g.1)

  atom_only : (n : ℕ) (ws : List ℕ) (a : Atom A) (us : List ℕ) → eqb (bit_and n 0xFF000F) n ≡ true → read_atom read n ws ≡ ok a us →
      FormedAtom Good a × (n ≡ payload a) × (ws ≡ flat_map words (listed a.args) ++ us)
  atom_only n ws a us m h =
      cond_ok (ltb 3 (count_in n)) _ _ a us h
      (λ t q. no_ok _ _ a us q)
      (λ t q. then_ok (read_args read (count_in n) ws) _ a us q (λ xs vs i j.
      let g = args_only R (count_in n) ws xs vs (grind (arith, nat_tests)) i in
      let made : record { name = name_in n; args = xs } ≡ a = cc in
      let e : name_in n ≡ a.name = ap (λ (x : Atom A). x.name) made in
      let f : xs ≡ a.args = ap (λ (x : Atom A). x.args) made in
      let v : vs ≡ us = cc in (
        (subst (λ (x : ℕ). x < 2 ^ 8) e (name_lt n), subst (λ (x : Args A). AllByRecursion Good (listed x)) f g.0),
        same_payload n a.name (amount a.args) m e (sym (ap amount f) ∙ g.1),
        g.2 ∙ ap₂ (λ (x : Args A) (y : List ℕ). flat_map words (listed x) ++ y) f v,
      )))

  pub atom_reads : (k : ℕ) → get_or masks k 0 ≡ 0xFF000F → ReadsPart (read_atom read) k (atom_words words k) (FormedAtom Good)
  atom_reads k m =
      record {
        first = payload;
        rest = λ a. flat_map words (listed a.args);
        split = λ a. refl;
        small = λ a g. fact_small a.name (amount a.args) g.0 (amount_le R a.args);
        bits = λ a g. let b : amount a.args ≤ 3 = amount_le R a.args in rw m (fact_all a.name (amount a.args) g.0 (omega arith));
        all = atom_all;
        only = λ n ws a us b i. let c : eqb (bit_and n 0xFF000F) n ≡ true = rw m at b in atom_only n ws a us c i;
      }

-- a head, at a kind whose payload is a name and a count
pub head_reads : (k : ℕ) → get_or masks k 0 ≡ 0xFF000F → ReadsPart read_head k (head_words k) FormedHead
head_reads k m = atom_reads operand_reads k m

pub body_reads : ReadsPart read_body 5 body_words FormedBody
body_reads = atom_reads term_reads 5 refl

test_le : (t : Test) → test_number t ≤ 3
test_le Equal = omega arith
test_le NotEqual = omega arith
test_le Less = omega arith
test_le AtMost = omega arith

test_at_lem : (t : Test) → test_at (test_number t) ≡ t
test_at_lem Equal = refl
test_at_lem NotEqual = refl
test_at_lem Less = refl
test_at_lem AtMost = refl

test_number_lem : (n : ℕ) → n ≤ 3 → test_number (test_at n) ≡ n
test_number_lem zero h = refl
test_number_lem (suc zero) h = refl
test_number_lem (suc (suc zero)) h = refl
test_number_lem (suc (suc (suc n))) h = omega arith

guard_all : (g : Guard) (us : List ℕ) → FormedGuard g → read_guard (test_number g.test) ((term_words g.left ++ term_words g.right) ++ us) ≡ ok g us
guard_all g us h =
    let b : test_number g.test ≤ 3 = test_le g.test in
    let c : count_in (test_number g.test) ≡ test_number g.test = omega arith in
    let t : ltb 3 (test_number g.test) ≡ false = grind (arith, nat_tests) in
    rw (append_assoc, c, t, term_all g.left _ h.0, term_all g.right us h.1, test_at_lem g.test)

guard_only : (n : ℕ) (ws : List ℕ) (g : Guard) (us : List ℕ) → allowed 4 n ≡ true → read_guard n ws ≡ ok g us →
    FormedGuard g × (n ≡ test_number g.test) × (ws ≡ (term_words g.left ++ term_words g.right) ++ us)
guard_only n ws g us a h =
    cond_ok (ltb 3 (count_in n)) _ _ g us h
    (λ t q. no_ok _ _ g us q)
    (λ t q. then_ok (read_term ws) _ g us q (λ x vs i j.
    then_ok (read_term vs) _ g us j (λ y rs k l.
    let b : count_in n ≤ 3 = grind (arith, nat_tests) in
    let m = term_only ws x vs i in
    let o = term_only vs y rs k in
    moved (λ g us. FormedGuard g × (n ≡ test_number g.test) × (ws ≡ (term_words g.left ++ term_words g.right) ++ us))
    (record { test = test_at (count_in n); left = x; right = y }) g rs us l
    ((m.0, o.0), sym (four_only n a) ∙ sym (test_number_lem (count_in n) b), m.1 ∙ ap (λ (v : List ℕ). term_words x ++ v) o.1 ∙ simp append_assoc))))

pub guard_reads : ReadsPart read_guard 4 guard_words FormedGuard
guard_reads =
    record {
      first = λ g. test_number g.test;
      rest = λ g. term_words g.left ++ term_words g.right;
      split = λ g. refl;
      small = λ g h. let b : test_number g.test ≤ 3 = test_le g.test in omega arith;
      bits = λ g h. let b : test_number g.test ≤ 3 = test_le g.test in four_all (test_number g.test) (omega arith);
      all = guard_all;
      only = guard_only;
    }

-- the words begin with a word of this kind
abbrev pub starts : ℕ → List ℕ → Bool
starts k [] = false
starts k (w ∷ ws) = eqb (kind_of w) k

other_kind : (k j n : ℕ) → n < 2 ^ 28 → eqb k j ≡ false → eqb (kind_of (word k n)) j ≡ false
other_kind k j n h e = rw (kind_word k n h) e

-- the parts of one kind, up to a word of another kind
module _ {A : Type 0} {read : ℕ → List ℕ → Parsed A} {k : ℕ} {words : A → List ℕ} {Good : A → Type 0} (R : ReadsPart read k words Good) where
  parts_none : (room : ℕ) (us : List ℕ) → starts k us ≡ false → read_parts read k room us ≡ ok [] us
  parts_none room [] h = refl
  parts_none zero (w ∷ us) h = rw h
  parts_none (suc room) (w ∷ us) h = rw h

  parts_all : (room : ℕ) (xs : List A) (us : List ℕ) → AllByRecursion Good xs → length xs ≤ room → starts k us ≡ false →
      read_parts read k room (flat_map words xs ++ us) ≡ ok xs us
  parts_all room [] us g h s = parts_none room us s
  parts_all zero (x ∷ xs) us g h s = absurd (omega arith)
  parts_all (suc room) (x ∷ xs) us g h s =
      let b : R.first x < 2 ^ 28 = R.small x g.0 in
      let e : kind_of (word k (R.first x)) ≡ k = kind_word k (R.first x) b in
      let p : payload_of (word k (R.first x)) ≡ R.first x = payload_word k (R.first x) b in
      let c : clean (word k (R.first x)) ≡ true = clean_word k (R.first x) b (R.bits x g.0) in
      let t : eqb k k ≡ true = grind (arith, nat_tests) in
      let i : read_parts read k room (flat_map words xs ++ us) ≡ ok xs us = parts_all room xs us g.1 (omega arith) s in
      let f : read (R.first x) (R.rest x ++ (flat_map words xs ++ us)) ≡ ok x (flat_map words xs ++ us) = R.all x (flat_map words xs ++ us) g.0 in
      let y : flat_map words (x ∷ xs) ++ us ≡ word k (R.first x) ∷ (R.rest x ++ (flat_map words xs ++ us))
      = ap (λ (v : List ℕ). (v ++ flat_map words xs) ++ us) (R.split x) ∙ simp append_assoc in
      rw (y, c, e, p, t, f, i)

  abbrev Took : ℕ → List ℕ → List A → List ℕ → Type 0
  Took room ws xs us = AllByRecursion Good xs × (length xs ≤ room) × (ws ≡ flat_map words xs ++ us) × (starts k us ≡ false)

  parts_only : (room : ℕ) (ws : List ℕ) (xs : List A) (us : List ℕ) → read_parts read k room ws ≡ ok xs us → Took room ws xs us
  parts_only room [] xs us h = moved (Took room []) [] xs [] us h (tt, omega arith, refl, refl)
  parts_only zero (w ∷ ws) xs us h =
      cond_ok (eqb (kind_of w) k) _ _ xs us h
      (λ e i. cond_ok (clean w) _ _ xs us i (λ c j. no_ok _ _ xs us j) (λ c j. no_ok _ _ xs us j))
      (λ e i. moved (Took zero (w ∷ ws)) [] xs (w ∷ ws) us i (tt, omega arith, refl, e))
  parts_only (suc room) (w ∷ ws) xs us h =
      cond_ok (eqb (kind_of w) k) _ _ xs us h
      (λ e i. cond_ok (clean w) _ _ xs us i
      (λ c j. then_ok (read (payload_of w) ws) _ xs us j (λ x vs p q.
      then_ok (read_parts read k room vs) _ xs us q (λ ys rs l m.
      let s = same_kind w k e in
      let a = R.only (payload_of w) ws x vs (clean_payload w k s c) p in
      let b = parts_only room vs ys rs l in
      let f : w ≡ word k (R.first x) = word_parts w k (R.first x) s a.1 in
      moved (Took (suc room) (w ∷ ws)) (x ∷ ys) xs rs us m (
        (a.0, b.0),
        omega (arith, b.1),
        ap₂ (λ (v : ℕ) (vs : List ℕ). v ∷ vs) f (a.2 ∙ ap (λ (v : List ℕ). R.rest x ++ v) b.2)
            ∙ sym (ap (λ (v : List ℕ). (v ++ flat_map words ys) ++ rs) (R.split x) ∙ simp append_assoc),
        b.3,
      ))))
      (λ c j. no_ok _ _ xs us j))
      (λ e i. moved (Took (suc room) (w ∷ ws)) [] xs (w ∷ ws) us i (tt, omega arith, refl, e))

  -- what follows decides whether a word of another kind comes next
  parts_start : (j : ℕ) (xs : List A) (us : List ℕ) → AllByRecursion Good xs → eqb k j ≡ false → starts j us ≡ false → starts j (flat_map words xs ++ us) ≡ false
  parts_start j [] us g e s = s
  parts_start j (x ∷ xs) us g e s = rw (R.split x) (other_kind k j (R.first x) (R.small x g.0) e)

pub kept_reads : ReadsPart read_head 2 (head_words 2) FormedHead
kept_reads = head_reads 2 refl

pub taken_reads : ReadsPart read_head 3 (head_words 3) FormedHead
taken_reads = head_reads 3 refl

-- no part of a rule comes next
abbrev Over : List ℕ → Type 0
Over us = (starts 2 us ≡ false) × (starts 3 us ≡ false) × (starts 4 us ≡ false) × (starts 5 us ≡ false)

module _ (L : Limits) where
  rule_all : (r : Parts) (us : List ℕ) → FormedRule L r → Over us → read_rule L r.label ((heads_words r ++ tail_words r) ++ us) ≡ ok r us
  rule_all r us g o =
      let b : List ℕ = flat_map body_words r.body ++ us in
      let a : List ℕ = flat_map guard_words r.guards ++ b in
      let t : List ℕ = flat_map (head_words 3) r.taken ++ a in
      let e : (heads_words r ++ tail_words r) ++ us ≡ flat_map (head_words 2) r.kept ++ t = simp append_assoc in
      let b3 : starts 3 b ≡ false = parts_start body_reads 3 r.body us g.body refl o.1 in
      let b2 : starts 2 b ≡ false = parts_start body_reads 2 r.body us g.body refl o.0 in
      let b4 : starts 4 b ≡ false = parts_start body_reads 4 r.body us g.body refl o.2 in
      let a3 : starts 3 a ≡ false = parts_start guard_reads 3 r.guards b g.guards refl b3 in
      let a2 : starts 2 a ≡ false = parts_start guard_reads 2 r.guards b g.guards refl b2 in
      let t2 : starts 2 t ≡ false = parts_start taken_reads 2 r.taken a g.taken refl a2 in
      let k : read_parts read_head 2 L.heads (flat_map (head_words 2) r.kept ++ t) ≡ ok r.kept t
      = parts_all kept_reads L.heads r.kept t g.kept (omega (arith, g.few_heads)) t2 in
      let l : read_parts read_head 3 (L.heads - length r.kept) t ≡ ok r.taken a
      = parts_all taken_reads (L.heads - length r.kept) r.taken a g.taken (omega (arith, g.few_heads)) a3 in
      let z : eqb (length r.kept + length r.taken) 0 ≡ false = let h = g.some_head in grind (arith, nat_tests) in
      let m : read_parts read_guard 4 L.guards a ≡ ok r.guards b = parts_all guard_reads L.guards r.guards b g.guards g.few_guards b4 in
      let n : read_parts read_body 5 L.body b ≡ ok r.body us = parts_all body_reads L.body r.body us g.body g.few_body o.3 in
      rw (e, k, l, z, m, n)

  abbrev Ruled : ℕ → List ℕ → Parts → List ℕ → Type 0
  Ruled label ws r us = (label < 2 ^ 16 → FormedRule L r) × (r.label ≡ label) × (ws ≡ (heads_words r ++ tail_words r) ++ us)

  rule_only : (label : ℕ) (ws : List ℕ) (r : Parts) (us : List ℕ) → read_rule L label ws ≡ ok r us → Ruled label ws r us
  rule_only label ws r us h =
      then_ok (read_parts read_head 2 L.heads ws) _ r us h (λ ks ls h1 i1.
      then_ok (read_parts read_head 3 (L.heads - length ks) ls) _ r us i1 (λ ts bs h2 i2.
      cond_ok (eqb (length ks + length ts) 0) _ _ r us i2
      (λ z i3. no_ok _ _ r us i3)
      (λ z i3. then_ok (read_parts read_guard 4 L.guards bs) _ r us i3 (λ gs cs h4 i4.
      then_ok (read_parts read_body 5 L.body cs) _ r us i4 (λ fs ds h5 i5.
      let p = parts_only kept_reads L.heads ws ks ls h1 in
      let q = parts_only taken_reads (L.heads - length ks) ls ts bs h2 in
      let s = parts_only guard_reads L.guards bs gs cs h4 in
      let t = parts_only body_reads L.body cs fs ds h5 in
      moved (Ruled label ws) (record { label = label; kept = ks; taken = ts; guards = gs; body = fs }) r ds us i5 (
        λ b.
            record {
              label = b;
              kept = p.0;
              taken = q.0;
              guards = s.0;
              body = t.0;
              some_head = grind (arith, nat_tests);
              few_heads = omega (arith, p.1, q.1);
              few_guards = s.1;
              few_body = t.1;
            },
        refl,
        p.2 ∙ ap (λ (v : List ℕ). flat_map (head_words 2) ks ++ v)
            (q.2 ∙ ap (λ (v : List ℕ). flat_map (head_words 3) ts ++ v)
            (s.2 ∙ ap (λ (v : List ℕ). flat_map guard_words gs ++ v) t.2))
            ∙ sym (simp append_assoc),
      ))))))

  label_in_lem : (n : ℕ) → label_in n < 2 ^ 16
  label_in_lem n = omega arith

  -- END or a RULE word comes next, so no part of a rule
  table_over : (rs : List Parts) (us : List ℕ) → AllByRecursion (FormedRule L) rs → Over (written rs ++ us)
  table_over [] us g = (refl, refl, refl, refl)
  table_over (r ∷ rs) us g =
      let b : r.label < 2 ^ 28 = omega (arith, g.0.label) in
      (other_kind 1 2 r.label b refl, other_kind 1 3 r.label b refl, other_kind 1 4 r.label b refl, other_kind 1 5 r.label b refl)

  rules_all : (room : ℕ) (rs : List Parts) (us : List ℕ) → AllByRecursion (FormedRule L) rs → length rs ≤ room → read_rules L room (written rs ++ us) ≡ ok rs us
  rules_all zero [] us g h = refl
  rules_all (suc room) [] us g h = refl
  rules_all zero (r ∷ rs) us g h = absurd (omega arith)
  rules_all (suc room) (r ∷ rs) us g h =
      let b : r.label < 2 ^ 28 = omega (arith, g.0.label) in
      let e : kind_of (word 1 r.label) ≡ 1 = kind_word 1 r.label b in
      let p : payload_of (word 1 r.label) ≡ r.label = payload_word 1 r.label b in
      let c : clean (word 1 r.label) ≡ true = clean_word 1 r.label b (label_all r.label g.0.label) in
      let l : label_in r.label ≡ r.label = omega (arith, g.0.label) in
      let i : read_rules L room (written rs ++ us) ≡ ok rs us = rules_all room rs us g.1 (omega arith) in
      let f : read_rule L r.label ((heads_words r ++ tail_words r) ++ (written rs ++ us)) ≡ ok r (written rs ++ us)
      = rule_all r (written rs ++ us) g.0 (table_over rs us g.1) in
      let s : written (r ∷ rs) ++ us ≡ word 1 r.label ∷ ((heads_words r ++ tail_words r) ++ (written rs ++ us)) = simp append_assoc in
      let q : read_rules L (suc room) (word 1 r.label ∷ ((heads_words r ++ tail_words r) ++ (written rs ++ us))) ≡ ok (r ∷ rs) us = rw (c, e, p, l, f, i) in
      ap (λ (v : List ℕ). read_rules L (suc room) v) s ∙ q

  abbrev Tabled : ℕ → List ℕ → List Parts → List ℕ → Type 0
  Tabled room ws rs us = AllByRecursion (FormedRule L) rs × (length rs ≤ room) × (ws ≡ written rs ++ us)

  ended : (room w : ℕ) (ws : List ℕ) (rs : List Parts) (us : List ℕ) → eqb (kind_of w) 15 ≡ true →
      cond (clean w) (ok [] ws) (no StrayBit (suc (length ws))) ≡ ok rs us → Tabled room (w ∷ ws) rs us
  ended room w ws rs us e h =
      cond_ok (clean w) _ _ rs us h
      (λ c j.
      let f : w ≡ word 15 0 = tag_only 15 w e (λ c. none_only (payload_of w) (clean_payload w 15 (same_kind w 15 e) c)) c in
      moved (Tabled room (w ∷ ws)) [] rs ws us j (tt, omega arith, ap (λ (v : ℕ). v ∷ ws) f))
      (λ c j. no_ok _ _ rs us j)

  rules_only : (room : ℕ) (ws : List ℕ) (rs : List Parts) (us : List ℕ) → read_rules L room ws ≡ ok rs us → Tabled room ws rs us
  rules_only room [] rs us h = no_ok _ _ rs us h
  rules_only zero (w ∷ ws) rs us h =
      cond_ok (eqb (kind_of w) 15) _ _ rs us h
      (λ e i. ended zero w ws rs us e i)
      (λ e i. cond_ok (eqb (kind_of w) 1) _ _ rs us i
      (λ f j. cond_ok (clean w) _ _ rs us j (λ c q. no_ok _ _ rs us q) (λ c q. no_ok _ _ rs us q))
      (λ f j. no_ok _ _ rs us j))
  rules_only (suc room) (w ∷ ws) rs us h =
      cond_ok (eqb (kind_of w) 15) _ _ rs us h
      (λ e i. ended (suc room) w ws rs us e i)
      (λ e i. cond_ok (eqb (kind_of w) 1) _ _ rs us i
      (λ f j. cond_ok (clean w) _ _ rs us j
      (λ c q. then_ok (read_rule L (label_in (payload_of w)) ws) _ rs us q (λ r vs l m.
      then_ok (read_rules L room vs) _ rs us m (λ qs xs n o.
      let s = same_kind w 1 f in
      let d : label_in (payload_of w) ≡ payload_of w = label_only (payload_of w) (clean_payload w 1 s c) in
      let a = rule_only (label_in (payload_of w)) ws r vs l in
      let b = rules_only room vs qs xs n in
      let y : w ≡ word 1 r.label = word_parts w 1 r.label s (sym d ∙ sym a.1) in
      moved (Tabled (suc room) (w ∷ ws)) (r ∷ qs) rs xs us o (
        (a.0 (label_in_lem (payload_of w)), b.0),
        omega (arith, b.1),
        ap₂ (λ (v : ℕ) (vs : List ℕ). v ∷ vs) y (a.2 ∙ ap (λ (v : List ℕ). (heads_words r ++ tail_words r) ++ v) b.2)
            ∙ sym (simp append_assoc),
      ))))
      (λ c q. no_ok _ _ rs us q))
      (λ f j. no_ok _ _ rs us j))

  pub table_all : (rs : List Parts) (us : List ℕ) → Formed L rs → read_table L (written rs ++ us) ≡ ok rs us
  table_all rs us g = rules_all L.rules rs us g.each g.few

  pub table_only : (ws : List ℕ) (rs : List Parts) (us : List ℕ) → read_table L ws ≡ ok rs us → Formed L rs × (ws ≡ written rs ++ us)
  table_only ws rs us h = let a = rules_only L.rules ws rs us h in (record { few = a.1; each = a.0 }, a.2)
