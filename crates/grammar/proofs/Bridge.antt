-- The readers of a table stop where reading word by word stops.
use Rattle.std.proofs.Common.{◌≡◌, ℕ, zero, suc, ◌+◌, ◌-◌, ◌<◌, ◌≤◌, true, false, cond, eqb, ltb, leb, ◌⊎◌, List, [], ◌∷◌, length, replicate, refl, ◌∙◌, inl, inr, ⊎_elim, arith}
use Rattle.std.proofs.lemmas.Bool.Decides.{nat_tests}
use Rattle.std.proofs.lemmas.Bool.{eqb-true, ltb-true, ltb-false, leb-true, leb-false, lt-ltb, le-ltb}
use Rattle.words.specs.Words.{kind_of, payload_of, clean, name_in, count_in, label_in}
use Rattle.grammar.specs.declared.reason.Reason.TheVariants.{OutOfTurn, StrayBit, OutOfRange}
use Rattle.grammar.specs.declared.part.Operand.{Operand}
use Rattle.grammar.specs.declared.part.Term.TheVariants.{One as Single, Sum, Diff}
use Rattle.grammar.specs.declared.part.Atom.{Atom}
use Rattle.grammar.specs.Atoms.{Head, BodyFact}
use Rattle.grammar.specs.declared.part.Guard.{Guard}
use Rattle.grammar.specs.Parts.{Parts}
use Rattle.grammar.specs.Writing.{Limits}
use Rattle.grammar.specs.Reading.{Parsed, ok, no, then, read_operand, read_pair, read_term, read_args, read_head, read_guard, read_body, test_at, read_parts, read_rule, read_rules, read_table}
use Rattle.grammar.proofs.Scan.{Slot, operand, term, Stage, start, opened, turn, fits, next, moved, room, Seen, done, stop, scan, scan_turn, scan_stray, scan_range, scan_on, scan_end, tested}

-- goes on after what a reader read
abbrev pub onward : {A : Type 0} → Parsed A → (A → List ℕ → Seen) → Seen
onward (ok a us) f = f a us
onward (no r n) f = stop r n

seq : {A B : Type 0} (q : Parsed A) (f : A → List ℕ → Parsed B) (g : A → List ℕ → Seen) (h : B → List ℕ → Seen) →
    ((a : A) (us : List ℕ) → q ≡ ok a us → g a us ≡ onward (f a us) h) → onward q g ≡ onward (then q f) h
seq (ok a us) f g h k = k a us refl
seq (no r n) f g h k = refl

after : {A B : Type 0} (q : Parsed A) (f : A → List ℕ → Parsed B) (h : B → List ℕ → Seen) →
    onward q (λ a us. onward (f a us) h) ≡ onward (then q f) h
after q f h = seq q f _ h (λ a us i. refl)

operand_scan : (L : Limits) (P : List Slot) (s : Stage) (ws : List ℕ) →
    scan L (operand ∷ P) s ws ≡ onward (read_operand ws) (λ a us. scan L P s us)
operand_scan L P s [] = refl
operand_scan L P s (w ∷ ws) =
    tested (eqb (kind_of w) 6)
    (λ k. let e = eqb-true (kind_of w) 6 k in
    tested (clean w)
    (λ c. tested (ltb 7 (count_in (payload_of w))) (λ f. rw (c, f, e)) (λ f. rw (c, f, e)))
    (λ c. rw (c, e)))
    (λ k. tested (eqb (kind_of w) 7)
    (λ j. let e = eqb-true (kind_of w) 7 j in
    tested (clean w) (λ c. rw (c, e)) (λ c. rw (c, e)))
    (λ j. rw (k, j)))

pair_scan : {A : Type 0} (L : Limits) (P : List Slot) (s : Stage) (f : Operand → Operand → A) (ws : List ℕ) →
    scan L (operand ∷ operand ∷ P) s ws ≡ onward (then (read_pair ws) (λ x us. ok (f x.0 x.1) us)) (λ a us. scan L P s us)
pair_scan L P s f ws =
    operand_scan L (operand ∷ P) s ws
    ∙ seq (read_operand ws) _ _ (λ x us. scan L P s us) (λ a us h. operand_scan L P s us ∙ seq (read_operand us) _ _ _ (λ b vs i. refl))
    ∙ seq (read_pair ws) _ _ _ (λ x us h. refl)

term_scan : (L : Limits) (P : List Slot) (s : Stage) (ws : List ℕ) →
    scan L (term ∷ P) s ws ≡ onward (read_term ws) (λ a us. scan L P s us)
term_scan L P s [] = refl
term_scan L P s (w ∷ ws) =
    tested (eqb (kind_of w) 8)
    (λ k. let e = eqb-true (kind_of w) 8 k in
    tested (clean w) (λ c. rw (c, e) (pair_scan L P s Sum ws)) (λ c. rw (c, e)))
    (λ k. tested (eqb (kind_of w) 9)
    (λ j. let e = eqb-true (kind_of w) 9 j in
    tested (clean w) (λ c. rw (c, e) (pair_scan L P s Diff ws)) (λ c. rw (c, e)))
    (λ j. rw (k, j) (operand_scan L P s (w ∷ ws) ∙ seq (read_operand (w ∷ ws)) (λ a us. ok (Single a) us) _ (λ a us. scan L P s us) (λ a us h. refl))))

-- that many arguments in a row
args_scan : {A : Type 0} (L : Limits) (p : List ℕ → Parsed A) (x : Slot) →
    ((P : List Slot) (s : Stage) (ws : List ℕ) → scan L (x ∷ P) s ws ≡ onward (p ws) (λ a us. scan L P s us)) →
    (n : ℕ) → n ≤ 3 → (s : Stage) (ws : List ℕ) →
    scan L (replicate n x) s ws ≡ onward (read_args p n ws) (λ a us. scan L [] s us)
args_scan L p x h zero m s ws = refl
args_scan L p x h (suc zero) m s ws = h [] s ws ∙ seq (p ws) _ _ _ (λ a us i. refl)
args_scan L p x h (suc (suc zero)) m s ws =
    h (x ∷ []) s ws
    ∙ seq (p ws) _ _ _ (λ a us i. h [] s us ∙ seq (p us) _ _ _ (λ b vs j. refl))
args_scan L p x h (suc (suc (suc zero))) m s ws =
    h (x ∷ x ∷ []) s ws
    ∙ seq (p ws) _ _ _ (λ a us i. h (x ∷ []) s us ∙ seq (p us) _ _ _ (λ b vs j. h [] s vs ∙ seq (p vs) _ _ _ (λ c xs l. refl)))
args_scan L p x h (suc (suc (suc (suc n)))) m s ws = absurd (omega arith)

-- the parts of kind k, read by p, of which the stage leaves room for some
record Part {A : Type 0} (L : Limits) (p : ℕ → List ℕ → Parsed A) (k : ℕ) (left : Stage → ℕ) : Type 0 where
  low : 1 < k
  high : k ≤ 5
  opens : (s : Stage) (w : ℕ) (ws : List ℕ) → kind_of w ≡ k → turn [] s k ≡ true → clean w ≡ true → 0 < left s →
      scan L [] s (w ∷ ws) ≡ onward (p (payload_of w) ws) (λ a us. scan L [] (moved [] s k) us)
  full : (s : Stage) (n : ℕ) → left s ≡ 0 → fits L s k n ≡ false
  again : (s : Stage) → turn [] (moved [] s k) k ≡ true
  phase : (s : Stage) → (moved [] s k).phase ≡ k
  less : (s : Stage) → left (moved [] s k) ≡ left s - 1

-- the first word of a part: room for it, then the number in its payload, then the rest, read by q
module _ {A : Type 0} (L : Limits) (k : ℕ) (used : Stage → ℕ) (most : ℕ) (q : ℕ → List ℕ → Parsed A)
    (low : 1 < k) (high : k ≤ 5)
    (same : (s : Stage) (n : ℕ) → fits L s k n ≡ room (used s) most n)
    (rest : (s : Stage) (n : ℕ) (ws : List ℕ) → count_in n ≤ 3 →
    scan L (next [] k n) (moved [] s k) ws ≡ onward (q n ws) (λ a us. scan L [] (moved [] s k) us))
    (again : (s : Stage) → turn [] (moved [] s k) k ≡ true) (phase : (s : Stage) → (moved [] s k).phase ≡ k)
    (one : (s : Stage) → used (moved [] s k) ≡ suc (used s)) where
  part_opens : (s : Stage) (w : ℕ) (ws : List ℕ) → kind_of w ≡ k → turn [] s k ≡ true → clean w ≡ true → used s < most →
      scan L [] s (w ∷ ws)
      ≡ onward (cond (ltb 3 (count_in (payload_of w))) (no OutOfRange (suc (length ws))) (q (payload_of w) ws)) (λ a us. scan L [] (moved [] s k) us)
  part_opens s w ws e t c l =
      let u = lt-ltb (used s) most l in
      tested (ltb 3 (count_in (payload_of w)))
      (λ f. scan_range L [] s w ws k e t c (same s (payload_of w) ∙ rw (u, f)) ∙ rw f)
      (λ f. scan_on L [] s w ws k e t c (same s (payload_of w) ∙ rw (u, f)) (grind (arith, nat_tests)) ∙ rw f (rest s (payload_of w) ws (ltb-false _ _ f)))

  part_full : (s : Stage) (n : ℕ) → most ≤ used s → fits L s k n ≡ false
  part_full s n l = let u = le-ltb (used s) most l in same s n ∙ rw u

  counted : Part L (λ n ws. cond (ltb 3 (count_in n)) (no OutOfRange (suc (length ws))) (q n ws)) k (λ s. most - used s)
  counted =
      record {
        low = low;
        high = high;
        opens = λ s w ws e t c l. part_opens s w ws e t c (omega arith);
        full = λ s n h. part_full s n (omega arith);
        again = again;
        phase = phase;
        less = λ s. omega (arith, one s);
      }

-- what follows the first word of a part
abbrev atom_rest : {A : Type 0} → (List ℕ → Parsed A) → ℕ → List ℕ → Parsed (Atom A)
atom_rest p n ws = then (read_args p (count_in n) ws) (λ xs us. ok (record { name = name_in n; args = xs }) us)

abbrev guard_rest : ℕ → List ℕ → Parsed Guard
guard_rest n ws = then (read_term ws) (λ a us. then (read_term us) (λ b vs. ok (record { test = test_at (count_in n); left = a; right = b }) vs))

atom_rest_lem : {A : Type 0} (L : Limits) (p : List ℕ → Parsed A) (x : Slot) →
    ((P : List Slot) (s : Stage) (ws : List ℕ) → scan L (x ∷ P) s ws ≡ onward (p ws) (λ a us. scan L P s us)) →
    (s : Stage) (n : ℕ) (ws : List ℕ) → count_in n ≤ 3 →
    scan L (replicate (count_in n) x) s ws ≡ onward (atom_rest p n ws) (λ a us. scan L [] s us)
atom_rest_lem L p x h s n ws m = args_scan L p x h (count_in n) m s ws ∙ seq (read_args p (count_in n) ws) _ _ _ (λ a us i. refl)

guard_rest_lem : (L : Limits) (s : Stage) (n : ℕ) (ws : List ℕ) → scan L (term ∷ term ∷ []) s ws ≡ onward (guard_rest n ws) (λ a us. scan L [] s us)
guard_rest_lem L s n ws =
    term_scan L (term ∷ []) s ws ∙ seq (read_term ws) _ _ _ (λ a us i. term_scan L [] s us ∙ seq (read_term us) _ _ _ (λ b vs j. refl))

kept_part : (L : Limits) → Part L read_head 2 (λ s. L.heads - s.heads)
kept_part L =
    counted L 2 (λ s. s.heads) L.heads (atom_rest read_operand) (omega arith) (omega arith) (λ s n. refl) (λ s. atom_rest_lem L read_operand operand (operand_scan L) (moved [] s 2))
    (λ s. refl) (λ s. refl) (λ s. refl)

taken_part : (L : Limits) → Part L read_head 3 (λ s. L.heads - s.heads)
taken_part L =
    counted L 3 (λ s. s.heads) L.heads (atom_rest read_operand) (omega arith) (omega arith) (λ s n. refl) (λ s. atom_rest_lem L read_operand operand (operand_scan L) (moved [] s 3))
    (λ s. refl) (λ s. refl) (λ s. refl)

guard_part : (L : Limits) → Part L read_guard 4 (λ s. L.guards - s.guards)
guard_part L =
    counted L 4 (λ s. s.guards) L.guards guard_rest (omega arith) (omega arith) (λ s n. refl) (λ s n ws m. guard_rest_lem L (moved [] s 4) n ws)
    (λ s. refl) (λ s. refl) (λ s. refl)

body_part : (L : Limits) → Part L read_body 5 (λ s. L.body - s.body)
body_part L =
    counted L 5 (λ s. s.body) L.body (atom_rest read_term) (omega arith) (omega arith) (λ s n. refl) (λ s. atom_rest_lem L read_term term (term_scan L) (moved [] s 5))
    (λ s. refl) (λ s. refl) (λ s. refl)

-- the stage after that many parts of kind k
abbrev puts : ℕ → ℕ → Stage → Stage
puts k zero s = s
puts k (suc n) s = puts k n (moved [] s k)

puts_same : (k : ℕ) (f : Stage → ℕ) → ((s : Stage) → f (moved [] s k) ≡ f s) → (n : ℕ) (s : Stage) → f (puts k n s) ≡ f s
puts_same k f h zero s = refl
puts_same k f h (suc n) s = puts_same k f h n (moved [] s k) ∙ h s

-- the phase after n parts of kind k
abbrev Phased : ℕ → Stage → ℕ → Stage → Type 0
Phased k s n t = ((n ≡ 0) × (t.phase ≡ s.phase)) ⊎ ((0 < n) × (t.phase ≡ k))

-- the word that stands next is of no kind up to k that has its turn
abbrev Past : ℕ → Stage → List ℕ → Type 0
Past k s [] = Unit
Past k s (w ∷ ws) = 1 < kind_of w → kind_of w ≤ k → turn [] s (kind_of w) ≡ false

-- so of no kind at all, if the later kinds have not their turn either
past_all : (k : ℕ) (s : Stage) (w : ℕ) (ws : List ℕ) → Past k s (w ∷ ws) → (kind_of w ≤ 1 → turn [] s (kind_of w) ≡ false) →
    (k < kind_of w → turn [] s (kind_of w) ≡ false) → turn [] s (kind_of w) ≡ false
past_all k s w ws b f g =
    tested (ltb 1 (kind_of w))
    (λ h. tested (leb (kind_of w) k) (λ i. b (ltb-true _ _ h) (leb-true _ _ i)) (λ i. g (leb-false _ _ i)))
    (λ h. f (ltb-false _ _ h))

none_past : (s : Stage) (ws : List ℕ) → Past 1 s ws
none_past s [] = tt
none_past s (w ∷ ws) = λ h i. absurd (omega arith)

start_past : (ws : List ℕ) → Past 5 start ws
start_past [] = tt
start_past (w ∷ ws) = λ h i. grind (arith, nat_tests)

late : (s : Stage) (j : ℕ) → 1 < j → j ≤ 5 → j < s.phase → turn [] s j ≡ false
late s j h m l = grind (arith, nat_tests)

-- parts in a row, and whatever comes after them
module _ {A : Type 0} {L : Limits} {p : ℕ → List ℕ → Parsed A} {k : ℕ} {left : Stage → ℕ} (Q : Part L p k left) where
  past_moved : (s : Stage) (ws : List ℕ) → Past (k - 1) (moved [] s k) ws
  past_moved s [] = tt
  past_moved s (w ∷ ws) = λ h i. late (moved [] s k) (kind_of w) h (omega (arith, Q.high)) (omega (arith, Q.phase s, Q.low))

  -- a word of kind k that is clean is read by q
  parts_at : (s : Stage) (w : ℕ) (ws : List ℕ) (q : Parsed (List A)) (g : List A → List ℕ → Seen) → turn [] s k ≡ true → Past (k - 1) s (w ∷ ws) →
      (kind_of w ≡ k → clean w ≡ true → scan L [] s (w ∷ ws) ≡ onward q g) →
      (Past k s (w ∷ ws) → scan L [] s (w ∷ ws) ≡ g [] (w ∷ ws)) →
      scan L [] s (w ∷ ws) ≡ onward (cond (eqb (kind_of w) k) (cond (clean w) q (no StrayBit (suc (length ws)))) (ok [] (w ∷ ws))) g
  parts_at s w ws q g t b f h =
      tested (eqb (kind_of w) k)
      (λ e. let i = eqb-true (kind_of w) k e in
      tested (clean w) (λ c. f i c ∙ rw (e, c)) (λ c. scan_stray L [] s w ws k i t c ∙ rw (e, c)))
      (λ e. rw e (h (λ i j. b i (grind (arith, nat_tests)))))

  parts_scan : (n : ℕ) (s : Stage) (ws : List ℕ) (g : List A → List ℕ → Seen) → left s ≡ n → turn [] s k ≡ true → Past (k - 1) s ws →
      ((xs : List A) (us : List ℕ) → Past k (puts k (length xs) s) us → scan L [] (puts k (length xs) s) us ≡ g xs us) →
      scan L [] s ws ≡ onward (read_parts p k n ws) g
  parts_scan zero s [] g h t b f = f [] [] tt
  parts_scan (suc n) s [] g h t b f = f [] [] tt
  parts_scan zero s (w ∷ ws) g h t b f =
      parts_at s w ws (no OutOfRange (suc (length ws))) g t b (λ i c. scan_range L [] s w ws k i t c (Q.full s (payload_of w) h)) (f [] (w ∷ ws))
  parts_scan (suc n) s (w ∷ ws) g h t b f =
      parts_at s w ws (then (p (payload_of w) ws) (λ x us. then (read_parts p k n us) (λ xs vs. ok (x ∷ xs) vs))) g t b
      (λ i c. Q.opens s w ws i t c (omega arith)
      ∙ seq (p (payload_of w) ws) _ _ _ (λ a us j.
      parts_scan n (moved [] s k) us (λ xs vs. g (a ∷ xs) vs) (Q.less s ∙ omega arith) (Q.again s) (past_moved s us) (λ xs vs. f (a ∷ xs) vs)
      ∙ after (read_parts p k n us) (λ xs vs. ok (a ∷ xs) vs) g))
      (f [] (w ∷ ws))

  puts_phase : (n : ℕ) (s : Stage) → Phased k s n (puts k n s)
  puts_phase zero s = inl (refl, refl)
  puts_phase (suc n) s =
      ⊎_elim
      (λ (h : (n ≡ 0) × ((puts k n (moved [] s k)).phase ≡ (moved [] s k).phase)). inr (omega arith, h.1 ∙ Q.phase s))
      (λ (h : (0 < n) × ((puts k n (moved [] s k)).phase ≡ k)). inr (omega arith, h.1))
      (puts_phase n (moved [] s k))

  puts_left : (n : ℕ) (s : Stage) → left (puts k n s) ≡ left s - n
  puts_left zero s = omega arith
  puts_left (suc n) s = puts_left n (moved [] s k) ∙ omega (arith, Q.less s)

-- the kept heads of a rule
kepts_scan : (L : Limits) (s : Stage) (ws : List ℕ) (g : List Head → List ℕ → Seen) → s.phase ≡ 1 → s.heads ≡ 0 →
    ((t : Stage) (ks : List Head) (us : List ℕ) → Phased 2 s (length ks) t → L.heads - t.heads ≡ L.heads - length ks →
    t.guards ≡ s.guards → t.body ≡ s.body → t.rules ≡ s.rules → Past 2 t us → scan L [] t us ≡ g ks us) →
    scan L [] s ws ≡ onward (read_parts read_head 2 L.heads ws) g
kepts_scan L s ws g e z f =
    parts_scan (kept_part L) L.heads s ws g (omega arith) (grind (arith, nat_tests)) (none_past s ws) (λ ks us c.
    f (puts 2 (length ks) s) ks us (puts_phase (kept_part L) (length ks) s) (puts_left (kept_part L) (length ks) s ∙ omega arith)
    (puts_same 2 (λ x. x.guards) (λ x. refl) (length ks) s)
    (puts_same 2 (λ x. x.body) (λ x. refl) (length ks) s)
    (puts_same 2 (λ x. x.rules) (λ x. refl) (length ks) s) c)

takens_scan : (L : Limits) (s : Stage) (ws : List ℕ) (n : ℕ) (g : List Head → List ℕ → Seen) →
    0 < s.phase → s.phase ≤ 3 → L.heads - s.heads ≡ n → Past 2 s ws →
    ((t : Stage) (ts : List Head) (us : List ℕ) → Phased 3 s (length ts) t →
    t.guards ≡ s.guards → t.body ≡ s.body → t.rules ≡ s.rules → Past 3 t us → scan L [] t us ≡ g ts us) →
    scan L [] s ws ≡ onward (read_parts read_head 3 n ws) g
takens_scan L s ws n g l m z b f =
    parts_scan (taken_part L) n s ws g z (grind (arith, nat_tests)) b (λ ts us c.
    f (puts 3 (length ts) s) ts us (puts_phase (taken_part L) (length ts) s)
    (puts_same 3 (λ x. x.guards) (λ x. refl) (length ts) s)
    (puts_same 3 (λ x. x.body) (λ x. refl) (length ts) s)
    (puts_same 3 (λ x. x.rules) (λ x. refl) (length ts) s) c)

guards_scan : (L : Limits) (s : Stage) (ws : List ℕ) (g : List Guard → List ℕ → Seen) →
    1 < s.phase → s.phase ≤ 4 → s.guards ≡ 0 → Past 3 s ws →
    ((t : Stage) (gs : List Guard) (us : List ℕ) → 1 < t.phase → t.phase ≤ 4 →
    t.body ≡ s.body → t.rules ≡ s.rules → Past 4 t us → scan L [] t us ≡ g gs us) →
    scan L [] s ws ≡ onward (read_parts read_guard 4 L.guards ws) g
guards_scan L s ws g l m z b f =
    parts_scan (guard_part L) L.guards s ws g (omega arith) (grind (arith, nat_tests)) b (λ gs us c.
    let h = puts_phase (guard_part L) (length gs) s in
    f (puts 4 (length gs) s) gs us (grind arith) (grind arith)
    (puts_same 4 (λ x. x.body) (λ x. refl) (length gs) s)
    (puts_same 4 (λ x. x.rules) (λ x. refl) (length gs) s) c)

-- the body facts of a rule, after which only another rule or END may come
bodies_scan : (L : Limits) (s : Stage) (ws : List ℕ) (g : List BodyFact → List ℕ → Seen) →
    1 < s.phase → s.phase ≤ 5 → s.body ≡ 0 → Past 4 s ws →
    ((t : Stage) (bs : List BodyFact) (us : List ℕ) → 1 < t.phase → t.rules ≡ s.rules → Past 5 t us → scan L [] t us ≡ g bs us) →
    scan L [] s ws ≡ onward (read_parts read_body 5 L.body ws) g
bodies_scan L s ws g l m z b f =
    parts_scan (body_part L) L.body s ws g (omega arith) (grind (arith, nat_tests)) b (λ bs us c.
    let h = puts_phase (body_part L) (length bs) s in
    f (puts 5 (length bs) s) bs us (grind arith) (puts_same 5 (λ x. x.rules) (λ x. refl) (length bs) s) c)

-- a rule without a head stops at the word that should have been one
barren : (L : Limits) (s : Stage) (ws : List ℕ) → s.phase ≡ 1 → Past 3 s ws → scan L [] s ws ≡ stop OutOfTurn (length ws)
barren L s [] e b = refl
barren L s (w ∷ ws) e b =
    scan_turn L [] s w ws (kind_of w) refl (past_all 3 s w ws b (λ h. grind (arith, nat_tests)) (λ h. grind (arith, nat_tests)))

rule_scan : (L : Limits) (s : Stage) (label : ℕ) (ws : List ℕ) (g : Parts → List ℕ → Seen) →
    s.phase ≡ 1 → s.heads ≡ 0 → s.guards ≡ 0 → s.body ≡ 0 →
    ((t : Stage) (r : Parts) (us : List ℕ) → 1 < t.phase → t.rules ≡ s.rules → Past 5 t us → scan L [] t us ≡ g r us) →
    scan L [] s ws ≡ onward (read_rule L label ws) g
rule_scan L s label ws g e h i j f =
    kepts_scan L s ws _ e h (λ t ks us a b c d m n.
    takens_scan L t us (L.heads - length ks) _ (grind arith) (grind arith) b n (λ t' ts vs a' c' d' m' n'.
    tested (eqb (length ks + length ts) 0)
    (λ z. rw z (barren L t' vs (grind (arith, nat_tests)) n'))
    (λ z. rw z
    (guards_scan L t' vs _ (grind (arith, nat_tests)) (grind (arith, nat_tests)) (omega arith) n' (λ t2 gs xs l2 u2 d2 m2 n2.
    bodies_scan L t2 xs _ l2 (omega arith) (omega arith) n2 (λ t3 bs ys l3 m3 n3. f t3 _ ys l3 (omega arith) n3)
    ∙ after (read_parts read_body 5 L.body xs) _ g)
    ∙ after (read_parts read_guard 4 L.guards vs) _ g)))
    ∙ after (read_parts read_head 3 (L.heads - length ks) us) _ g)
    ∙ after (read_parts read_head 2 L.heads ws) _ g

-- between rules only RULE and END have their turn; a RULE word that is clean is read by q
rules_at : (L : Limits) (s : Stage) (w : ℕ) (ws : List ℕ) (q : Parsed (List Parts)) → eqb s.phase 1 ≡ false → Past 5 s (w ∷ ws) →
    (kind_of w ≡ 1 → clean w ≡ true → scan L [] s (w ∷ ws) ≡ onward q (λ rs us. done us)) →
    scan L [] s (w ∷ ws)
    ≡ onward
    (cond (eqb (kind_of w) 15)
    (cond (clean w) (ok [] ws) (no StrayBit (suc (length ws))))
    (cond (eqb (kind_of w) 1) (cond (clean w) q (no StrayBit (suc (length ws)))) (no OutOfTurn (suc (length ws)))))
    (λ rs us. done us)
rules_at L s w ws q p b f =
    tested (eqb (kind_of w) 15)
    (λ e. let i = eqb-true (kind_of w) 15 e in
    tested (clean w)
    (λ c. scan_end L [] s w ws 15 i (rw p) c refl refl ∙ rw (e, c))
    (λ c. scan_stray L [] s w ws 15 i (rw p) c ∙ rw (e, c)))
    (λ e. tested (eqb (kind_of w) 1)
    (λ d. let i = eqb-true (kind_of w) 1 d in
    tested (clean w) (λ c. f i c ∙ rw (e, d, c)) (λ c. scan_stray L [] s w ws 1 i (rw p) c ∙ rw (e, d, c)))
    (λ d. scan_turn L [] s w ws (kind_of w) refl (past_all 5 s w ws b (λ h. grind (arith, nat_tests)) (λ h. grind (arith, nat_tests))) ∙ rw (e, d)))

rules_scan : (L : Limits) (n : ℕ) (s : Stage) (ws : List ℕ) → eqb s.phase 1 ≡ false → L.rules - s.rules ≡ n → Past 5 s ws →
    scan L [] s ws ≡ onward (read_rules L n ws) (λ rs us. done us)
rules_scan L zero s [] p h b = refl
rules_scan L (suc n) s [] p h b = refl
rules_scan L zero s (w ∷ ws) p h b =
    rules_at L s w ws (no OutOfRange (suc (length ws))) p b
    (λ i c. scan_range L [] s w ws 1 i (rw p) c (le-ltb s.rules L.rules (omega arith)))
rules_scan L (suc n) s (w ∷ ws) p h b =
    rules_at L s w ws (then (read_rule L (label_in (payload_of w)) ws) (λ r us. then (read_rules L n us) (λ rs vs. ok (r ∷ rs) vs))) p b
    (λ i c. scan_on L [] s w ws 1 i (rw p) c (lt-ltb s.rules L.rules (omega arith)) refl
    ∙ rule_scan L (opened s) (label_in (payload_of w)) ws _ refl refl refl refl (λ t r us l m o.
    rules_scan L n t us (grind (arith, nat_tests)) (omega arith) o
    ∙ after (read_rules L n us) (λ rs vs. ok (r ∷ rs) vs) (λ rs vs. done vs))
    ∙ after (read_rule L (label_in (payload_of w)) ws) _ (λ rs vs. done vs))

-- reading a table is reading word by word
pub table_scan : (L : Limits) (ws : List ℕ) → scan L [] start ws ≡ onward (read_table L ws) (λ rs us. done us)
table_scan L ws = rules_scan L L.rules start ws refl (omega arith) (start_past ws)
