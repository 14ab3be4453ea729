-- How far reading word by word comes, why it stops, and that every table begun can be completed.
use Rattle.std.proofs.Common.{◌≡◌, ℕ, suc, ◌+◌, ◌^◌, ◌<◌, ◌≤◌, Bool, true, false, cond, eqb, ltb, List, [], ◌∷◌, ◌++◌, length, sym, refl, ap, ◌∙◌, subst, arith}
use Rattle.std.proofs.lemmas.Bool.Decides.{nat_tests}
use Rattle.std.proofs.lemmas.Bool.{eqb-true, lt-ltb, cond_both}
use Rattle.words.specs.Words.{kind_of, payload_of, clean, word}
use Rattle.grammar.specs.declared.reason.Reason.{Reason}
use Rattle.grammar.specs.declared.reason.Reason.TheVariants.{OutOfTurn, StrayBit, OutOfRange}
use Rattle.grammar.specs.Writing.{Limits}
use Rattle.grammar.proofs.Scan.{Slot, operand, term, Stage, turn, fits, next, moved, room, done, stop, scan, scan_turn, scan_stray, scan_range, scan_on, scan_end, tested}

-- why a word stops the reading
abbrev pub Fault : Limits → List Slot → Stage → ℕ → Reason → Type 0
Fault L P s w OutOfTurn = turn P s (kind_of w) ≡ false
Fault L P s w StrayBit = (turn P s (kind_of w) ≡ true) × (clean w ≡ false)
Fault L P s w OutOfRange = (turn P s (kind_of w) ≡ true) × (clean w ≡ true) × (fits L s (kind_of w) (payload_of w) ≡ false)

pub fault_scan : (L : Limits) (P : List Slot) (s : Stage) (w : ℕ) (r : Reason) (ws : List ℕ) → Fault L P s w r →
    scan L P s (w ∷ ws) ≡ stop r (suc (length ws))
fault_scan L P s w OutOfTurn ws f = scan_turn L P s w ws (kind_of w) refl f
fault_scan L P s w StrayBit ws f = scan_stray L P s w ws (kind_of w) refl f.0 f.1
fault_scan L P s w OutOfRange ws f = scan_range L P s w ws (kind_of w) refl f.0 f.1 f.2

-- words that lead from one state of the reading to another
pub data Run (L : Limits) : List Slot → Stage → List ℕ → List Slot → Stage → Type 0 where
  still : {P : List Slot} {s : Stage} → Run L P s [] P s
  onto : {P Q : List Slot} {s t : Stage} {w : ℕ} {xs : List ℕ} → turn P s (kind_of w) ≡ true → clean w ≡ true →
      fits L s (kind_of w) (payload_of w) ≡ true → eqb (kind_of w) 15 ≡ false →
      Run L (next P (kind_of w) (payload_of w)) (moved P s (kind_of w)) xs Q t → Run L P s (w ∷ xs) Q t

pub data Cut (L : Limits) (P : List Slot) (s : Stage) (ws : List ℕ) (r : Reason) (n : ℕ) : Type 0 where
  ends : (Q : List Slot) (t : Stage) → Run L P s ws Q t → r ≡ OutOfTurn → n ≡ 0 → Cut L P s ws r n
  faults : (Q : List Slot) (t : Stage) (xs : List ℕ) (w : ℕ) (ys : List ℕ) → ws ≡ xs ++ w ∷ ys → Run L P s xs Q t → Fault L Q t w r →
      n ≡ suc (length ys) → Cut L P s ws r n

stop_is : {C : Type 0} (r q : Reason) (m n : ℕ) → stop q m ≡ stop r n → (q ≡ r → n ≡ m → C) → C
stop_is r q m n h f = f (cc) (cc)

pub done_stop : {C : Type 0} (us : List ℕ) (r : Reason) (n : ℕ) → done us ≡ stop r n → C
done_stop us r n h = absurd (let z : ◌≡◌ {A = ℕ} 0 1 = cc in omega arith)

cut_on : (L : Limits) (P : List Slot) (s : Stage) (w : ℕ) (ws : List ℕ) (r : Reason) (n : ℕ) → turn P s (kind_of w) ≡ true → clean w ≡ true →
    fits L s (kind_of w) (payload_of w) ≡ true → eqb (kind_of w) 15 ≡ false →
    Cut L (next P (kind_of w) (payload_of w)) (moved P s (kind_of w)) ws r n → Cut L P s (w ∷ ws) r n
cut_on L P s w ws r n t c f e (ends Q u x i j) = ends Q u (onto t c f e x) i j
cut_on L P s w ws r n t c f e (faults Q u xs v ys i x g j) = faults Q u (w ∷ xs) v ys (ap (λ (l : List ℕ). w ∷ l) i) (onto t c f e x) g j

-- where the reading stops, and why
pub cut : (L : Limits) (P : List Slot) (s : Stage) (ws : List ℕ) (r : Reason) (n : ℕ) → scan L P s ws ≡ stop r n → Cut L P s ws r n
cut L P s [] r n h = stop_is r OutOfTurn 0 n h (λ e i. ends P s still (sym e) i)
cut L P s (w ∷ ws) r n h =
    tested (turn P s (kind_of w))
    (λ t. tested (clean w)
    (λ c. tested (fits L s (kind_of w) (payload_of w))
    (λ f. tested (eqb (kind_of w) 15)
    (λ e. done_stop ws r n (sym (scan_end L P s w ws (kind_of w) refl t c f e) ∙ h))
    (λ e. cut_on L P s w ws r n t c f e (cut L (next P (kind_of w) (payload_of w)) (moved P s (kind_of w)) ws r n (sym (scan_on L P s w ws (kind_of w) refl t c f e) ∙ h))))
    (λ f. halt OutOfRange (t, c, f)))
    (λ c. halt StrayBit (t, c)))
    (λ t. halt OutOfTurn t)
  where
    halt : (q : Reason) → Fault L P s w q → Cut L P s (w ∷ ws) r n
    halt q f = stop_is r q (suc (length ws)) n (sym (fault_scan L P s w q ws f) ∙ h) (λ e i. faults P s [] w ws refl still (subst (Fault L P s w) e f) i)

-- reading on after a run
pub run_scan : {L : Limits} {P Q : List Slot} {s t : Stage} {xs : List ℕ} → Run L P s xs Q t → (us : List ℕ) →
    scan L P s (xs ++ us) ≡ scan L Q t us
run_scan still us = refl
run_scan {L} {P} {s} (onto {w} {xs} t c f e x) us = scan_on L P s w (xs ++ us) (kind_of w) refl t c f e ∙ run_scan x us

-- a run leads to the same state under other limits, if these do not stop it
pub run_done : {L : Limits} {P Q : List Slot} {s t : Stage} {xs : List ℕ} → Run L P s xs Q t → (M : Limits) (us vs : List ℕ) →
    scan M P s (xs ++ us) ≡ done vs → scan M Q t us ≡ done vs
run_done still M us vs h = h
run_done {P} {s} (onto {w} {xs} t c f e x) M us vs h =
    tested (fits M s (kind_of w) (payload_of w))
    (λ g. run_done x M us vs (sym (scan_on M P s w (xs ++ us) (kind_of w) refl t c g e) ∙ h))
    (λ g. done_stop vs OutOfRange (suc (length (xs ++ us))) (sym h ∙ scan_range M P s w (xs ++ us) (kind_of w) refl t c g))

-- larger limits
pub record Wider (L M : Limits) : Type 0 where
  pub rules : L.rules ≤ M.rules
  pub heads : L.heads ≤ M.heads
  pub guards : L.guards ≤ M.guards
  pub body : L.body ≤ M.body

cond_more : (b x y x' y' : Bool) → (x ≡ true → x' ≡ true) → (y ≡ true → y' ≡ true) → cond b x y ≡ true → cond b x' y' ≡ true
cond_more true x y x' y' f g h = f h
cond_more false x y x' y' f g h = g h

ltb_more : (a b c : ℕ) → b ≤ c → ltb a b ≡ true → ltb a c ≡ true
ltb_more a b c h i = grind (arith, nat_tests)

room_more : (used most wide n : ℕ) → most ≤ wide → room used most n ≡ true → room used wide n ≡ true
room_more used most wide n h i = grind (arith, nat_tests)

fits_wider : (L M : Limits) (s : Stage) (k n : ℕ) → Wider L M → fits L s k n ≡ true → fits M s k n ≡ true
fits_wider L M s k n h =
    cond_more (eqb k 6) _ _ _ _ (λ i. i)
    (cond_more (eqb k 1) _ _ _ _ (ltb_more s.rules L.rules M.rules h.rules)
    (cond_more (eqb k 2) _ _ _ _ (room_more s.heads L.heads M.heads n h.heads)
    (cond_more (eqb k 3) _ _ _ _ (room_more s.heads L.heads M.heads n h.heads)
    (cond_more (eqb k 4) _ _ _ _ (room_more s.guards L.guards M.guards n h.guards)
    (cond_more (eqb k 5) _ _ _ _ (room_more s.body L.body M.body n h.body) (λ i. i))))))

pub run_wider : {L : Limits} {P Q : List Slot} {s t : Stage} {xs : List ℕ} (M : Limits) → Wider L M → Run L P s xs Q t → Run M P s xs Q t
run_wider M h still = still
run_wider {L} {s} M h (onto {w} t c f e x) = onto t c (fits_wider L M s (kind_of w) (payload_of w) h f) e (run_wider M h x)

-- a rule that has just begun has no head yet
abbrev pub Ready : Stage → Type 0
Ready s = s.phase ≡ 1 → s.heads ≡ 0

ready_moved : (P : List Slot) (s : Stage) (k : ℕ) → Ready s → Ready (moved P s k)
ready_moved (x ∷ P) s k h = h
ready_moved [] s k h =
    cond_both (eqb k 1) _ _ Ready (λ e i. refl) (λ t1.
    cond_both (eqb k 2) _ _ Ready (λ e i. absurd (omega arith)) (λ t2.
    cond_both (eqb k 3) _ _ Ready (λ e i. absurd (omega arith)) (λ t3.
    cond_both (eqb k 4) _ _ Ready (λ e i. absurd (omega arith)) (λ t4.
    cond_both (eqb k 5) _ _ Ready (λ e i. absurd (omega arith)) (λ t5. h)))))

pub run_ready : {L : Limits} {P Q : List Slot} {s t : Stage} {xs : List ℕ} → Run L P s xs Q t → Ready s → Ready t
run_ready still h = h
run_ready {P} {s} (onto {w} t c f e x) h = run_ready x (ready_moved P s (kind_of w) h)

-- a variable for each argument that is waited for, a head if there is none, then END
pub completed : (L : Limits) → 0 < L.heads → (P : List Slot) (s : Stage) → Ready s → (us : List ℕ) × (scan L P s us ≡ done [])
completed L l (operand ∷ P) s h = let r = completed L l P s h in (word 6 0 ∷ r.0, r.1)
completed L l (term ∷ P) s h = let r = completed L l P s h in (word 6 0 ∷ r.0, r.1)
completed L l [] s h =
    tested (eqb s.phase 1)
    (λ e. let p = eqb-true s.phase 1 e in
    let u = lt-ltb s.heads L.heads (omega (arith, h p)) in
    (word 3 0 ∷ word 15 0 ∷ [], rw (u, p)))
    (λ e. (word 15 0 ∷ [], rw e))

-- limits under which a stage has room for more
abbrev pub widened : Limits → Stage → Limits
widened L s =
    record {
      rules = L.rules + suc s.rules;
      heads = L.heads + suc s.heads;
      guards = L.guards + suc s.guards;
      body = L.body + suc s.body;
    }

pub widened_wider : (L : Limits) (s : Stage) → Wider L (widened L s)
widened_wider L s = record { rules = omega arith; heads = omega arith; guards = omega arith; body = omega arith }

cond_all : (b x y : Bool) → x ≡ true → y ≡ true → cond b x y ≡ true
cond_all true x y f g = f
cond_all false x y f g = g

ltb_past : (a b : ℕ) → ltb a (b + suc a) ≡ true
ltb_past a b = lt-ltb a (b + suc a) (omega arith)

room_past : (a b : ℕ) → room a (b + suc a) 0 ≡ true
room_past a b = let u = ltb_past a b in rw u

fits_widened : (L : Limits) (s : Stage) (k : ℕ) → fits (widened L s) s k 0 ≡ true
fits_widened L s k =
    cond_all (eqb k 6) _ _ refl
    (cond_all (eqb k 1) _ _ (ltb_past s.rules L.rules)
    (cond_all (eqb k 2) _ _ (room_past s.heads L.heads)
    (cond_all (eqb k 3) _ _ (room_past s.heads L.heads)
    (cond_all (eqb k 4) _ _ (room_past s.guards L.guards)
    (cond_all (eqb k 5) _ _ (room_past s.body L.body) refl)))))

pub kind_word : (k n : ℕ) → n < 2 ^ 28 → kind_of (word k n) ≡ k
kind_word k n h = omega arith

payload_word : (k : ℕ) → payload_of (word k 0) ≡ 0
payload_word k = omega arith

clean_word : (k : ℕ) → clean (word k 0) ≡ true
clean_word k = rw (payload_word k)

-- a word of a kind that has its turn can be completed to a table, if there is room
pub turn_completed : (L : Limits) (P : List Slot) (s : Stage) (k : ℕ) → Ready s → turn P s k ≡ true →
    (us : List ℕ) × (scan (widened L s) P s (word k 0 ∷ us) ≡ done [])
turn_completed L P s k h t =
    let M = widened L s in
    let f : fits M s k (payload_of (word k 0)) ≡ true = rw (payload_word k) (fits_widened L s k) in
    tested (eqb k 15)
    (λ e. ([], scan_end M P s (word k 0) [] k (kind_word k 0 (omega arith)) t (clean_word k) f e))
    (λ e.
    let r = completed M (omega arith) (next P k (payload_of (word k 0))) (moved P s k) (ready_moved P s k h) in
    (r.0, scan_on M P s (word k 0) r.0 k (kind_word k 0 (omega arith)) t (clean_word k) f e ∙ r.1))
