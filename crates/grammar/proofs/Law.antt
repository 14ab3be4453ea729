-- A refusal names the first faulty word of a table and why it cannot stand there.
use Rattle.std.proofs.Common.{◌≡◌, ℕ, suc, ◌+◌, ◌-◌, ◌≤◌, true, List, [], ◌∷◌, ◌++◌, length, take, sym, refl, ap, ◌∙◌, inl, inr, append_assoc, append-nil, arith, length-append}
use lib.Seq.{take-length, take-append_seam}
use Rattle.facts.specs.Lists.{Nth}
use Rattle.words.specs.Words.{kind_of, word}
use Rattle.grammar.specs.declared.reason.Reason.{Reason}
use Rattle.grammar.specs.declared.reason.Reason.TheVariants.{OutOfTurn, StrayBit, OutOfRange}
use Rattle.grammar.specs.Parts.{Parts}
use Rattle.grammar.specs.Writing.{Limits, standard, written}
use Rattle.grammar.specs.Reading.{Parsed, ok, no, read_table}
use Rattle.grammar.specs.Faults.{Begins, Holds, InTurn, Why, Faulty}
use Rattle.grammar.proofs.Codec.{table_all, table_only}
use Rattle.grammar.proofs.Scan.{Slot, Stage, start, turn, done, scan, scan_turn}
use Rattle.grammar.proofs.Bridge.{onward, table_scan}
use Rattle.grammar.proofs.Runs.{Fault, fault_scan, Run, Cut, ends, faults, cut, done_stop, run_scan, run_done, run_wider, run_ready, completed, widened, widened_wider, kind_word, turn_completed}

read_done : {C : Type 0} (q : Parsed (List Parts)) (us : List ℕ) → onward q (λ rs vs. done vs) ≡ done us → ((rs : List Parts) → q ≡ ok rs us → C) → C
read_done (ok rs vs) us h f = let e : vs ≡ us = cc in f rs (ap (λ (l : List ℕ). ok rs l) e)
read_done (no r n) us h f = done_stop us r n (sym h)

nth_at : (xs : List ℕ) (w : ℕ) (ys : List ℕ) → Nth (xs ++ w ∷ ys) (length xs) w
nth_at [] w ys = refl
nth_at (x ∷ xs) w ys = nth_at xs w ys

take_with : (xs : List ℕ) (w : ℕ) (ys : List ℕ) → take (suc (length xs)) (xs ++ w ∷ ys) ≡ xs ++ w ∷ []
take_with [] w ys = refl
take_with (x ∷ xs) w ys = ap (λ (l : List ℕ). x ∷ l) (take_with xs w ys)

done_begins : (L : Limits) (xs us : List ℕ) → scan L [] start (xs ++ us) ≡ done [] → Begins L xs
done_begins L xs us h =
    read_done (read_table L (xs ++ us)) [] (sym (table_scan L (xs ++ us)) ∙ h) (λ rs e.
    let t = table_only L (xs ++ us) rs [] e in
    (rs, us, t.0, t.1 ∙ append-nil (written rs)))

begins_done : (L : Limits) (xs : List ℕ) → Begins L xs → (us : List ℕ) × (scan L [] start (xs ++ us) ≡ done [])
begins_done L xs b =
    let e : read_table L (xs ++ b.1) ≡ ok b.0 [] = rw (b.3, ← append-nil (written b.0)) (table_all L b.0 [] b.2) in
    (b.1, table_scan L (xs ++ b.1) ∙ ap (λ (q : Parsed (List Parts)). onward q (λ rs vs. done vs)) e)

run_begins : (Q : List Slot) (t : Stage) (xs : List ℕ) → Run standard [] start xs Q t → Begins standard xs
run_begins Q t xs x =
    let r = completed standard (omega arith) Q t (run_ready x (λ e. refl)) in
    done_begins standard xs r.0 (run_scan x r.0 ∙ r.1)

-- a word that stops the reading begins no table
fault_not : (Q : List Slot) (t : Stage) (xs : List ℕ) (w : ℕ) (r : Reason) → Run standard [] start xs Q t → Fault standard Q t w r →
    Begins standard (xs ++ w ∷ []) → ⊥
fault_not Q t xs w r x f b =
    let d = begins_done standard (xs ++ w ∷ []) b in
    let e = run_done x standard (w ∷ d.0) [] (rw append_assoc at d.1) in
    done_stop [] r (suc (length d.0)) (sym e ∙ fault_scan standard Q t w r d.0 f)

in_turn : (Q : List Slot) (t : Stage) (xs : List ℕ) (k : ℕ) → Run standard [] start xs Q t → turn Q t k ≡ true → InTurn xs k
in_turn Q t xs k x h =
    let M = widened standard t in
    let r = turn_completed standard Q t k (run_ready x (λ e. refl)) h in
    let e : scan M [] start ((xs ++ word k 0 ∷ []) ++ r.0) ≡ done [] =
    rw append_assoc (run_scan (run_wider M (widened_wider standard t) x) (word k 0 ∷ r.0) ∙ r.1) in
    (M, 0, omega arith, done_begins M (xs ++ word k 0 ∷ []) r.0 e)

why : (Q : List Slot) (t : Stage) (xs : List ℕ) (w : ℕ) (r : Reason) → Run standard [] start xs Q t → Fault standard Q t w r → Why xs w r
why Q t xs w OutOfTurn x f = λ i.
    let v = word (kind_of w) i.1 in
    let d = begins_done i.0 (xs ++ v ∷ []) i.3 in
    let e = run_done x i.0 (v ∷ d.0) [] (rw append_assoc at d.1) in
    done_stop [] OutOfTurn (suc (length d.0)) (sym e ∙ scan_turn i.0 Q t v d.0 (kind_of w) (kind_word (kind_of w) i.1 i.2) f)
why Q t xs w StrayBit x f = (in_turn Q t xs (kind_of w) x f.0, f.1)
why Q t xs w OutOfRange x f = (in_turn Q t xs (kind_of w) x f.0, f.1)

none_holds : (ws : List ℕ) (r : Reason) (n : ℕ) → read_table standard ws ≡ no r n → Holds standard ws → ⊥
none_holds ws r n h b =
    let e : read_table standard ws ≡ ok b.0 b.1 = rw b.3 (table_all standard b.0 b.1 b.2) in
    let z : ◌≡◌ {A = ℕ} 0 1 = cc in
    omega arith

cut_faulty : (ws : List ℕ) (r : Reason) (n : ℕ) → read_table standard ws ≡ no r n → Cut standard [] start ws r n →
    (n ≤ length ws) × Faulty ws (length ws - n) r
cut_faulty ws r n h (ends Q t x i j) =
    let p : length ws - n ≡ length ws = omega arith in (
      omega arith,
      rw p
          (record {
            begins = rw (take-length ws) (run_begins Q t ws x);
            stops = inl (refl, i);
            none = none_holds ws r n h;
          }),
    )
cut_faulty ws r n h (faults Q t xs w ys i x f j) =
    let l : length ws ≡ length xs + suc (length ys) = ap length i ∙ length-append xs (w ∷ ys) in
    let p : length ws - n ≡ length xs = omega arith in
    let k : take (length xs) ws ≡ xs = rw i (take-append_seam xs (w ∷ ys)) in
    let m : take (suc (length xs)) ws ≡ xs ++ w ∷ [] = rw i (take_with xs w ys) in
    let o : Nth ws (length xs) w = rw i (nth_at xs w ys) in (
      omega arith,
      rw p
          (record {
            begins = rw k (run_begins Q t xs x);
            stops = inr (w, o, rw m (fault_not Q t xs w r x f), rw k (why Q t xs w r x f));
            none = none_holds ws r n h;
          }),
    )

-- a refusal names the first faulty word, its reason, and how many words are left with it
pub faulty : (ws : List ℕ) (r : Reason) (n : ℕ) → read_table standard ws ≡ no r n → (n ≤ length ws) × Faulty ws (length ws - n) r
faulty ws r n h =
    cut_faulty ws r n h
    (cut standard [] start ws r n (table_scan standard ws ∙ ap (λ (q : Parsed (List Parts)). onward q (λ rs vs. done vs)) h))

-- where no word is left, the words ended before END
pub ended : (ws : List ℕ) (r : Reason) → read_table standard ws ≡ no r 0 → r ≡ OutOfTurn
ended ws r h = go (cut standard [] start ws r 0 (table_scan standard ws ∙ ap (λ (q : Parsed (List Parts)). onward q (λ rs vs. done vs)) h))
  where
    go : Cut standard [] start ws r 0 → r ≡ OutOfTurn
    go (ends Q t x i j) = i
    go (faults Q t xs w ys i x f j) = absurd (omega arith)
