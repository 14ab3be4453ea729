-- Each call keeps the invariant.
use Rattle.std.proofs.Common.{◌≡◌, ℕ, zero, suc, ◌+◌, ◌-◌, ◌<◌, ◌≤◌, Bool, true, false, cond, eqb, ltb, ◌≢◌, ◌⊎◌, List, [], ◌∷◌, length, get_or, take as front, drop, set, replicate, sym, refl, ap, ◌∙◌, subst, inl, inr, ⊎_elim, arith, lit<, lit≤, length-set}
use lib.ListN.{length-replicate}
use Rattle.std.proofs.lemmas.List.{drop-drop}
use Rattle.std.proofs.lemmas.Bool.{ltb-false, both_ways}
use Rattle.facts.specs.Lists.{Nth}
use Rattle.facts.specs.Places.{Place, empty, held}
use Rattle.laws.specs.Rules.{Rules, WellFormed}
use Rattle.laws.specs.Candidates.{Candidate, candidates, W}
use Rattle.laws.specs.Machine.{Search, Lane, idle, searching, found, Machine, Shape, new, Call, feed, take, look, commit, Answer, says, Cell, numbers, facts}
use Rattle.laws.specs.Steps.{Look, miss, outside, match, exhausted, gone, Commit, lost, parted, rewrite, Event, refused, fed, took, looked, committed}
use Rattle.laws.specs.Stored.{Gone, Held, FirstMissing, cleared}
use Rattle.laws.specs.Steps.{Matches, Next, Looks, Commits, Allowed, call_of, partners, names, look_answer, keeps_own, commit_answer, answer_of, onward, after_look, after}
use Rattle.laws.specs.Steps.{Refuses, list_full, too_long, take_lane, take_searching, take_found, none_waits, no_number, no_place, look_lane, look_idle, look_found, commit_lane, commit_idle, commit_searching, few_free}
use Rattle.laws.specs.Traces.{none, one, Entry, Trace, entry, taken, Took, Own, since, LastMatch, named}
use Rattle.laws.specs.Law.{Choice}
use Rattle.laws.proofs.Nths.{nth_same, nth_lt, nth_at, nth_set, nth_set_same, nth_replicate, nth_drop, nth_of_drop, drop_end, length_without}
use Rattle.laws.proofs.Widths.{length_candidates}
use Rattle.laws.proofs.Members.{candidate_in, candid, held_length}
use Rattle.laws.proofs.Readings.{same_feed, same_commit, same_take, same_look, same_refused, took_refused, on_other, own_same, own_here, since_take, since_look, match_here, took_held}
use Rattle.laws.proofs.Holding.{Later, later_same, later_put, Still, still_held, still_same, held_sub, held_at, cells_same, missing_not_held, held_cell, nth_numbers, length_numbers, held_old, length_cleared, cleared_sub, cleared_gone}
use Rattle.laws.proofs.Guards.{changed, Busy, Ahead, busy_idle, busy_searching, busy_found, guard_changed}
use Rattle.laws.proofs.Invariant.{At, Keeps, Hit, Sound, Inv, sound_kept, keeps_idle, sound_number, one_lane_kept}

-- at most two partners: the answer names them all
two_named : (xs : List ℕ) (m : ℕ) → length xs ≡ m → m ≤ 2 → front m (get_or xs 0 0 ∷ get_or xs 1 0 ∷ []) ≡ xs
two_named [] zero e le = refl
two_named [] (suc m) e le = absurd (omega arith)
two_named (a ∷ []) zero e le = absurd (omega arith)
two_named (a ∷ []) (suc zero) e le = refl
two_named (a ∷ []) (suc (suc m)) e le = absurd (omega arith)
two_named (a ∷ b ∷ []) zero e le = absurd (omega arith)
two_named (a ∷ b ∷ []) (suc zero) e le = absurd (omega arith)
two_named (a ∷ b ∷ []) (suc (suc zero)) e le = refl
two_named (a ∷ b ∷ []) (suc (suc (suc m))) e le = absurd (omega arith)
two_named (a ∷ b ∷ c ∷ xs) m e le = absurd (omega arith)

module _ {F R : Type 0} (T : Rules F R) where
  -- what a trace shows of an event at the machine s
  abbrev pub entry_of : Machine F R → Event F R → Entry F
  entry_of s e = entry (call_of e) (answer_of T s e) (taken e)

  -- the codes of refusals
  pub refusal_code : (s : Machine F R) (c : Call F) (k : ℕ) → Refuses T s c k → 20 ≤ k
  refusal_code s c k (list_full f h) = lit≤ tt
  refusal_code s c k (too_long f h e) = lit≤ tt
  refusal_code s c k (take_lane l h) = lit≤ tt
  refusal_code s c k (take_searching l x at) = lit≤ tt
  refusal_code s c k (take_found l x t ns at) = lit≤ tt
  refusal_code s c k (none_waits l j at e) = lit≤ tt
  refusal_code s c k (no_number l j at some h) = lit≤ tt
  refusal_code s c k (no_place l j at some h full) = lit≤ tt
  refusal_code s c k (look_lane l h) = lit≤ tt
  refusal_code s c k (look_idle l j at) = lit≤ tt
  refusal_code s c k (look_found l x t ns at) = lit≤ tt
  refusal_code s c k (commit_lane l h) = lit≤ tt
  refusal_code s c k (commit_idle l j at) = lit≤ tt
  refusal_code s c k (commit_searching l x at) = lit≤ tt
  refusal_code s c k (few_free l x t ns cs at w h) = lit≤ tt

  look_code : (x : Search R) (o : Look F R) → (look_answer T x o).code < 20
  look_code x miss = lit< tt
  look_code x (outside t cs) = lit< tt
  look_code x (match t cs) = lit< tt
  look_code x exhausted = lit< tt
  look_code x gone = lit< tt

module _ {F R : Type 0} (T : Rules F R) (ok : WellFormed T) (P : ℕ) where
  pub inv_new : (S : Shape) → S.places ≡ P → Inv T P [] (new S)
  inv_new S size =
      let none-held : (p n : ℕ) (f : F) → Nth (replicate S.places empty) p (held n f) → ⊥ =
      λ p n f h. let e : empty ≡ held n f = nth_replicate S.places empty p (held n f) h in let z : ◌≡◌ {A = ℕ} 0 1 = cc in omega arith
      in
      record {
        size = length-replicate S.places empty ∙ size;
        cells = λ p n f h. absurd (none-held p n f h);
        tops = λ n f h. absurd h;
        once = λ n f g h k. absurd h;
        one_place = λ p q n f g h k. absurd (none-held p n f h);
        one_lane = λ l m n x y h k a b. absurd (subst (λ (w : Lane R). At w n) (sym (nth_replicate 8 (idle 0) l x h)) a);
        sound = λ l x h. subst (λ (w : Lane R). Sound T P [] (replicate S.places empty) 0 l w) (nth_replicate 8 (idle 0) l x h) (λ n p f o. absurd o);
        ahead = λ i r ps cs j p c in_table m at_p at_c top.
            absurd (none-held p c.number c.fact (held_at (replicate S.places empty) ps cs j p c m.holds at_p at_c));
      }

  module _ (tr : Trace F) (s : Machine F R) (v : Inv T P tr s) where
    inv_refused : (c : Call F) (k : ℕ) → 20 ≤ k → Inv T P (entry c (says k 0 0 0) none ∷ tr) s
    inv_refused c k le =
        let tr' : Trace F = entry c (says k 0 0 0) none ∷ tr in
        record {
          size = v.size;
          cells = λ p n f h. (same_refused tr c k le 0).still_took n f (v.cells p n f h);
          tops = λ n f h. v.tops n f (took_refused tr c k le n f h);
          once = λ n f g h k'. v.once n f g (took_refused tr c k le n f h) (took_refused tr c k le n g k');
          one_place = v.one_place;
          one_lane = v.one_lane;
          sound = λ l x a. sound_kept T P tr tr' s.store s.store s.given s.given l (same_refused tr c k le l) (omega arith) (later_same s.given s.store) x (v.sound l x a);
          ahead = v.ahead;
        }

    inv_fed : (f : F) → Inv T P (entry_of T s (fed f) ∷ tr) (after T s (fed f))
    inv_fed f =
        let a : Answer = says 0 (length s.waiting + 1) 0 0 in
        record {
          size = v.size;
          cells = v.cells;
          tops = v.tops;
          once = v.once;
          one_place = v.one_place;
          one_lane = v.one_lane;
          sound = λ l x h. sound_kept T P tr (entry (feed f) a none ∷ tr) s.store s.store s.given s.given l (same_feed tr f a none l) (omega arith) (later_same s.given s.store) x (v.sound l x h);
          ahead = v.ahead;
        }

    -- a take stores its fact under the highest number, and searches for it
    module _ (l p₀ i : ℕ) (f : F) (al : Allowed T s (took l p₀ i f)) where
      abbrev n₀ : ℕ
      n₀ = s.given + 1

      abbrev st₀ : List (Place F)
      st₀ = set s.store p₀ (held n₀ f)

      abbrev x₀ : Search R
      x₀ = record { place = p₀; number = n₀; looks = 0; left = candidates T (length s.store) p₀ f }

      abbrev tr₀ : Trace F
      tr₀ = entry (take l) (says 0 n₀ p₀ 0) (one f) ∷ tr

      stood : (q m : ℕ) (g : F) → Nth st₀ q (held m g) → ((q ≢ p₀) × Nth s.store q (held m g) × (m ≤ s.given)) ⊎ ((q ≡ p₀) × (n₀ ≡ m) × (f ≡ g))
      stood q m g h =
          ⊎_elim
          (λ (w : (q ≢ p₀) × Nth s.store q (held m g)). inl (w.0, w.1, v.tops m g (v.cells q m g w.1)))
          (λ (w : (q ≡ p₀) × (held n₀ f ≡ held m g)). let d = w.1 in let e₁ : n₀ ≡ m = cc in let e₂ : f ≡ g = cc in inr (w.0, e₁, e₂))
          (nth_set s.store p₀ (held n₀ f) q (held m g) h)

      took_once : (m : ℕ) (g g' : F) → Took tr₀ m g → Took tr₀ m g' → g ≡ g'
      took_once m g g' a b =
          ⊎_elim
          (λ (x : (0 ≡ 0) × (n₀ ≡ m) × (one f ≡ one g)).
          ⊎_elim
          (λ (y : (0 ≡ 0) × (n₀ ≡ m) × (one f ≡ one g')). let d = x.2 in let e = y.2 in cc)
          (λ (y : Took tr m g'). let le = v.tops m g' y in let e = x.1 in absurd (omega arith))
          b)
          (λ (x : Took tr m g).
          ⊎_elim
          (λ (y : (0 ≡ 0) × (n₀ ≡ m) × (one f ≡ one g')). let le = v.tops m g x in let e = y.1 in absurd (omega arith))
          (λ (y : Took tr m g'). v.once m g g' x y)
          b)
          a

      take_one_place : (p q n : ℕ) (g g' : F) → Nth st₀ p (held n g) → Nth st₀ q (held n g') → p ≡ q
      take_one_place p q n g g' a b =
          ⊎_elim
          (λ (x : (p ≢ p₀) × Nth s.store p (held n g) × (n ≤ s.given)).
          ⊎_elim
          (λ (y : (q ≢ p₀) × Nth s.store q (held n g') × (n ≤ s.given)). v.one_place p q n g g' x.1 y.1)
          (λ (y : (q ≡ p₀) × (n₀ ≡ n) × (f ≡ g')). let le = x.2 in let e = y.1 in absurd (omega arith))
          (stood q n g' b))
          (λ (x : (p ≡ p₀) × (n₀ ≡ n) × (f ≡ g)).
          ⊎_elim
          (λ (y : (q ≢ p₀) × Nth s.store q (held n g') × (n ≤ s.given)). let le = y.2 in let e = x.1 in absurd (omega arith))
          (λ (y : (q ≡ p₀) × (n₀ ≡ n) × (f ≡ g')). x.0 ∙ sym y.0)
          (stood q n g' b))
          (stood p n g a)

      take_one_lane : (j m n : ℕ) (x z : Lane R) → Nth (set s.lanes l (searching x₀)) j x → Nth (set s.lanes l (searching x₀)) m z → At x n → At z n → j ≡ m
      take_one_lane j m n x z hx hz ax az =
          ⊎_elim
          (λ (a : (j ≢ l) × Nth s.lanes j x).
          ⊎_elim
          (λ (b : (m ≢ l) × Nth s.lanes m z). v.one_lane j m n x z a.1 b.1 ax az)
          (λ (b : (m ≡ l) × (searching x₀ ≡ z)).
          let e : n₀ ≡ n = subst (λ (w : Lane R). At w n) (sym b.1) az in
          let le = sound_number T P tr s.store s.given j n x (v.sound j x a.1) ax in
          absurd (omega arith))
          (nth_set s.lanes l (searching x₀) m z hz))
          (λ (a : (j ≡ l) × (searching x₀ ≡ x)).
          ⊎_elim
          (λ (b : (m ≢ l) × Nth s.lanes m z).
          let e : n₀ ≡ n = subst (λ (w : Lane R). At w n) (sym a.1) ax in
          let le = sound_number T P tr s.store s.given m n z (v.sound m z b.1) az in
          absurd (omega arith))
          (λ (b : (m ≡ l) × (searching x₀ ≡ z)). a.0 ∙ sym b.0)
          (nth_set s.lanes l (searching x₀) m z hz))
          (nth_set s.lanes l (searching x₀) j x hx)

      take_sound : (j : ℕ) (x : Lane R) → Nth (set s.lanes l (searching x₀)) j x → Sound T P tr₀ st₀ n₀ j x
      take_sound =
          changed s.lanes l (searching x₀) (λ (j : ℕ) (x : Lane R). Sound T P tr₀ st₀ n₀ j x)
          (record {
            fact = f;
            own = own_here tr l n₀ p₀ f;
            took_it = inl (refl, refl, refl);
            below = omega arith;
            count = sym (since_take tr l n₀ p₀ (one f));
            few = omega arith;
            rest = ap (λ (z : ℕ). candidates T z p₀ f) v.size;
          })
          (λ j x ne a. sound_kept T P tr tr₀ s.store st₀ s.given n₀ j (same_take tr l (says 0 n₀ p₀ 0) (one f) j (on_other l j (eqb 0 0) ne)) (omega arith) (later_put s.store s.given p₀ f) x (v.sound j x a))

      take_ahead : Ahead T P st₀ (set s.lanes l (searching x₀))
      take_ahead ti r ps cs j p c in_table m at_p at_c top =
          let own : Nth st₀ p (held c.number c.fact) = held_at st₀ ps cs j p c m.holds at_p at_c in
          let t : Candidate R = record { rule = r; pos = j; places = ps } in
          ⊎_elim
          (λ (w : (p ≢ p₀) × Nth s.store p (held c.number c.fact) × (c.number ≤ s.given)).
          let le = w.2 in
          let old : Held s.store ps cs = held_old s.store p₀ n₀ f c.number (omega arith) ps cs m.holds top in
          guard_changed T P s.lanes l (searching x₀) p c.number c.fact t
          (v.ahead ti r ps cs j p c in_table (record { holds = old; apart = m.apart; applies = m.applies }) at_p at_c top)
          (λ index is b. absurd (busy_idle s.lanes l al.0 p c.number index al.1 b)))
          (λ (w : (p ≡ p₀) × (n₀ ≡ c.number) × (f ≡ c.fact)).
          let a = candidate_in T ok st₀ ti r ps cs j p c in_table m at_p at_c in
          let size : length st₀ ≡ P = length-set s.store p₀ (held n₀ f) ∙ v.size in
          record {
            lane = l;
            index = a.0;
            is = subst (λ (q : ℕ). Nth (candidates T q p c.fact) a.0 t) size a.1;
            busy = inl (x₀, nth_set_same s.lanes l (idle al.0) (searching x₀) al.1, sym w.0, w.1, omega arith);
          })
          (stood p c.number c.fact own)

      inv_took : Inv T P (entry_of T s (took l p₀ i f) ∷ tr) (after T s (took l p₀ i f))
      inv_took =
          record {
            size = length-set s.store p₀ (held n₀ f) ∙ v.size;
            cells = λ q m g a.
                ⊎_elim
                (λ (w : (q ≢ p₀) × Nth s.store q (held m g) × (m ≤ s.given)). inr (v.cells q m g w.1))
                (λ (w : (q ≡ p₀) × (n₀ ≡ m) × (f ≡ g)). inl (refl, w.1, ap one w.2))
                (stood q m g a);
            tops = λ m g a.
                ⊎_elim
                (λ (x : (0 ≡ 0) × (n₀ ≡ m) × (one f ≡ one g)). let d = x.1 in omega arith)
                (λ (x : Took tr m g). let d = v.tops m g x in omega arith)
                a;
            once = took_once;
            one_place = take_one_place;
            one_lane = take_one_lane;
            sound = take_sound;
            ahead = take_ahead;
          }

    -- a lane's fact is the one that stands under its number
    pub lane_fact : (l : ℕ) (x : Search R) (u : Keeps T P tr s.given l x) (p n : ℕ) (f : F) → Nth s.store p (held n f) → x.number ≡ n → u.fact ≡ f
    lane_fact l x u p n f at e =
        v.once x.number u.fact f u.took_it (subst (λ (z : ℕ). Took tr z f) (sym e) (v.cells p n f at))

    -- the candidate at an index is one, wherever it is read off
    same_candidate : (p₀ : ℕ) (f₀ : F) (k₀ : ℕ) (t₀ : Candidate R) (p : ℕ) (f : F) (k : ℕ) (t : Candidate R) → Nth (candidates T P p₀ f₀) k₀ t₀ → Nth (candidates T P p f) k t → p₀ ≡ p → f₀ ≡ f → k₀ ≡ k → t₀ ≡ t
    same_candidate p₀ f₀ k₀ t₀ p f k t is₀ is ep ef ek =
        let is₁ : Nth (candidates T P p f₀) k₀ t₀ = subst (λ (w : ℕ). Nth (candidates T P w f₀) k₀ t₀) ep is₀ in
        let is₂ : Nth (candidates T P p f) k₀ t₀ = subst (λ (w : F). Nth (candidates T P p w) k₀ t₀) ef is₁ in
        let is₃ : Nth (candidates T P p f) k t₀ = subst (λ (w : ℕ). Nth (candidates T P p f) w t₀) ek is₂ in
        nth_same (candidates T P p f) k t₀ t is₃ is

    -- one look on lane l, with the search x
    module _ (l : ℕ) (x : Search R) (at : Nth s.lanes l (searching x)) where
      abbrev u₀ : Keeps T P tr s.given l x
      u₀ = v.sound l (searching x) at

      -- the next candidate stands at its index
      next_at : (t : Candidate R) → Next x t → Nth (candidates T P x.place u₀.fact) x.looks t
      next_at t w = nth_of_drop (candidates T P x.place u₀.fact) x.looks t w.0 (sym u₀.rest ∙ w.1)

      abbrev shown : Look F R → Trace F
      shown o = entry (look l) (look_answer T x o) none ∷ tr

      counted : (o : Look F R) → x.looks + 1 ≡ since (shown o) l
      counted o = ap (λ (k : ℕ). k + 1) u₀.count ∙ sym (since_look tr l (look_answer T x o) none (look_code T x o))

      look_keeps : (o : Look F R) (t : Candidate R) → Next x t → Keeps T P (shown o) s.given l (onward x)
      look_keeps o t w =
          let lt = nth_lt (candidates T P x.place u₀.fact) x.looks t (next_at t w) in
          let long = length_candidates T P x.place u₀.fact in
          let fits : x.looks + 1 ≤ length (candidates T P x.place u₀.fact) = omega arith in
          record {
            fact = u₀.fact;
            own = u₀.own;
            took_it = u₀.took_it;
            below = u₀.below;
            count = counted o;
            few = subst (λ (z : ℕ). x.looks + 1 ≤ z) long fits;
            rest = ap (λ (z : List (Candidate R)). drop 1 z) u₀.rest ∙ drop-drop 1 x.looks (candidates T P x.place u₀.fact);
          }

      look_idles : (o : Look F R) (n p : ℕ) (f : F) → Own (shown o) l n p f → (x.looks + 1 ≡ since (shown o) l) × (x.looks + 1 ≤ W T P f + 1)
      look_idles o n p f own =
          let e : u₀.fact ≡ f = (own_same tr l x.number x.place u₀.fact n p f u₀.own own).2 in
          let few : x.looks ≤ W T P f = subst (λ (g : F). x.looks ≤ W T P g) e u₀.few in
          (counted o, omega arith)

      match_names : (t : Candidate R) (cs : List (Cell F)) → Next x t → Matches T s.store t cs → named T t.rule (names T 2 t (numbers cs)) ≡ partners t (numbers cs)
      match_names t cs w m =
          let d = candid T P x.place u₀.fact x.looks t (next_at t w) in
          let c = held_cell s.store t.places cs t.pos x.place m.holds d.own_at in
          let a = length_without t.pos (numbers cs) c.0.number (nth_numbers cs t.pos c.0 c.1) in
          let b = length_numbers cs in
          let e = ok.one_each t.rule (facts cs) m.matches in
          let few = ok.few_heads d.index t.rule d.in_table in
          two_named (partners t (numbers cs)) (T.heads t.rule - 1) (omega arith) (omega arith)

      look_here : (o : Look F R) → Looks T s.store x o → Sound T P (shown o) s.store s.given l (after_look T x o)
      unfolding look_keeps
      look_here miss al = look_keeps miss al.1.0 al.1.1
      look_here (outside t cs) al = look_keeps (outside t cs) t al.1
      look_here (match t cs) al =
          let o : Look F R = match t cs in
          let m = al.2 in
          let a : Answer = look_answer T x o in (
            look_keeps o t al.1,
            record {
              index = x.looks;
              one_more = refl;
              tried = next_at t al.1;
              answer = a;
              match = subst (λ (k : ℕ). LastMatch (shown o) l k a) (sym u₀.count) (match_here tr l a none refl);
              labelled = refl;
              names = match_names t cs al.1 m;
              fs = facts cs;
              all = took_held tr s.store v.cells t.places cs m.holds;
              applies = (m.matches, al.3);
              apart = m.apart;
              still = still_held x.number s.store t.places cs m.holds;
            },
          )
      look_here exhausted al = look_idles exhausted
      look_here gone al = look_idles gone

      -- the candidate tried gives no choice to which its rule applies
      missed_ahead : (t₀ : Candidate R) → Next x t₀ → ((cs : List (Cell F)) → Choice T s.store t₀.rule t₀.places cs → ⊥) → Ahead T P s.store (set s.lanes l (searching (onward x)))
      missed_ahead t₀ w no_choice ti r ps cs j p c in_table m at_p at_c top =
          let t : Candidate R = record { rule = r; pos = j; places = ps } in
          let own = held_at s.store ps cs j p c m.holds at_p at_c in
          guard_changed T P s.lanes l (searching (onward x)) p c.number c.fact t (v.ahead ti r ps cs j p c in_table m at_p at_c top)
          (λ index is b.
          let q = busy_searching s.lanes l x p c.number index at b in
          let ne : x.looks ≢ index =
          λ (ek : x.looks ≡ index).
          let et : t₀ ≡ t = same_candidate x.place u₀.fact x.looks t₀ p c.fact index t (next_at t₀ w) is q.0 (lane_fact l x u₀ p c.number c.fact own q.1) ek in
          no_choice cs (subst (λ (z : Candidate R). Choice T s.store z.rule z.places cs) (sym et) m)
          in
          let le = q.2 in
          inl (onward x, nth_set_same s.lanes l (searching x) (searching (onward x)) at, q.0, q.1, omega arith))

      look_ahead : (o : Look F R) → Looks T s.store x o → Ahead T P s.store (set s.lanes l (after_look T x o))
      look_ahead miss al ti r ps cs j p c in_table m at_p at_c top =
          missed_ahead al.1.0 al.1.1
          (λ ds d. al.1.2 ds (record { holds = d.holds; apart = d.apart; matches = d.applies.0 }))
          ti r ps cs j p c in_table m at_p at_c top
      look_ahead (outside t₀ cs₀) al ti r ps cs j p c in_table m at_p at_c top =
          missed_ahead t₀ al.1
          (λ ds d.
          let e : ds ≡ cs₀ = cells_same s.store t₀.places ds cs₀ d.holds al.2.holds in
          both_ways (T.in_ends t₀.rule (facts cs₀)) al.3 (subst (λ (z : List (Cell F)). T.in_ends t₀.rule (facts z) ≡ true) e d.applies.1))
          ti r ps cs j p c in_table m at_p at_c top
      look_ahead (match t₀ cs₀) al ti r ps cs j p c in_table m at_p at_c top =
          let y : Lane R = found (onward x) t₀ (numbers cs₀) in
          let t : Candidate R = record { rule = r; pos = j; places = ps } in
          guard_changed T P s.lanes l y p c.number c.fact t (v.ahead ti r ps cs j p c in_table m at_p at_c top)
          (λ index is b.
          let q = busy_searching s.lanes l x p c.number index at b in
          let le = q.2 in
          inr (onward x, t₀, numbers cs₀, nth_set_same s.lanes l (searching x) y at, q.0, q.1, omega arith))
      look_ahead exhausted al ti r ps cs j p c in_table m at_p at_c top =
          let t : Candidate R = record { rule = r; pos = j; places = ps } in
          let own = held_at s.store ps cs j p c m.holds at_p at_c in
          guard_changed T P s.lanes l (idle (x.looks + 1)) p c.number c.fact t (v.ahead ti r ps cs j p c in_table m at_p at_c top)
          (λ index is b.
          let q = busy_searching s.lanes l x p c.number index at b in
          let ef : u₀.fact ≡ c.fact = lane_fact l x u₀ p c.number c.fact own q.1 in
          let few₁ : length (candidates T P x.place u₀.fact) ≤ x.looks = drop_end (candidates T P x.place u₀.fact) x.looks (sym u₀.rest ∙ al.1) in
          let few₂ : length (candidates T P p u₀.fact) ≤ x.looks = subst (λ (z : ℕ). length (candidates T P z u₀.fact) ≤ x.looks) q.0 few₁ in
          let few₃ : length (candidates T P p c.fact) ≤ x.looks = subst (λ (z : F). length (candidates T P p z) ≤ x.looks) ef few₂ in
          let lt = nth_lt (candidates T P p c.fact) index t is in
          let le = q.2 in
          absurd (omega arith))
      look_ahead gone al ti r ps cs j p c in_table m at_p at_c top =
          let t : Candidate R = record { rule = r; pos = j; places = ps } in
          let own = held_at s.store ps cs j p c m.holds at_p at_c in
          guard_changed T P s.lanes l (idle (x.looks + 1)) p c.number c.fact t (v.ahead ti r ps cs j p c in_table m at_p at_c top)
          (λ index is b.
          let q = busy_searching s.lanes l x p c.number index at b in
          let own₁ = subst (λ (z : ℕ). Nth s.store z (held c.number c.fact)) (sym q.0) own in
          absurd (al c.fact (subst (λ (z : ℕ). Nth s.store x.place (held z c.fact)) (sym q.1) own₁)))

      -- the lane stays at its number, or is at none
      look_number : (o : Look F R) (n : ℕ) → At (after_look T x o) n → At (searching x) n
      look_number miss n a = a
      look_number (outside t cs) n a = a
      look_number (match t cs) n a = a
      look_number exhausted n a = absurd a
      look_number gone n a = absurd a

      inv_looked : (o : Look F R) → Looks T s.store x o → Inv T P (entry_of T s (looked l x o) ∷ tr) (after T s (looked l x o))
      inv_looked o al =
          let a : Answer = look_answer T x o in
          record {
            size = v.size;
            cells = v.cells;
            tops = v.tops;
            once = v.once;
            one_place = v.one_place;
            one_lane = one_lane_kept s.lanes l (searching x) (after_look T x o) at (look_number o) v.one_lane;
            sound =
                changed s.lanes l (after_look T x o) (λ (j : ℕ) (y : Lane R). Sound T P (shown o) s.store s.given j y)
                (look_here o al)
                (λ j y ne h. sound_kept T P tr (shown o) s.store s.store s.given s.given j (same_look tr l a none j (on_other l j (ltb a.code 20) ne) (on_other l j (eqb a.code 2) ne)) (omega arith) (later_same s.given s.store) y (v.sound j y h));
            ahead = look_ahead o al;
          }

    -- a commit on lane l, which has found t with the numbers ns
    module _ (l : ℕ) (x : Search R) (t₀ : Candidate R) (ns : List ℕ) (at : Nth s.lanes l (found x t₀ ns)) where
      abbrev k₀ : Keeps T P tr s.given l x
      k₀ = (v.sound l (found x t₀ ns) at).0

      abbrev hit : Hit T P tr s.store l x t₀ ns k₀.fact
      hit = (v.sound l (found x t₀ ns) at).1

      abbrev told : Commit F R → Trace F
      told o = entry (commit l) (commit_answer T x o) none ∷ tr

      -- the state that the lane comes to is sound, where it is idle, or searches on
      commit_sound : (o : Commit F R) (st : List (Place F)) → Later s.given s.store st → (y : Lane R) → (y ≡ searching x) ⊎ (y ≡ idle x.looks) → (j : ℕ) (z : Lane R) → Nth (set s.lanes l y) j z → Sound T P (told o) st s.given j z
      commit_sound o st later y which =
          let kept : (j : ℕ) (z : Lane R) → Nth s.lanes j z → Sound T P (told o) st s.given j z =
          λ j z h. sound_kept T P tr (told o) s.store st s.given s.given j (same_commit tr l (commit_answer T x o) none j) (omega arith) later z (v.sound j z h)
          in
          let keeps : Keeps T P (told o) s.given l x = (kept l (found x t₀ ns) at).0 in
          changed s.lanes l y (λ (j : ℕ) (z : Lane R). Sound T P (told o) st s.given j z)
          (⊎_elim
          (λ (e : y ≡ searching x). subst (λ (z : Lane R). Sound T P (told o) st s.given l z) (sym e) keeps)
          (λ (e : y ≡ idle x.looks). subst (λ (z : Lane R). Sound T P (told o) st s.given l z) (sym e) (keeps_idle T P (told o) s.given l x keeps))
          which)
          (λ j z ne h. kept j z h)

      commit_number : (y : Lane R) → (y ≡ searching x) ⊎ (y ≡ idle x.looks) → (n : ℕ) → At y n → At (found x t₀ ns) n
      commit_number y which n a =
          ⊎_elim
          (λ (e : y ≡ searching x). subst (λ (z : Lane R). At z n) e a)
          (λ (e : y ≡ idle x.looks). absurd (subst (λ (z : Lane R). At z n) e a))
          which

      commit_one_lane : (y : Lane R) → (y ≡ searching x) ⊎ (y ≡ idle x.looks) → (i m n : ℕ) (w z : Lane R) → Nth (set s.lanes l y) i w → Nth (set s.lanes l y) m z → At w n → At z n → i ≡ m
      commit_one_lane y which = one_lane_kept s.lanes l (found x t₀ ns) y at (commit_number y which) v.one_lane

      inv_lost : Gone s.store x.place x.number → Inv T P (entry_of T s (committed l x t₀ ns lost) ∷ tr) (after T s (committed l x t₀ ns lost))
      inv_lost al =
          record {
            size = v.size;
            cells = v.cells;
            tops = v.tops;
            once = v.once;
            one_place = v.one_place;
            one_lane = commit_one_lane (idle x.looks) (inr refl);
            sound = commit_sound lost s.store (later_same s.given s.store) (idle x.looks) (inr refl);
            ahead = λ ti r ps cs j p c in_table m at_p at_c top.
                let t : Candidate R = record { rule = r; pos = j; places = ps } in
                let own = held_at s.store ps cs j p c m.holds at_p at_c in
                guard_changed T P s.lanes l (idle x.looks) p c.number c.fact t (v.ahead ti r ps cs j p c in_table m at_p at_c top)
                (λ index is b.
                let q = busy_found s.lanes l x t₀ ns p c.number index at b in
                let own₁ = subst (λ (z : ℕ). Nth s.store z (held c.number c.fact)) (sym q.0) own in
                absurd (al c.fact (subst (λ (z : ℕ). Nth s.store x.place (held z c.fact)) (sym q.1) own₁)));
          }

      -- the lane goes on with the candidates after the one found, unless the choice is that one
      resumed : (p n : ℕ) (f : F) (index : ℕ) (t : Candidate R) → Nth s.store p (held n f) → Nth (candidates T P p f) index t → (t₀ ≡ t → ⊥) → Busy s.lanes l p n index → Busy (set s.lanes l (searching x)) l p n index
      resumed p n f index t own is other b =
          let q = busy_found s.lanes l x t₀ ns p n index at b in
          let ne : hit.index ≢ index =
          λ (ek : hit.index ≡ index).
          other (same_candidate x.place k₀.fact hit.index t₀ p f index t hit.tried is q.0 (lane_fact l x k₀ p n f own q.1) ek)
          in
          let le = q.2 in
          let more = hit.one_more in
          inl (x, nth_set_same s.lanes l (found x t₀ ns) (searching x) at, q.0, q.1, omega arith)

      inv_parted : (k : ℕ) → FirstMissing s.store t₀.places ns k → Inv T P (entry_of T s (committed l x t₀ ns (parted k)) ∷ tr) (after T s (committed l x t₀ ns (parted k)))
      inv_parted k missing =
          record {
            size = v.size;
            cells = v.cells;
            tops = v.tops;
            once = v.once;
            one_place = v.one_place;
            one_lane = commit_one_lane (searching x) (inl refl);
            sound = commit_sound (parted k) s.store (later_same s.given s.store) (searching x) (inl refl);
            ahead = λ ti r ps cs j p c in_table m at_p at_c top.
                let t : Candidate R = record { rule = r; pos = j; places = ps } in
                let own = held_at s.store ps cs j p c m.holds at_p at_c in
                guard_changed T P s.lanes l (searching x) p c.number c.fact t (v.ahead ti r ps cs j p c in_table m at_p at_c top)
                (λ index is b.
                let q = busy_found s.lanes l x t₀ ns p c.number index at b in
                resumed p c.number c.fact index t own is
                (λ (et : t₀ ≡ t).
                let still₁ : Still x.number s.store ps ns = subst (λ (z : Candidate R). Still x.number s.store z.places ns) et hit.still in
                let still₂ : Still c.number s.store ps ns = subst (λ (z : ℕ). Still z s.store ps ns) q.1 still₁ in
                let same : numbers cs ≡ ns = still_same c.number s.store ps cs ns still₂ m.holds top in
                let there : Held s.store t₀.places cs = subst (λ (z : Candidate R). Held s.store z.places cs) (sym et) m.holds in
                missing_not_held s.store t₀.places cs ns k missing there same)
                b);
          }

      abbrev taken_places : List ℕ
      taken_places = drop (T.kept t₀.rule) t₀.places

      -- where a taken place is cleared, the candidate gives no choice any more
      no_choice_left : T.kept t₀.rule < T.heads t₀.rule → (t : Candidate R) (cs : List (Cell F)) → Choice T (cleared s.store taken_places) t.rule t.places cs → t₀ ≡ t → ⊥
      no_choice_left some t cs m et =
          let st : List (Place F) = cleared s.store taken_places in
          let there : Held st t₀.places cs = subst (λ (z : Candidate R). Held st z.places cs) (sym et) m.holds in
          let long : length t.places ≡ T.heads t.rule = held_length st t.places cs m.holds ∙ ok.one_each t.rule (facts cs) m.applies.0 in
          let long₀ : length t₀.places ≡ T.heads t₀.rule = subst (λ (z : Candidate R). length z.places ≡ T.heads z.rule) (sym et) long in
          let k = T.kept t₀.rule in
          let q = nth_at t₀.places k (omega arith) in
          let c = held_cell st t₀.places cs k q.0 there q.1 in
          let held-there = held_at st t₀.places cs k q.0 c.0 there q.1 c.1 in
          let gap : Nth taken_places (k - k) q.0 = nth_drop k k t₀.places q.0 (omega arith) q.1 in
          cleared_gone taken_places s.store (k - k) q.0 c.0.number c.0.fact gap held-there

      rewrite_ahead : T.kept t₀.rule < T.heads t₀.rule → (b₀ : Bool) → keeps_own T t₀ ≡ b₀ → Ahead T P (cleared s.store taken_places) (set s.lanes l (cond b₀ (searching x) (idle x.looks)))
      rewrite_ahead some b₀ eb ti r ps cs j p c in_table m at_p at_c top =
          let st : List (Place F) = cleared s.store taken_places in
          let t : Candidate R = record { rule = r; pos = j; places = ps } in
          let old : Held s.store ps cs = held_sub s.store st (λ q n g a. cleared_sub taken_places s.store q n g a) ps cs m.holds in
          guard_changed T P s.lanes l (cond b₀ (searching x) (idle x.looks)) p c.number c.fact t
          (v.ahead ti r ps cs j p c in_table (record { holds = old; apart = m.apart; applies = m.applies }) at_p at_c top)
          (λ index is b. by b₀ eb old index is b)
        where
          by : (b : Bool) → keeps_own T t₀ ≡ b → Held s.store ps cs → (index : ℕ) → Nth (candidates T P p c.fact) index (record { rule = r; pos = j; places = ps }) → Busy s.lanes l p c.number index → Busy (set s.lanes l (cond b (searching x) (idle x.looks))) l p c.number index
          by true e old index is b =
              resumed p c.number c.fact index (record { rule = r; pos = j; places = ps }) (held_at s.store ps cs j p c old at_p at_c) is
              (no_choice_left some (record { rule = r; pos = j; places = ps }) cs m) b
          by false e old index is b =
              let st : List (Place F) = cleared s.store taken_places in
              let k = T.kept t₀.rule in
              let q = busy_found s.lanes l x t₀ ns p c.number index at b in
              let own : Nth st p (held c.number c.fact) = held_at st ps cs j p c m.holds at_p at_c in
              let own' : Nth st x.place (held c.number c.fact) = subst (λ (z : ℕ). Nth st z (held c.number c.fact)) (sym q.0) own in
              let here : Nth t₀.places t₀.pos x.place = (candid T P x.place k₀.fact hit.index t₀ hit.tried).own_at in
              let le = ltb-false t₀.pos k e in
              let gap : Nth taken_places (t₀.pos - k) x.place = nth_drop k t₀.pos t₀.places x.place le here in
              absurd (cleared_gone taken_places s.store (t₀.pos - k) x.place c.number c.fact gap own')

      inv_rewrite : (cs : List (Cell F)) → Inv T P (entry_of T s (committed l x t₀ ns (rewrite t₀ cs)) ∷ tr) (after T s (committed l x t₀ ns (rewrite t₀ cs)))
      inv_rewrite cs =
          let sub : (p n : ℕ) (f : F) → Nth (cleared s.store taken_places) p (held n f) → Nth s.store p (held n f) =
          λ p n f a. cleared_sub taken_places s.store p n f a
          in
          let y : Lane R = cond (keeps_own T t₀) (searching x) (idle x.looks) in
          let which : (y ≡ searching x) ⊎ (y ≡ idle x.looks) = one_of (keeps_own T t₀) in
          let d = candid T P x.place k₀.fact hit.index t₀ hit.tried in
          record {
            size = length_cleared taken_places s.store ∙ v.size;
            cells = λ p n f a. v.cells p n f (sub p n f a);
            tops = v.tops;
            once = v.once;
            one_place = λ p q n f g a b. v.one_place p q n f g (sub p n f a) (sub q n g b);
            one_lane = commit_one_lane y which;
            sound = commit_sound (rewrite t₀ cs) (cleared s.store taken_places) (λ q n g a. inl (sub q n g a)) y which;
            ahead = rewrite_ahead (ok.some_taken d.index t₀.rule d.in_table) (keeps_own T t₀) refl;
          }
        where
          one_of : (b : Bool) → (cond b (searching x) (idle x.looks) ≡ searching x) ⊎ (cond b (searching x) (idle x.looks) ≡ idle x.looks)
          one_of true = inl refl
          one_of false = inr refl

      inv_committed : (o : Commit F R) → Commits T s x t₀ ns o → Inv T P (entry_of T s (committed l x t₀ ns o) ∷ tr) (after T s (committed l x t₀ ns o))
      inv_committed lost al = inv_lost al
      inv_committed (parted k) al = inv_parted k al.1
      inv_committed (rewrite u cs) al =
          subst (λ (z : Candidate R). Inv T P (entry_of T s (committed l x t₀ ns (rewrite z cs)) ∷ tr) (after T s (committed l x t₀ ns (rewrite z cs)))) (sym al.0) (inv_rewrite cs)

    pub inv_step : (e : Event F R) → Allowed T s e → Inv T P (entry_of T s e ∷ tr) (after T s e)
    inv_step (refused c k) al = inv_refused c k (refusal_code T s c k al)
    inv_step (fed f) al = inv_fed f
    inv_step (took l p i f) al = inv_took l p i f al
    inv_step (looked l x o) al = inv_looked l x al.0 o al.1
    inv_step (committed l x t ns o) al = inv_committed l x t ns al.0 o al.1
