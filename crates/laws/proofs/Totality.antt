-- After any run each call has an outcome.
use Rattle.std.proofs.Common.{◌≡◌, ℕ, zero, suc, ◌+◌, ◌<◌, ◌≤◌, true, false, ◌≢◌, ◌⊎◌, List, [], ◌∷◌, length, refl, ap, subst, inl, inr, ⊎_elim, arith}
use Rattle.std.specs.List.{AllByRecursion}
use Rattle.std.proofs.lemmas.Bool.{cases_lt, cases_eq, cases_Bool, both_ways}
use Rattle.facts.specs.Lists.{Nth}
use Rattle.facts.specs.Places.{Place, empty, held}
use Rattle.laws.specs.Rules.{Rules}
use Rattle.laws.specs.Candidates.{Candidate}
use Rattle.laws.specs.Machine.{Search, Lane, idle, searching, found, Machine, Call, feed, take, look, commit, Cell, numbers, facts}
use Rattle.laws.specs.Steps.{miss, outside, match, exhausted, gone, lost, parted, rewrite, Event, refused, fed, took, looked, committed}
use Rattle.laws.specs.Stored.{Stands, Gone, Held, FirstMissing, Apart}
use Rattle.laws.specs.Steps.{Matches, Next, Allowed, call_of, answer_of, after}
use Rattle.laws.specs.Steps.{list_full, too_long, take_lane, take_searching, take_found, none_waits, no_number, no_place, look_lane, look_idle, look_found, commit_lane, commit_idle, commit_searching, few_free}
use Rattle.laws.specs.Traces.{Trace}
use Rattle.laws.specs.Law.{Total}
use Rattle.laws.proofs.Nths.{nth_at}
use Rattle.laws.proofs.Holding.{Still, cells_same}
use Rattle.laws.proofs.Invariant.{Inv}
use Rattle.laws.proofs.Theory.{inv}

lane_cases : {X : Type 0} (xs : List X) (l : ℕ) → (length xs ≤ l) ⊎ ((x : X) × Nth xs l x)
lane_cases xs l = ⊎_elim (λ (lt : l < length xs). inr (nth_at xs l lt)) (λ (le : length xs ≤ l). inl le) (cases_lt l (length xs))

module _ {F : Type 0} where
  pub stands_cases : (st : List (Place F)) (p n : ℕ) → Stands st p n ⊎ Gone st p n
  stands_cases [] p n = inr (λ f a. a)
  stands_cases (empty ∷ st) zero n = inr (λ f e. let z : ◌≡◌ {A = ℕ} 0 1 = cc in omega arith)
  stands_cases (held m g ∷ st) zero n =
      ⊎_elim (λ (e : m ≡ n). inl (g, ap (λ (z : ℕ). held z g) e)) (λ (ne : m ≡ n → ⊥). inr (λ f e. let e' : m ≡ n = cc in ne e')) (cases_eq m n)
  stands_cases (x ∷ st) (suc p) n = stands_cases st p n

  cell_cases : (st : List (Place F)) (p : ℕ) → ((c : Cell F) × Nth st p (held c.number c.fact)) ⊎ ((n : ℕ) (f : F) → Nth st p (held n f) → ⊥)
  cell_cases [] p = inr (λ n f a. a)
  cell_cases (empty ∷ st) zero = inr (λ n f e. let z : ◌≡◌ {A = ℕ} 0 1 = cc in omega arith)
  cell_cases (held m g ∷ st) zero = inl (record { number = m; fact = g }, refl)
  cell_cases (x ∷ st) (suc p) = cell_cases st p

  pub held_cases : (st : List (Place F)) (ps : List ℕ) → ((cs : List (Cell F)) × Held st ps cs) ⊎ ((cs : List (Cell F)) → Held st ps cs → ⊥)
  held_cases st [] = inl ([], tt)
  held_cases st (p ∷ ps) =
      ⊎_elim
      (λ (a : (c : Cell F) × Nth st p (held c.number c.fact)).
      ⊎_elim (λ (b : (cs : List (Cell F)) × Held st ps cs). inl (a.0 ∷ b.0, (a.1, b.1))) (λ (b : (cs : List (Cell F)) → Held st ps cs → ⊥). inr (no_tail b)) (held_cases st ps))
      (λ (a : (n : ℕ) (f : F) → Nth st p (held n f) → ⊥). inr (no_head a))
      (cell_cases st p)
    where
      no_tail : ((cs : List (Cell F)) → Held st ps cs → ⊥) → (cs : List (Cell F)) → Held st (p ∷ ps) cs → ⊥
      no_tail b [] h = h
      no_tail b (c ∷ cs) h = b cs h.1

      no_head : ((n : ℕ) (f : F) → Nth st p (held n f) → ⊥) → (cs : List (Cell F)) → Held st (p ∷ ps) cs → ⊥
      no_head a [] h = h
      no_head a (c ∷ cs) h = a c.number c.fact h.0

  pub empty_cases : (st : List (Place F)) → ((p : ℕ) × Nth st p empty) ⊎ ((p : ℕ) → Nth st p empty → ⊥)
  empty_cases [] = inr (λ p a. a)
  empty_cases (empty ∷ st) = inl (0, refl)
  empty_cases (held m g ∷ st) =
      ⊎_elim (λ (a : (p : ℕ) × Nth st p empty). inl (suc a.0, a.1)) (λ (a : (p : ℕ) → Nth st p empty → ⊥). inr (none_there a)) (empty_cases st)
    where
      none_there : ((p : ℕ) → Nth st p empty → ⊥) → (p : ℕ) → Nth (held m g ∷ st) p empty → ⊥
      none_there a zero e = let z : ◌≡◌ {A = ℕ} 0 1 = cc in omega arith
      none_there a (suc p) h = a p h

  missing_cases : (n : ℕ) (st : List (Place F)) (ps ns : List ℕ) → Still n st ps ns → ((m : ℕ) × FirstMissing st ps ns m) ⊎ ((cs : List (Cell F)) × Held st ps cs × (numbers cs ≡ ns))
  missing_cases n st [] [] a = inr ([], tt, refl)
  missing_cases n st [] (m ∷ ns) a = absurd a
  missing_cases n st (p ∷ ps) [] a = absurd a
  missing_cases n st (p ∷ ps) (m ∷ ns) a =
      ⊎_elim
      (λ (b : Stands st p m).
      ⊎_elim
      (λ (c : (k : ℕ) × FirstMissing st ps ns k). inl (c.0, inr (b, c.1)))
      (λ (c : (cs : List (Cell F)) × Held st ps cs × (numbers cs ≡ ns)). inr (record { number = m; fact = b.0 } ∷ c.0, (b.1, c.1), ap (λ (z : List ℕ). m ∷ z) c.2))
      (missing_cases n st ps ns a.1))
      (λ (b : Gone st p m). inl (m, inl (b, refl)))
      (stands_cases st p m)

others_cases : (p : ℕ) (ps : List ℕ) → AllByRecursion (λ (q : ℕ). q ≢ p) ps ⊎ (AllByRecursion (λ (q : ℕ). q ≢ p) ps → ⊥)
others_cases p [] = inl tt
others_cases p (q ∷ ps) =
    ⊎_elim
    (λ (e : q ≡ p). inr (λ (a : AllByRecursion (λ (z : ℕ). z ≢ p) (q ∷ ps)). a.0 e))
    (λ (ne : q ≡ p → ⊥).
    ⊎_elim (λ (a : AllByRecursion (λ (z : ℕ). z ≢ p) ps). inl (ne, a)) (λ (a : AllByRecursion (λ (z : ℕ). z ≢ p) ps → ⊥). inr (λ (b : AllByRecursion (λ (z : ℕ). z ≢ p) (q ∷ ps)). a b.1)) (others_cases p ps))
    (cases_eq q p)

pub apart_cases : (ps : List ℕ) → Apart ps ⊎ (Apart ps → ⊥)
apart_cases [] = inl tt
apart_cases (p ∷ ps) =
    ⊎_elim
    (λ (a : AllByRecursion (λ (q : ℕ). q ≢ p) ps).
    ⊎_elim (λ (b : Apart ps). inl (a, b)) (λ (b : Apart ps → ⊥). inr (λ (c : Apart (p ∷ ps)). b c.1)) (apart_cases ps))
    (λ (a : AllByRecursion (λ (q : ℕ). q ≢ p) ps → ⊥). inr (λ (c : Apart (p ∷ ps)). a c.0))
    (others_cases p ps)

module _ {F R : Type 0} (T : Rules F R) (s : Machine F R) where
  abbrev Comes : Call F → Type 0
  Comes c = (e : Event F R) × (call_of e ≡ c) × Allowed T s e

  feed_comes : (f : F) → Comes (feed f)
  feed_comes f =
      ⊎_elim
      (λ (lt : length s.waiting < s.capacity).
      ⊎_elim (λ (e : T.short f ≡ true). (fed f, refl, (lt, e))) (λ (e : T.short f ≡ false). (refused (feed f) 26, refl, too_long f lt e)) (cases_Bool (T.short f)))
      (λ (le : s.capacity ≤ length s.waiting). (refused (feed f) 25, refl, list_full f le))
      (cases_lt (length s.waiting) s.capacity)

  waiting_cases : (fs : List F) → (fs ≡ []) ⊎ ((0 < length fs) × ((f : F) × Nth fs 0 f))
  waiting_cases [] = inl refl
  waiting_cases (f ∷ fs) = inr (omega arith, (f, refl))

  take_comes : (l : ℕ) (x : Lane R) → Nth s.lanes l x → Comes (take l)
  take_comes l (idle k) at =
      ⊎_elim
      (λ (e : s.waiting ≡ []). (refused (take l) 22, refl, none_waits l k at e))
      (λ (w : (0 < length s.waiting) × ((f : F) × Nth s.waiting 0 f)).
      ⊎_elim
      (λ (lt : s.given < s.limit).
      ⊎_elim
      (λ (p : (p : ℕ) × Nth s.store p empty). (took l p.0 0 w.1.0, refl, (k, at, w.1.1, lt, p.1)))
      (λ (p : (p : ℕ) → Nth s.store p empty → ⊥). (refused (take l) 24, refl, no_place l k at w.0 lt p))
      (empty_cases s.store))
      (λ (le : s.limit ≤ s.given). (refused (take l) 23, refl, no_number l k at w.0 le))
      (cases_lt s.given s.limit))
      (waiting_cases s.waiting)
  take_comes l (searching x) at = (refused (take l) 21, refl, take_searching l x at)
  take_comes l (found x t ns) at = (refused (take l) 21, refl, take_found l x t ns at)

  -- a candidate is tried
  try_comes : (l : ℕ) (x : Search R) (t : Candidate R) → Nth s.lanes l (searching x) → Stands s.store x.place x.number → Next x t → Comes (look l)
  try_comes l x t at own w =
      ⊎_elim
      (λ (h : (cs : List (Cell F)) × Held s.store t.places cs).
      ⊎_elim
      (λ (a : Apart t.places).
      ⊎_elim
      (λ (m : T.matches t.rule (facts h.0) ≡ true).
      let tried : Matches T s.store t h.0 = record { holds = h.1; apart = a; matches = m } in
      ⊎_elim
      (λ (e : T.in_ends t.rule (facts h.0) ≡ true). (looked l x (match t h.0), refl, (at, (own, w, tried, e))))
      (λ (e : T.in_ends t.rule (facts h.0) ≡ false). (looked l x (outside t h.0), refl, (at, (own, w, tried, e))))
      (cases_Bool (T.in_ends t.rule (facts h.0))))
      (λ (m : T.matches t.rule (facts h.0) ≡ false). (
        looked l x miss,
        refl,
        (
          at,
          (
            own,
            (
              t,
              w,
              λ cs k.
                  both_ways (T.matches t.rule (facts h.0)) m
                  (subst (λ (z : List (Cell F)). T.matches t.rule (facts z) ≡ true) (cells_same s.store t.places cs h.0 k.holds h.1) k.matches),
            ),
          ),
        ),
      ))
      (cases_Bool (T.matches t.rule (facts h.0))))
      (λ (a : Apart t.places → ⊥). (looked l x miss, refl, (at, (own, (t, w, λ cs k. a k.apart)))))
      (apart_cases t.places))
      (λ (h : (cs : List (Cell F)) → Held s.store t.places cs → ⊥). (looked l x miss, refl, (at, (own, (t, w, λ cs k. h cs k.holds)))))
      (held_cases s.store t.places)

  left_cases : (ts : List (Candidate R)) → (ts ≡ []) ⊎ ((t : Candidate R) × (later : List (Candidate R)) × (ts ≡ t ∷ later))
  left_cases [] = inl refl
  left_cases (t ∷ ts) = inr (t, ts, refl)

  look_comes : (l : ℕ) (x : Lane R) → Nth s.lanes l x → Comes (look l)
  look_comes l (idle k) at = (refused (look l) 21, refl, look_idle l k at)
  look_comes l (searching x) at =
      ⊎_elim
      (λ (own : Stands s.store x.place x.number).
      ⊎_elim
      (λ (e : x.left ≡ []). (looked l x exhausted, refl, (at, (own, e))))
      (λ (t : (t : Candidate R) × (later : List (Candidate R)) × (x.left ≡ t ∷ later)). try_comes l x t.0 at own (t.1, t.2))
      (left_cases x.left))
      (λ (none : Gone s.store x.place x.number). (looked l x gone, refl, (at, none)))
      (stands_cases s.store x.place x.number)
  look_comes l (found x t ns) at = (refused (look l) 21, refl, look_found l x t ns at)

  module _ (P : ℕ) (tr : Trace F) (v : Inv T P tr s) where
    commit_comes : (l : ℕ) (x : Lane R) → Nth s.lanes l x → Comes (commit l)
    commit_comes l (idle k) at = (refused (commit l) 21, refl, commit_idle l k at)
    commit_comes l (searching x) at = (refused (commit l) 21, refl, commit_searching l x at)
    commit_comes l (found x t ns) at =
        let hit = (v.sound l (found x t ns) at).1 in
        ⊎_elim
        (λ (own : Stands s.store x.place x.number).
        ⊎_elim
        (λ (m : (m : ℕ) × FirstMissing s.store t.places ns m). (committed l x t ns (parted m.0), refl, (at, (own, m.1))))
        (λ (c : (cs : List (Cell F)) × Held s.store t.places cs × (numbers cs ≡ ns)).
        ⊎_elim
        (λ (lt : s.capacity < length s.waiting + length (T.body t.rule (facts c.0))).
        (refused (commit l) 25, refl, few_free l x t ns c.0 at (own, c.1, c.2) lt))
        (λ (le : length s.waiting + length (T.body t.rule (facts c.0)) ≤ s.capacity).
        (committed l x t ns (rewrite t c.0), refl, (at, (refl, (own, c.1, c.2), le))))
        (cases_lt s.capacity (length s.waiting + length (T.body t.rule (facts c.0)))))
        (missing_cases x.number s.store t.places ns hit.still))
        (λ (none : Gone s.store x.place x.number). (committed l x t ns lost, refl, (at, none)))
        (stands_cases s.store x.place x.number)

    comes : (c : Call F) → Comes c
    comes (feed f) = feed_comes f
    comes (take l) = ⊎_elim (λ (le : length s.lanes ≤ l). (refused (take l) 20, refl, take_lane l le)) (λ (x : (x : Lane R) × Nth s.lanes l x). take_comes l x.0 x.1) (lane_cases s.lanes l)
    comes (look l) = ⊎_elim (λ (le : length s.lanes ≤ l). (refused (look l) 20, refl, look_lane l le)) (λ (x : (x : Lane R) × Nth s.lanes l x). look_comes l x.0 x.1) (lane_cases s.lanes l)
    comes (commit l) = ⊎_elim (λ (le : length s.lanes ≤ l). (refused (commit l) 20, refl, commit_lane l le)) (λ (x : (x : Lane R) × Nth s.lanes l x). commit_comes l x.0 x.1) (lane_cases s.lanes l)

pub total : (F R : Type 0) → Total F R
total F R T ok S tr s h c =
    let w = comes T s S.places tr (inv T ok S tr s h) c in (
      answer_of T s w.0,
      after T s w.0,
      record { event = w.0; is_call = w.1; allowed = w.2; answers = refl; leaves = refl },
    )
