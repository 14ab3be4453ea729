-- The worked runs, by computation.
use Rattle.std.proofs.Common.{◌≡◌, ℕ, zero, suc, ◌<◌, true, false, ◌≢◌, List, [], ◌∷◌, length, drop, replicate, pos, sym, refl, subst, inl, inr, arith, lit<, lit≤}
use Rattle.std.proofs.lemmas.Bool.{both_ways, and_parts}
use Rattle.facts.specs.Lists.{Nth}
use Rattle.facts.specs.Places.{Place, empty, held}
use Rattle.facts.specs.Meanings.{Meaning}
use Rattle.laws.specs.Rules.{Rules, WellFormed}
use Rattle.laws.specs.Candidates.{Candidate, candidates}
use Rattle.laws.specs.Machine.{Search, Lane, idle, Machine, new, feed, take, look, commit, Cell}
use Rattle.laws.specs.Stored.{Apart}
use Rattle.laws.specs.Steps.{Event, refused, fed, took, looked, committed, miss, outside, match, exhausted, gone, lost, parted, rewrite, Matches, Allowed, after}
use Rattle.laws.specs.Steps.{list_full, too_long, take_lane, take_searching, take_found, none_waits, no_number, no_place, look_lane, look_idle, look_found, commit_lane, commit_idle, commit_searching, few_free}
use Rattle.laws.specs.Traces.{Trace, Leads}
use Rattle.laws.specs.Worked.{fill, is_fill, quicker, keeping, one_fill, raising, reporting, shape, f80, f84, f90, long, Removal, PartnerGone, OwnGone, Rest, Refusals, NoNumber, Raise, GoneFirst, Widths}
use Rattle.laws.proofs.Nths.{nth_replicate}
use Rattle.laws.proofs.Building.{unmatched, vacant, doubled}
use Rattle.laws.proofs.Keeping.{entry_of}

infixr 20 ◌▹◌
-- first this, then that
◌▹◌ : {A B : Type 0} → A → B → A × B
a ▹ b = (a, b)

-- events in order: the machine they lead to, what they show, and when they can be
module _ {F R : Type 0} (T : Rules F R) where
  abbrev pub final : Machine F R → List (Event F R) → Machine F R
  final s [] = s
  final s (e ∷ es) = final (after T s e) es

  abbrev pub shown : Machine F R → List (Event F R) → Trace F → Trace F
  shown s [] tr = tr
  shown s (e ∷ es) tr = shown (after T s e) es (entry_of T s e ∷ tr)

  abbrev pub Valid : Machine F R → List (Event F R) → Type 0
  Valid s [] = Unit {0}
  Valid s (e ∷ es) = Allowed T s e × Valid (after T s e) es

  onto : (s₀ s : Machine F R) (tr : Trace F) (es : List (Event F R)) → Leads T s₀ tr s → Valid s es → Leads T s₀ (shown s es tr) (final s es)
  onto s₀ s tr [] h v = h
  onto s₀ s tr (e ∷ es) h v =
      onto s₀ (after T s e) (entry_of T s e ∷ tr) es
      (s, h, (record { event = e; is_call = refl; allowed = v.0; answers = refl; leaves = refl }, refl))
      v.1

  pub leads : (s : Machine F R) (es : List (Event F R)) → Valid s es → Leads T s (shown s es []) (final s es)
  leads s es v = onto s s [] es refl v

-- the tables are well formed
only : (k : ℕ) (Q : ℕ → Type 0) → Q k → (i r : ℕ) → Nth (k ∷ []) i r → Q r
only k Q q zero r e = subst Q e q
only k Q q (suc i) r e = absurd e

apart : (k i j r s : ℕ) → Nth (k ∷ []) i r → Nth (k ∷ []) j s → i ≡ j
apart k zero zero r s a b = refl
apart k zero (suc j) r s a b = absurd b
apart k (suc i) j r s a b = absurd a

quicker_two : (fs : List Meaning) → quicker fs ≡ true → length fs ≡ 2
quicker_two [] h = absurd (both_ways false refl h)
quicker_two (f ∷ []) h = absurd (both_ways false refl h)
quicker_two (f ∷ g ∷ []) h = refl
quicker_two (f ∷ g ∷ k ∷ fs) h = absurd (both_ways false refl h)

quicker_fits : (fs : List Meaning) → quicker fs ≡ true → (j : ℕ) (f : Meaning) → Nth fs j f → is_fill f ≡ true
quicker_fits [] h j f a = absurd a
quicker_fits (g ∷ []) h j f a = absurd (both_ways false refl h)
quicker_fits (g ∷ k ∷ []) h zero f a = subst (λ (z : Meaning). is_fill z ≡ true) a (and_parts (is_fill g) _ h).0
quicker_fits (g ∷ k ∷ []) h (suc zero) f a =
    subst (λ (z : Meaning). is_fill z ≡ true) a (and_parts (is_fill k) _ (and_parts (is_fill g) _ h).1).0
quicker_fits (g ∷ k ∷ []) h (suc (suc j)) f a = absurd a
quicker_fits (g ∷ k ∷ l ∷ fs) h j f a = absurd (both_ways false refl h)

pub keeping_good : WellFormed keeping
keeping_good =
    record {
      labelled = only 7 (λ (r : ℕ). 0 < r) (lit< tt);
      labels_apart = λ i j r s a b e. apart 7 i j r s a b;
      few_heads = λ i r a. lit≤ tt;
      some_taken = λ i r a. lit< tt;
      one_each = λ r fs h. quicker_two fs h;
      all_fit = λ r fs h. quicker_fits fs h;
    }

pub reporting_good : WellFormed reporting
reporting_good =
    record {
      labelled = keeping_good.labelled;
      labels_apart = keeping_good.labels_apart;
      few_heads = keeping_good.few_heads;
      some_taken = keeping_good.some_taken;
      one_each = keeping_good.one_each;
      all_fit = keeping_good.all_fit;
    }

one_fill_one : (fs : List Meaning) → one_fill fs ≡ true → length fs ≡ 1
one_fill_one [] h = absurd (both_ways false refl h)
one_fill_one (f ∷ []) h = refl
one_fill_one (f ∷ g ∷ fs) h = absurd (both_ways false refl h)

one_fill_fits : (fs : List Meaning) → one_fill fs ≡ true → (j : ℕ) (f : Meaning) → Nth fs j f → is_fill f ≡ true
one_fill_fits [] h j f a = absurd a
one_fill_fits (g ∷ []) h zero f a = subst (λ (z : Meaning). is_fill z ≡ true) a h
one_fill_fits (g ∷ []) h (suc j) f a = absurd a
one_fill_fits (g ∷ k ∷ fs) h j f a = absurd (both_ways false refl h)

pub raising_good : WellFormed raising
raising_good =
    record {
      labelled = only 9 (λ (r : ℕ). 0 < r) (lit< tt);
      labels_apart = λ i j r s a b e. apart 9 i j r s a b;
      few_heads = λ i r a. lit≤ tt;
      some_taken = λ i r a. lit< tt;
      one_each = λ r fs h. one_fill_one fs h;
      all_fit = λ r fs h. one_fill_fits fs h;
    }

pub widths : Widths
widths = (refl, refl, refl)

-- a lane's search at two places, after so many looks
abbrev seek : ℕ → ℕ → ℕ → Meaning → ℕ → Search ℕ
seek P p n f k = record { place = p; number = n; looks = k; left = drop k (candidates keeping P p f) }

abbrev try : ℕ → ℕ → ℕ → Candidate ℕ
try j p q = record { rule = 7; pos = j; places = p ∷ q ∷ [] }

abbrev cell : ℕ → Meaning → Cell Meaning
cell n f = record { number = n; fact = f }

pub two_apart : (p q : ℕ) → q ≢ p → Apart (p ∷ q ∷ [])
two_apart p q ne = ((ne, tt), (tt, tt))

twice : (st : List (Place Meaning)) (j p : ℕ) (cs : List (Cell Meaning)) → Matches keeping st (try j p p) cs → ⊥
twice st j p cs m = m.apart.0.0 refl

abbrev start : ℕ → ℕ → ℕ → Machine Meaning ℕ
start P capacity limit = new (shape P capacity limit)

-- f90 stands at place 0 under 1, and f84 at place 1 under 2
abbrev pair_events : List (Event Meaning ℕ) → List (Event Meaning ℕ)
pair_events es = fed f84 ∷ fed f90 ∷ took 0 0 1 f90 ∷ took 1 1 0 f84 ∷ es

abbrev pair_cells : List (Cell Meaning)
pair_cells = cell 2 f84 ∷ cell 1 f90 ∷ []

pub removal : Removal
removal =
    let es : List (Event Meaning ℕ) =
    pair_events
    (looked 1 (seek 2 1 2 f84 0) (match (try 0 1 0) pair_cells)
    ∷ committed 1 (seek 2 1 2 f84 1) (try 0 1 0) (2 ∷ 1 ∷ []) (rewrite (try 0 1 0) pair_cells)
    ∷ looked 0 (seek 2 0 1 f90 0) gone
    ∷ [])
    in (
      final keeping (start 2 4 1000) es,
      leads keeping (start 2 4 1000) es ((lit< tt, refl)
          ▹ (lit< tt, refl)
          ▹ (0, refl, refl, lit< tt, refl)
          ▹ (0, refl, refl, lit< tt, refl)
          ▹ (refl, ((f84, refl), (_, refl), record { holds = (refl, (refl, tt)); apart = two_apart 1 0 (λ (e : 0 ≡ 1). omega arith); matches = refl }, refl))
          ▹ (refl, (refl, ((f84, refl), (refl, (refl, tt)), refl), lit≤ tt))
          ▹ (refl, (λ (f : Meaning). λ e. let z : ◌≡◌ {A = ℕ} 0 1 = cc in omega arith))
          ▹ tt),
      (refl, refl),
    )

pub own_gone : OwnGone
own_gone =
    let st : List (Place Meaning) = held 1 f90 ∷ held 2 f84 ∷ [] in
    let es : List (Event Meaning ℕ) =
    pair_events
    (looked 0 (seek 2 0 1 f90 0) miss
    ∷ looked 0 (seek 2 0 1 f90 1) miss
    ∷ looked 0 (seek 2 0 1 f90 2) miss
    ∷ looked 0 (seek 2 0 1 f90 3) (match (try 1 1 0) pair_cells)
    ∷ looked 1 (seek 2 1 2 f84 0) (match (try 0 1 0) pair_cells)
    ∷ committed 1 (seek 2 1 2 f84 1) (try 0 1 0) (2 ∷ 1 ∷ []) (rewrite (try 0 1 0) pair_cells)
    ∷ committed 0 (seek 2 0 1 f90 4) (try 1 1 0) (2 ∷ 1 ∷ []) lost
    ∷ refused (take 0) 22
    ∷ looked 1 (seek 2 1 2 f84 1) miss
    ∷ [])
    in (
      final keeping (start 2 4 1000) es,
      leads keeping (start 2 4 1000) es ((lit< tt, refl)
          ▹ (lit< tt, refl)
          ▹ (0, refl, refl, lit< tt, refl)
          ▹ (0, refl, refl, lit< tt, refl)
          ▹ (refl, ((f90, refl), (try 0 0 0, (_, refl), twice st 0 0)))
          ▹ (refl, ((f90, refl), (try 0 0 1, (_, refl), unmatched keeping st (try 0 0 1) (cell 1 f90 ∷ cell 2 f84 ∷ []) (refl, (refl, tt)) refl)))
          ▹ (refl, ((f90, refl), (try 1 0 0, (_, refl), twice st 1 0)))
          ▹ (refl, ((f90, refl), (_, refl), record { holds = (refl, (refl, tt)); apart = two_apart 1 0 (λ (e : 0 ≡ 1). omega arith); matches = refl }, refl))
          ▹ (refl, ((f84, refl), (_, refl), record { holds = (refl, (refl, tt)); apart = two_apart 1 0 (λ (e : 0 ≡ 1). omega arith); matches = refl }, refl))
          ▹ (refl, (refl, ((f84, refl), (refl, (refl, tt)), refl), lit≤ tt))
          ▹ (refl, (λ (f : Meaning). λ e. let z : ◌≡◌ {A = ℕ} 0 1 = cc in omega arith))
          ▹ (none_waits 0 4 refl refl)
          ▹ (refl, ((f84, refl), (try 0 1 1, (_, refl), twice (empty ∷ held 2 f84 ∷ []) 0 1)))
          ▹ tt),
      refl,
    )

pub partner_gone : PartnerGone
partner_gone =
    let after_commit : List (Place Meaning) = empty ∷ held 2 f84 ∷ held 3 f80 ∷ [] in
    let es : List (Event Meaning ℕ) =
    fed f80
    ∷ fed f84
    ∷ fed f90
    ∷ took 0 0 2 f90
    ∷ took 1 1 1 f84
    ∷ took 2 2 0 f80
    ∷ looked 1 (seek 3 1 2 f84 0) (match (try 0 1 0) pair_cells)
    ∷ looked 2 (seek 3 2 3 f80 0) (match (try 0 2 0) (cell 3 f80 ∷ cell 1 f90 ∷ []))
    ∷ committed 2 (seek 3 2 3 f80 1) (try 0 2 0) (3 ∷ 1 ∷ []) (rewrite (try 0 2 0) (cell 3 f80 ∷ cell 1 f90 ∷ []))
    ∷ committed 1 (seek 3 1 2 f84 1) (try 0 1 0) (2 ∷ 1 ∷ []) (parted 1)
    ∷ looked 1 (seek 3 1 2 f84 1) miss
    ∷ []
    in (
      final keeping (start 3 4 1000) es,
      leads keeping (start 3 4 1000) es ((lit< tt, refl)
          ▹ (lit< tt, refl)
          ▹ (lit< tt, refl)
          ▹ (0, refl, refl, lit< tt, refl)
          ▹ (0, refl, refl, lit< tt, refl)
          ▹ (0, refl, refl, lit< tt, refl)
          ▹ (refl, ((f84, refl), (_, refl), record { holds = (refl, (refl, tt)); apart = two_apart 1 0 (λ (e : 0 ≡ 1). omega arith); matches = refl }, refl))
          ▹ (refl, ((f80, refl), (_, refl), record { holds = (refl, (refl, tt)); apart = two_apart 2 0 (λ (e : 0 ≡ 2). omega arith); matches = refl }, refl))
          ▹ (refl, (refl, ((f80, refl), (refl, (refl, tt)), refl), lit≤ tt))
          ▹ (refl, ((f84, refl), inr ((f84, refl), inl ((λ (f : Meaning). λ e. let z : ◌≡◌ {A = ℕ} 0 1 = cc in omega arith), refl))))
          ▹ (refl, ((f84, refl), (try 0 1 1, (_, refl), twice after_commit 0 1)))
          ▹ tt),
      refl,
    )

idle_all : (ls : List (Lane ℕ)) → ls ≡ idle 5 ∷ replicate 7 (idle 0) → (l : ℕ) (x : Lane ℕ) → Nth ls l x → (k : ℕ) × (x ≡ idle k)
idle_all ls e zero x h = (5, sym (subst (λ (z : List (Lane ℕ)). Nth z zero x) e h))
idle_all ls e (suc l) x h = (0, sym (nth_replicate 7 (idle 0) l x (subst (λ (z : List (Lane ℕ)). Nth z (suc l) x) e h)))

pub rest : Rest
rest =
    let st : List (Place Meaning) = held 1 f84 ∷ empty ∷ [] in
    let es : List (Event Meaning ℕ) =
    fed f84
    ∷ took 0 0 0 f84
    ∷ looked 0 (seek 2 0 1 f84 0) miss
    ∷ looked 0 (seek 2 0 1 f84 1) miss
    ∷ looked 0 (seek 2 0 1 f84 2) miss
    ∷ looked 0 (seek 2 0 1 f84 3) miss
    ∷ looked 0 (seek 2 0 1 f84 4) exhausted
    ∷ []
    in (
      final keeping (start 2 4 1000) es,
      leads keeping (start 2 4 1000) es ((lit< tt, refl)
          ▹ (0, refl, refl, lit< tt, refl)
          ▹ (refl, ((f84, refl), (try 0 0 0, (_, refl), twice st 0 0)))
          ▹ (refl, ((f84, refl), (try 0 0 1, (_, refl), vacant keeping st (try 0 0 1) 1 1 refl refl)))
          ▹ (refl, ((f84, refl), (try 1 0 0, (_, refl), twice st 1 0)))
          ▹ (refl, ((f84, refl), (try 1 1 0, (_, refl), vacant keeping st (try 1 1 0) 0 1 refl refl)))
          ▹ (refl, ((f84, refl), refl))
          ▹ tt),
      (refl, idle_all (final keeping (start 2 4 1000) es).lanes refl),
    )

pub gone_first : GoneFirst
gone_first =
    let st : List (Place Meaning) = held 1 f90 ∷ held 2 f84 ∷ held 3 f80 ∷ [] in
    let es : List (Event Meaning ℕ) =
    fed f80
    ∷ fed f84
    ∷ fed f90
    ∷ took 0 0 2 f90
    ∷ took 1 1 1 f84
    ∷ took 2 2 0 f80
    ∷ looked 0 (seek 3 0 1 f90 0) miss
    ∷ looked 0 (seek 3 0 1 f90 1) miss
    ∷ looked 0 (seek 3 0 1 f90 2) miss
    ∷ looked 0 (seek 3 0 1 f90 3) miss
    ∷ looked 0 (seek 3 0 1 f90 4) (match (try 1 1 0) pair_cells)
    ∷ looked 1 (seek 3 1 2 f84 0) (match (try 0 1 0) pair_cells)
    ∷ looked 2 (seek 3 2 3 f80 0) (match (try 0 2 0) (cell 3 f80 ∷ cell 1 f90 ∷ []))
    ∷ fed f84
    ∷ fed f84
    ∷ committed 2 (seek 3 2 3 f80 1) (try 0 2 0) (3 ∷ 1 ∷ []) (rewrite (try 0 2 0) (cell 3 f80 ∷ cell 1 f90 ∷ []))
    ∷ committed 1 (seek 3 1 2 f84 1) (try 0 1 0) (2 ∷ 1 ∷ []) (parted 1)
    ∷ committed 0 (seek 3 0 1 f90 5) (try 1 1 0) (2 ∷ 1 ∷ []) lost
    ∷ []
    in (
      final reporting (start 3 3 1000) es,
      leads reporting (start 3 3 1000) es
          ((lit< tt, refl)
          ▹ (lit< tt, refl)
          ▹ (lit< tt, refl)
          ▹ (0, refl, refl, lit< tt, refl)
          ▹ (0, refl, refl, lit< tt, refl)
          ▹ (0, refl, refl, lit< tt, refl)
          ▹ (refl, ((f90, refl), (try 0 0 0, (_, refl), doubled reporting st (try 0 0 0) (λ a. a.0.0 refl))))
          ▹ (refl, ((f90, refl), (try 0 0 1, (_, refl), unmatched reporting st (try 0 0 1) (cell 1 f90 ∷ cell 2 f84 ∷ []) (refl, (refl, tt)) refl)))
          ▹ (refl, ((f90, refl), (try 0 0 2, (_, refl), unmatched reporting st (try 0 0 2) (cell 1 f90 ∷ cell 3 f80 ∷ []) (refl, (refl, tt)) refl)))
          ▹ (refl, ((f90, refl), (try 1 0 0, (_, refl), doubled reporting st (try 1 0 0) (λ a. a.0.0 refl))))
          ▹ (refl, ((f90, refl), (_, refl), record { holds = (refl, (refl, tt)); apart = two_apart 1 0 (λ (e : 0 ≡ 1). omega arith); matches = refl }, refl))
          ▹ (refl, ((f84, refl), (_, refl), record { holds = (refl, (refl, tt)); apart = two_apart 1 0 (λ (e : 0 ≡ 1). omega arith); matches = refl }, refl))
          ▹ (refl, ((f80, refl), (_, refl), record { holds = (refl, (refl, tt)); apart = two_apart 2 0 (λ (e : 0 ≡ 2). omega arith); matches = refl }, refl))
          ▹ (lit< tt, refl)
          ▹ (lit< tt, refl)
          ▹ (refl, (refl, ((f80, refl), (refl, (refl, tt)), refl), lit≤ tt))
          ▹ (refl, ((f84, refl), inr ((f84, refl), inl ((λ (f : Meaning). λ e. let z : ◌≡◌ {A = ℕ} 0 1 = cc in omega arith), refl))))
          ▹ (refl, (λ (f : Meaning). λ e. let z : ◌≡◌ {A = ℕ} 0 1 = cc in omega arith))
          ▹ tt),
      refl,
    )

none_empty : (p : ℕ) → Nth (held 1 f84 ∷ []) p empty → ⊥
none_empty zero e = let z : ◌≡◌ {A = ℕ} 0 1 = cc in omega arith
none_empty (suc p) e = e

pub refusals : Refusals
refusals =
    let es : List (Event Meaning ℕ) =
    refused (feed long) 26
    ∷ refused (take 8) 20
    ∷ fed f84
    ∷ refused (feed f84) 25
    ∷ refused (feed long) 25
    ∷ refused (look 8) 20
    ∷ refused (commit 8) 20
    ∷ refused (look 7) 21
    ∷ refused (look 0) 21
    ∷ refused (commit 0) 21
    ∷ took 0 0 0 f84
    ∷ refused (take 0) 21
    ∷ refused (commit 0) 21
    ∷ refused (take 1) 22
    ∷ fed f90
    ∷ refused (take 1) 24
    ∷ []
    in (
      final keeping (start 1 1 2) es,
      leads keeping (start 1 1 2) es ((too_long long (lit< tt) refl)
          ▹ (take_lane 8 (lit≤ tt))
          ▹ (lit< tt, refl)
          ▹ (list_full f84 (lit≤ tt))
          ▹ (list_full long (lit≤ tt))
          ▹ (look_lane 8 (lit≤ tt))
          ▹ (commit_lane 8 (lit≤ tt))
          ▹ (look_idle 7 0 refl)
          ▹ (look_idle 0 0 refl)
          ▹ (commit_idle 0 0 refl)
          ▹ (0, refl, refl, lit< tt, refl)
          ▹ (take_searching 0 (seek 1 0 1 f84 0) refl)
          ▹ (commit_searching 0 (seek 1 0 1 f84 0) refl)
          ▹ (none_waits 1 0 refl refl)
          ▹ (lit< tt, refl)
          ▹ (no_place 1 0 refl (lit< tt) (lit< tt) none_empty)
          ▹ tt),
      refl,
    )

pub no_number_left : NoNumber
no_number_left =
    let es : List (Event Meaning ℕ) = refused (take 0) 22 ∷ fed f84 ∷ refused (take 0) 23 ∷ [] in (
      final keeping (start 0 1 0) es,
      leads keeping (start 0 1 0) es ((none_waits 0 0 refl refl)
          ▹ (lit< tt, refl)
          ▹ (no_number 0 0 refl (lit< tt) (lit≤ tt))
          ▹ tt),
      refl,
    )

abbrev full : Meaning
full = fill (pos 3) (pos 65535)

abbrev seek_one : ℕ → ℕ → Meaning → ℕ → Search ℕ
seek_one p n f k = record { place = p; number = n; looks = k; left = drop k (candidates raising 3 p f) }

abbrev only_try : ℕ → Candidate ℕ
only_try p = record { rule = 9; pos = 0; places = p ∷ [] }

pub raise : Raise
raise =
    let es : List (Event Meaning ℕ) =
    fed full
    ∷ took 0 0 0 full
    ∷ looked 0 (seek_one 0 1 full 0) (outside (only_try 0) (cell 1 full ∷ []))
    ∷ looked 0 (seek_one 0 1 full 1) exhausted
    ∷ fed f84
    ∷ took 0 1 0 f84
    ∷ looked 0 (seek_one 1 2 f84 0) (match (only_try 1) (cell 2 f84 ∷ []))
    ∷ refused (take 0) 21
    ∷ refused (look 0) 21
    ∷ fed f90
    ∷ refused (commit 0) 25
    ∷ took 1 2 0 f90
    ∷ committed 0 (seek_one 1 2 f84 1) (only_try 1) (2 ∷ []) (rewrite (only_try 1) (cell 2 f84 ∷ []))
    ∷ refused (look 0) 21
    ∷ []
    in (
      final raising (start 3 1 1000) es,
      leads raising (start 3 1 1000) es ((lit< tt, refl)
          ▹ (0, refl, refl, lit< tt, refl)
          ▹ (refl, ((full, refl), (_, refl), record { holds = (refl, tt); apart = (tt, tt); matches = refl }, refl))
          ▹ (refl, ((full, refl), refl))
          ▹ (lit< tt, refl)
          ▹ (2, refl, refl, lit< tt, refl)
          ▹ (refl, ((f84, refl), (_, refl), record { holds = (refl, tt); apart = (tt, tt); matches = refl }, refl))
          ▹ (take_found 0 (seek_one 1 2 f84 1) (only_try 1) (2 ∷ []) refl)
          ▹ (look_found 0 (seek_one 1 2 f84 1) (only_try 1) (2 ∷ []) refl)
          ▹ (lit< tt, refl)
          ▹ (few_free 0 (seek_one 1 2 f84 1) (only_try 1) (2 ∷ []) (cell 2 f84 ∷ []) refl ((f84, refl), (refl, tt), refl) (lit< tt))
          ▹ (0, refl, refl, lit< tt, refl)
          ▹ (refl, (refl, ((f84, refl), (refl, tt), refl), lit≤ tt))
          ▹ (look_idle 0 1 refl)
          ▹ tt),
      refl,
    )
