-- How code shows the step that it made: one lemma for each way in which a call can end.
use Rattle.std.proofs.Common.{◌≡◌, ℕ, ◌+◌, ◌<◌, ◌≤◌, true, false, List, [], ◌∷◌, ◌++◌, length, drop, set, sym, refl, ap, ◌∙◌, subst}
use Rattle.std.proofs.lemmas.Bool.{both_ways}
use Rattle.facts.specs.Lists.{Nth}
use Rattle.facts.specs.Places.{Place, empty, held}
use Rattle.laws.specs.Rules.{Rules}
use Rattle.laws.specs.Candidates.{Candidate, candidates}
use Rattle.laws.specs.Machine.{Search, Lane, idle, searching, found, Machine, Call, feed, take, look, commit, Answer, says, Cell, facts}
use Rattle.laws.specs.Stored.{Stands, Gone, Held, FirstMissing, Apart, cleared}
use Rattle.laws.specs.Steps.{without, refused, fed, took, looked, committed, lost, parted, rewrite, Matches, Intact, LookStep, commit_answer, after_commit, Refuses, with_lane, after, Step}
use Rattle.laws.proofs.Holding.{empty_not, cells_same, held_at, held_cell}

-- a list taken apart around one element
pub nth_middle : {X : Type 0} (xs : List X) (x : X) (ys : List X) → Nth (xs ++ x ∷ ys) (length xs) x
nth_middle [] x ys = refl
nth_middle (z ∷ xs) x ys = nth_middle xs x ys

pub without_middle : {X : Type 0} (xs : List X) (x : X) (ys : List X) → without (length xs) (xs ++ x ∷ ys) ≡ xs ++ ys
without_middle [] x ys = refl
without_middle {X} (z ∷ xs) x ys = ap (λ (zs : List X). z ∷ zs) (without_middle xs x ys)

pub same_machine : {F R : Type 0} (s s' : Machine F R) → s.store ≡ s'.store → s.waiting ≡ s'.waiting → s.lanes ≡ s'.lanes → s.given ≡ s'.given → s.capacity ≡ s'.capacity → s.limit ≡ s'.limit → s ≡ s'
same_machine s s' a b c d e f = λ i. record { store = a i; waiting = b i; lanes = c i; given = d i; capacity = e i; limit = f i }

module _ {F R : Type 0} (T : Rules F R) where
  -- why a candidate does not match
  pub unmatched : (st : List (Place F)) (t : Candidate R) (ds : List (Cell F)) → Held st t.places ds → T.matches t.rule (facts ds) ≡ false → (cs : List (Cell F)) → Matches T st t cs → ⊥
  unmatched st t ds h e cs m =
      both_ways (T.matches t.rule (facts ds)) e (subst (λ (z : List (Cell F)). T.matches t.rule (facts z) ≡ true) (cells_same st t.places cs ds m.holds h) m.matches)

  pub vacant : (st : List (Place F)) (t : Candidate R) (j p : ℕ) → Nth t.places j p → Nth st p empty → (cs : List (Cell F)) → Matches T st t cs → ⊥
  vacant st t j p at none cs m =
      let c = held_cell st t.places cs j p m.holds at in
      empty_not st p c.0.number c.0.fact none (held_at st t.places cs j p c.0 m.holds at c.1)

  pub doubled : (st : List (Place F)) (t : Candidate R) → (Apart t.places → ⊥) → (cs : List (Cell F)) → Matches T st t cs → ⊥
  doubled st t twice cs m = twice m.apart

module _ {F R : Type 0} (T : Rules F R) (s s' : Machine F R) where
  pub refuses : (c : Call F) (k : ℕ) → Refuses T s c k → s ≡ s' → Step T s c (says k 0 0 0) s'
  refuses c k h e = record { event = refused c k; is_call = refl; allowed = h; answers = refl; leaves = e }

  pub feeds : (f : F) → length s.waiting < s.capacity → T.short f ≡ true → after T s (fed f) ≡ s' → Step T s (feed f) (says 0 (length s.waiting + 1) 0 0) s'
  feeds f room short e = record { event = fed f; is_call = refl; allowed = (room, short); answers = refl; leaves = e }

  -- the list was front, f, back, and the place was empty
  pub takes : (l k p : ℕ) (f : F) (front back : List F)
      → Nth s.lanes l (idle k) → s.waiting ≡ front ++ f ∷ back → s.given < s.limit → Nth s.store p empty
      → s'.store ≡ set s.store p (held (s.given + 1) f)
      → s'.waiting ≡ front ++ back
      → s'.lanes ≡ set s.lanes l (searching (record { place = p; number = s.given + 1; looks = 0; left = candidates T (length s.store) p f }))
      → s'.given ≡ s.given + 1 → s'.capacity ≡ s.capacity → s'.limit ≡ s.limit
      → Step T s (take l) (says 0 (s.given + 1) p 0) s'
  takes l k p f front back at apart few vacant-place e-store e-waiting e-lanes e-given e-capacity e-limit =
      record {
        event = took l p (length front) f;
        is_call = refl;
        allowed = (k, at, subst (λ (z : List F). Nth z (length front) f) (sym apart) (nth_middle front f back), few, vacant-place);
        answers = refl;
        leaves =
            same_machine (after T s (took l p (length front) f)) s' (sym e-store)
            (ap (λ (z : List F). without (length front) z) apart ∙ without_middle front f back ∙ sym e-waiting)
            (sym e-lanes) (sym e-given) (sym e-capacity) (sym e-limit);
      }

  -- a look, by what the store and the lane come to
  pub looks_at : (l : ℕ) (x : Search R) (a : Answer) (y : Lane R) → Nth s.lanes l (searching x) → LookStep T s.store x a y → with_lane s l y ≡ s' → Step T s (look l) a s'
  looks_at l x a y at w e =
      record {
        event = looked l x w.0;
        is_call = refl;
        allowed = (at, w.1);
        answers = w.2;
        leaves = ap (λ (z : Lane R). with_lane s l z) w.3 ∙ e;
      }

  -- a commit whose own fact is gone; whose partner is; that rewrites
  pub loses : (l : ℕ) (x : Search R) (t : Candidate R) (ns : List ℕ) → Nth s.lanes l (found x t ns) → Gone s.store x.place x.number → with_lane s l (idle x.looks) ≡ s' → Step T s (commit l) (says 5 x.looks x.number 0) s'
  loses l x t ns at none e = record { event = committed l x t ns lost; is_call = refl; allowed = (at, none); answers = refl; leaves = e }

  pub parts : (l : ℕ) (x : Search R) (t : Candidate R) (ns : List ℕ) (m : ℕ) → Nth s.lanes l (found x t ns) → Stands s.store x.place x.number → FirstMissing s.store t.places ns m → with_lane s l (searching x) ≡ s' → Step T s (commit l) (says 6 m 0 0) s'
  parts l x t ns m at own missing e = record { event = committed l x t ns (parted m); is_call = refl; allowed = (at, (own, missing)); answers = refl; leaves = e }

  pub rewrites : (l : ℕ) (x : Search R) (t : Candidate R) (ns : List ℕ) (cs : List (Cell F))
      → Nth s.lanes l (found x t ns) → Intact s.store x t ns cs → length s.waiting + length (T.body t.rule (facts cs)) ≤ s.capacity
      → s'.store ≡ cleared s.store (drop (T.kept t.rule) t.places)
      → s'.waiting ≡ s.waiting ++ T.body t.rule (facts cs)
      → s'.lanes ≡ set s.lanes l (after_commit T x (rewrite t cs))
      → s'.given ≡ s.given → s'.capacity ≡ s.capacity → s'.limit ≡ s.limit
      → Step T s (commit l) (commit_answer T x (rewrite t cs)) s'
  rewrites l x t ns cs at intact room e-store e-waiting e-lanes e-given e-capacity e-limit =
      record {
        event = committed l x t ns (rewrite t cs);
        is_call = refl;
        allowed = (at, (refl, intact, room));
        answers = refl;
        leaves =
            same_machine (after T s (committed l x t ns (rewrite t cs))) s' (sym e-store) (sym e-waiting) (sym e-lanes) (sym e-given) (sym e-capacity) (sym e-limit);
      }
