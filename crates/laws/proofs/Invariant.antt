-- What holds of a machine after each run: lanes keep count, found matches are what their looks named, and each choice
-- to which a rule applies is guarded.
use Rattle.std.proofs.Common.{◌≡◌, ℕ, ◌+◌, ◌≤◌, ◌≢◌, List, length, drop, set, sym, ◌∙◌, subst, ⊎_elim, arith}
use Rattle.facts.specs.Lists.{Nth}
use Rattle.facts.specs.Places.{Place, held}
use Rattle.laws.specs.Rules.{Rules, Applies}
use Rattle.laws.specs.Candidates.{Candidate, candidates, W}
use Rattle.laws.specs.Machine.{Search, Lane, idle, searching, found, Machine, Answer}
use Rattle.laws.specs.Stored.{Apart}
use Rattle.laws.specs.Steps.{partners}
use Rattle.laws.specs.Traces.{Trace, Took, TookAll, Own, since, LastMatch, named}
use Rattle.laws.proofs.Nths.{nth_set}
use Rattle.laws.proofs.Holding.{Later, Still, still_later}
use Rattle.laws.proofs.Readings.{own_same, SameOf, took_all_more}
use Rattle.laws.proofs.Guards.{Ahead}

-- a busy lane is at a number
abbrev pub At : {R : Type 0} → Lane R → ℕ → Type 0
At (idle k) n = ⊥
At (searching x) n = x.number ≡ n
At (found x t ns) n = x.number ≡ n

module _ {F R : Type 0} (T : Rules F R) (P : ℕ) where
  -- lane l keeps count of its search
  pub record Keeps (tr : Trace F) (top l : ℕ) (x : Search R) : Type 0 where
    pub fact : F
    pub own : Own tr l x.number x.place fact
    pub took_it : Took tr x.number fact
    pub below : x.number ≤ top
    pub count : x.looks ≡ since tr l
    pub few : x.looks ≤ W T P fact
    pub rest : x.left ≡ drop x.looks (candidates T P x.place fact)

  -- lane l has found t, and ns are the numbers that its look named
  pub record Hit (tr : Trace F) (st : List (Place F)) (l : ℕ) (x : Search R) (t : Candidate R) (ns : List ℕ) (f : F) : Type 0 where
    pub index : ℕ
    pub one_more : x.looks ≡ index + 1
    pub tried : Nth (candidates T P x.place f) index t
    pub answer : Answer
    pub match : LastMatch tr l index answer
    pub labelled : T.label t.rule ≡ answer.p
    pub names : named T t.rule answer ≡ partners t ns
    pub fs : List F
    pub all : TookAll tr ns fs
    pub applies : Applies T t.rule fs
    pub apart : Apart t.places
    pub still : Still x.number st t.places ns

  abbrev pub Sound : Trace F → List (Place F) → ℕ → ℕ → Lane R → Type 0
  Sound tr st top l (idle k) = (n p : ℕ) (f : F) → Own tr l n p f → (k ≡ since tr l) × (k ≤ W T P f + 1)
  Sound tr st top l (searching x) = Keeps tr top l x
  Sound tr st top l (found x t ns) = (w : Keeps tr top l x) × Hit tr st l x t ns w.fact

  -- all that holds of the machine s after the trace tr
  pub record Inv (tr : Trace F) (s : Machine F R) : Type 0 where
    pub size : length s.store ≡ P
    pub cells : (p n : ℕ) (f : F) → Nth s.store p (held n f) → Took tr n f
    pub tops : (n : ℕ) (f : F) → Took tr n f → n ≤ s.given
    pub once : (n : ℕ) (f g : F) → Took tr n f → Took tr n g → f ≡ g
    pub one_place : (p q n : ℕ) (f g : F) → Nth s.store p (held n f) → Nth s.store q (held n g) → p ≡ q
    pub one_lane : (l m n : ℕ) (x y : Lane R) → Nth s.lanes l x → Nth s.lanes m y → At x n → At y n → l ≡ m
    pub sound : (l : ℕ) (x : Lane R) → Nth s.lanes l x → Sound tr s.store s.given l x
    pub ahead : Ahead T P s.store s.lanes

  keeps_kept : (tr tr' : Trace F) (top top' l : ℕ) → SameOf tr tr' l → top ≤ top' → (x : Search R) → Keeps tr top l x → Keeps tr' top' l x
  keeps_kept tr tr' top top' l a le x w =
      record {
        fact = w.fact;
        own = a.own x.number x.place w.fact w.own;
        took_it = a.still_took x.number w.fact w.took_it;
        below = let b = w.below in omega arith;
        count = w.count ∙ sym a.count;
        few = w.few;
        rest = w.rest;
      }

  -- a lane that the call does not touch stays sound
  pub sound_kept : (tr tr' : Trace F) (st st' : List (Place F)) (top top' l : ℕ) → SameOf tr tr' l → top ≤ top' → Later top st st' → (x : Lane R) → Sound tr st top l x → Sound tr' st' top' l x
  unfolding keeps_kept
  sound_kept tr tr' st st' top top' l a le later (idle k) w =
      λ n p f o. let b = w n p f (a.own_back n p f o) in (b.0 ∙ sym a.count, b.1)
  sound_kept tr tr' st st' top top' l a le later (searching x) w = keeps_kept tr tr' top top' l a le x w
  sound_kept tr tr' st st' top top' l a le later (found x t ns) w =
      let b = w.1 in (
        keeps_kept tr tr' top top' l a le x w.0,
        record {
          index = b.index;
          one_more = b.one_more;
          tried = b.tried;
          answer = b.answer;
          match = a.match b.index b.answer b.match;
          labelled = b.labelled;
          names = b.names;
          fs = b.fs;
          all = took_all_more tr tr' a.still_took ns b.fs b.all;
          applies = b.applies;
          apart = b.apart;
          still = still_later x.number top st st' w.0.below later t.places ns b.still;
        },
      )

  -- a search that stops leaves its count
  pub keeps_idle : (tr : Trace F) (top l : ℕ) (x : Search R) → Keeps tr top l x → (n p : ℕ) (f : F) → Own tr l n p f → (x.looks ≡ since tr l) × (x.looks ≤ W T P f + 1)
  keeps_idle tr top l x w n p f o =
      let e : w.fact ≡ f = (own_same tr l x.number x.place w.fact n p f w.own o).2 in
      let d : x.looks ≤ W T P f = subst (λ (g : F). x.looks ≤ W T P g) e w.few in
      (w.count, omega arith)

  pub sound_number : (tr : Trace F) (st : List (Place F)) (top l n : ℕ) (x : Lane R) → Sound tr st top l x → At x n → n ≤ top
  sound_number tr st top l n (idle k) w a = absurd a
  sound_number tr st top l n (searching x) w a = let b = w.below in omega arith
  sound_number tr st top l n (found x t ns) w a = let b = w.0.below in omega arith

-- one lane set to a state that is at no other number
pub one_lane_kept : {R : Type 0} (ls : List (Lane R)) (l : ℕ) (y₀ y : Lane R) → Nth ls l y₀ → ((n : ℕ) → At y n → At y₀ n)
    → ((i m n : ℕ) (x z : Lane R) → Nth ls i x → Nth ls m z → At x n → At z n → i ≡ m)
    → (i m n : ℕ) (x z : Lane R) → Nth (set ls l y) i x → Nth (set ls l y) m z → At x n → At z n → i ≡ m
one_lane_kept {R} ls l y₀ y at back old i m n x z hx hz ax az =
    let u = before i x hx ax in
    let v = before m z hz az in
    old i m n u.0 v.0 u.1 v.1 u.2 v.2
  where
    before : (j : ℕ) (w : Lane R) → Nth (set ls l y) j w → At w n → (w₀ : Lane R) × Nth ls j w₀ × At w₀ n
    before j w h a =
        ⊎_elim
        (λ (b : (j ≢ l) × Nth ls j w). (w, b.1, a))
        (λ (b : (j ≡ l) × (y ≡ w)).
        (y₀, subst (λ (k : ℕ). Nth ls k y₀) (sym b.0) at, back n (subst (λ (k : Lane R). At k n) (sym b.1) a)))
        (nth_set ls l y j w h)
