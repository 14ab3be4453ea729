-- What each call does and answers.
use Rattle.std.specs.Prelude.{◌≡◌, ℕ, zero, suc, ◌+◌, ◌<◌, ◌≤◌, Bool, true, false, cond, List, [], ◌∷◌, ◌++◌, length, drop, nat_lt, slice_index, slice_set}
use Rattle.facts.specs.Lists.{Nth}
use Rattle.facts.specs.Places.{Place, empty, held}
use Rattle.laws.specs.Rules.{Rules}
use Rattle.laws.specs.Candidates.{Candidate, candidates}
use Rattle.laws.specs.Machine.{Search, Lane, idle, searching, found, Machine, Call, feed, take, look, commit, Answer, says, Cell, numbers, facts}
use Rattle.laws.specs.Stored.{Stands, Gone, Held, FirstMissing, Apart, cleared}

-- the list without what stands at an index
abbrev pub without : {X : Type 0} → ℕ → List X → List X
without i [] = []
without zero (x ∷ xs) = xs
without (suc i) (x ∷ xs) = x ∷ without i xs

-- what a look came to that was not refused, with the candidate and what stood at its places
pub data Look (F R : Type 0) : Type 0 where
  -- 1: the candidate does not match
  miss : Look F R
  -- 3: it matches, and a body value is outside the ends
  outside : Candidate R → List (Cell F) → Look F R
  -- 2: its rule applies
  match : Candidate R → List (Cell F) → Look F R
  -- 4: no candidate is left
  exhausted : Look F R
  -- 5: the own fact is gone
  gone : Look F R

-- what a commit came to that was not refused
pub data Commit (F R : Type 0) : Type 0 where
  -- 5: the own fact is gone
  lost : Commit F R
  -- 6: the partner with this number is the first that is missing
  parted : (number : ℕ) → Commit F R
  -- 0: the rewrite is made
  rewrite : Candidate R → List (Cell F) → Commit F R

-- a call with what it came to; the state that the lane was in comes along
pub data Event (F R : Type 0) : Type 0 where
  refused : Call F → (code : ℕ) → Event F R
  fed : F → Event F R
  -- the fact that stands at `which` in the list is stored at `place`: which and where is open
  took : (lane place which : ℕ) → F → Event F R
  looked : (lane : ℕ) → Search R → Look F R → Event F R
  committed : (lane : ℕ) → Search R → Candidate R → List ℕ → Commit F R → Event F R

abbrev pub call_of : {F R : Type 0} → Event F R → Call F
call_of (refused c n) = c
call_of (fed f) = feed f
call_of (took l p i f) = take l
call_of (looked l x o) = look l
call_of (committed l x t ns o) = commit l

-- the next candidate of a search
abbrev pub Next : {R : Type 0} → Search R → Candidate R → Type 0
Next {R} x t = (later : List (Candidate R)) × (x.left ≡ t ∷ later)

-- a look counts, and the next one goes on after its candidate
abbrev pub onward : {R : Type 0} → Search R → Search R
onward x = record { place = x.place; number = x.number; looks = x.looks + 1; left = drop 1 x.left }

-- partners' numbers: those of the other positions, in order; a candidate has at most two
abbrev pub partners : {R : Type 0} → Candidate R → List ℕ → List ℕ
partners t ns = without t.pos ns

-- the lane's fact and its partners stand where the look found them: the cells there have the numbers it named
abbrev pub Intact : {F R : Type 0} → List (Place F) → Search R → Candidate R → List ℕ → List (Cell F) → Type 0
Intact st x t ns cs = Stands st x.place x.number × Held st t.places cs × (numbers cs ≡ ns)

module _ {F R : Type 0} (T : Rules F R) where
  -- A candidate matches: its places hold the cells, none stands twice, and heads and guards hold of the facts there.
  pub record Matches (st : List (Place F)) (t : Candidate R) (cs : List (Cell F)) : Type 0 where
    pub holds : Held st t.places cs
    pub apart : Apart t.places
    pub matches : T.matches t.rule (facts cs) ≡ true

  -- LOOK, on a lane with the search x: what it comes to
  abbrev pub Looks : List (Place F) → Search R → Look F R → Type 0
  Looks st x gone = Gone st x.place x.number
  Looks st x exhausted = Stands st x.place x.number × (x.left ≡ [])
  Looks st x miss =
      Stands st x.place x.number × ((t : Candidate R) × Next x t × ((cs : List (Cell F)) → Matches st t cs → ⊥))
  Looks st x (outside t cs) =
      Stands st x.place x.number × Next x t × Matches st t cs × (T.in_ends t.rule (facts cs) ≡ false)
  Looks st x (match t cs) =
      Stands st x.place x.number × Next x t × Matches st t cs × (T.in_ends t.rule (facts cs) ≡ true)

  -- its answer
  abbrev pub names : ℕ → Candidate R → List ℕ → Answer
  names code t ns = says code (T.label t.rule) (slice_index (partners t ns) 0) (slice_index (partners t ns) 1)

  abbrev pub look_answer : Search R → Look F R → Answer
  look_answer x gone = says 5 (x.looks + 1) x.number 0
  look_answer x exhausted = says 4 (x.looks + 1) x.number 0
  look_answer x miss = says 1 (x.looks + 1) 0 0
  look_answer x (outside t cs) = names 3 t (numbers cs)
  look_answer x (match t cs) = names 2 t (numbers cs)

  -- the lane after it
  abbrev pub after_look : Search R → Look F R → Lane R
  after_look x gone = idle (x.looks + 1)
  after_look x exhausted = idle (x.looks + 1)
  after_look x miss = searching (onward x)
  after_look x (outside t cs) = searching (onward x)
  after_look x (match t cs) = found (onward x) t (numbers cs)

  -- a look by the store and the lane's search alone: it answers a, and leaves the lane in the state y
  abbrev pub LookStep : List (Place F) → Search R → Answer → Lane R → Type 0
  LookStep st x a y = (o : Look F R) × Looks st x o × (look_answer x o ≡ a) × (after_look x o ≡ y)

  -- COMMIT, on a lane that has found t where the numbers ns stood: what it comes to
  abbrev pub Commits : Machine F R → Search R → Candidate R → List ℕ → Commit F R → Type 0
  Commits s x t ns lost = Gone s.store x.place x.number
  Commits s x t ns (parted m) = Stands s.store x.place x.number × FirstMissing s.store t.places ns m
  Commits s x t ns (rewrite u cs) =
      (u ≡ t) × Intact s.store x t ns cs × (length s.waiting + length (T.body t.rule (facts cs)) ≤ s.capacity)

  -- the own fact stands at a kept position
  abbrev pub keeps_own : Candidate R → Bool
  keeps_own t = nat_lt t.pos (T.kept t.rule)

  -- its answer
  abbrev pub commit_answer : Search R → Commit F R → Answer
  commit_answer x lost = says 5 x.looks x.number 0
  commit_answer x (parted m) = says 6 m 0 0
  commit_answer x (rewrite t cs) = says 0 (T.label t.rule) (cond (keeps_own t) 1 0) (length (T.body t.rule (facts cs)))

  -- the lane after it
  abbrev pub after_commit : Search R → Commit F R → Lane R
  after_commit x lost = idle x.looks
  after_commit x (parted m) = searching x
  after_commit x (rewrite t cs) = cond (keeps_own t) (searching x) (idle x.looks)

  -- When a call is refused, and with which code. Tests go in rising order, but that a commit finds facts gone before
  -- it finds the list too full.
  pub data Refuses (s : Machine F R) : Call F → ℕ → Type 0 where
    list_full : (f : F) → s.capacity ≤ length s.waiting → Refuses s (feed f) 25
    too_long : (f : F) → length s.waiting < s.capacity → T.short f ≡ false → Refuses s (feed f) 26
    take_lane : (l : ℕ) → length s.lanes ≤ l → Refuses s (take l) 20
    take_searching : (l : ℕ) (x : Search R) → Nth s.lanes l (searching x) → Refuses s (take l) 21
    take_found : (l : ℕ) (x : Search R) (t : Candidate R) (ns : List ℕ) → Nth s.lanes l (found x t ns) → Refuses s (take l) 21
    none_waits : (l k : ℕ) → Nth s.lanes l (idle k) → s.waiting ≡ [] → Refuses s (take l) 22
    no_number : (l k : ℕ) → Nth s.lanes l (idle k) → 0 < length s.waiting → s.limit ≤ s.given → Refuses s (take l) 23
    no_place : (l k : ℕ) → Nth s.lanes l (idle k) → 0 < length s.waiting → s.given < s.limit
        → ((p : ℕ) → Nth s.store p empty → ⊥) → Refuses s (take l) 24
    look_lane : (l : ℕ) → length s.lanes ≤ l → Refuses s (look l) 20
    look_idle : (l k : ℕ) → Nth s.lanes l (idle k) → Refuses s (look l) 21
    look_found : (l : ℕ) (x : Search R) (t : Candidate R) (ns : List ℕ) → Nth s.lanes l (found x t ns) → Refuses s (look l) 21
    commit_lane : (l : ℕ) → length s.lanes ≤ l → Refuses s (commit l) 20
    commit_idle : (l k : ℕ) → Nth s.lanes l (idle k) → Refuses s (commit l) 21
    commit_searching : (l : ℕ) (x : Search R) → Nth s.lanes l (searching x) → Refuses s (commit l) 21
    few_free : (l : ℕ) (x : Search R) (t : Candidate R) (ns : List ℕ) (cs : List (Cell F))
        → Nth s.lanes l (found x t ns) → Intact s.store x t ns cs
        → s.capacity < length s.waiting + length (T.body t.rule (facts cs)) → Refuses s (commit l) 25

  -- when a call can come to this
  abbrev pub Allowed : Machine F R → Event F R → Type 0
  Allowed s (refused c n) = Refuses s c n
  Allowed s (fed f) = (length s.waiting < s.capacity) × (T.short f ≡ true)
  Allowed s (took l p i f) =
      (k : ℕ) × Nth s.lanes l (idle k) × Nth s.waiting i f × (s.given < s.limit) × Nth s.store p empty
  Allowed s (looked l x o) = Nth s.lanes l (searching x) × Looks s.store x o
  Allowed s (committed l x t ns o) = Nth s.lanes l (found x t ns) × Commits s x t ns o

  -- what it then answers
  abbrev pub answer_of : Machine F R → Event F R → Answer
  answer_of s (refused c n) = says n 0 0 0
  answer_of s (fed f) = says 0 (length s.waiting + 1) 0 0
  answer_of s (took l p i f) = says 0 (s.given + 1) p 0
  answer_of s (looked l x o) = look_answer x o
  answer_of s (committed l x t ns o) = commit_answer x o

-- the machine with the lane l in the state y
abbrev pub with_lane : {F R : Type 0} → Machine F R → ℕ → Lane R → Machine F R
with_lane s l y =
    record {
      store = s.store;
      waiting = s.waiting;
      lanes = slice_set s.lanes l y;
      given = s.given;
      capacity = s.capacity;
      limit = s.limit;
    }

module _ {F R : Type 0} (T : Rules F R) where
  -- and the machine it leaves
  abbrev pub after : Machine F R → Event F R → Machine F R
  after s (refused c n) = s
  after s (fed f) =
      record {
        store = s.store;
        waiting = s.waiting ++ f ∷ [];
        lanes = s.lanes;
        given = s.given;
        capacity = s.capacity;
        limit = s.limit;
      }
  after s (took l p i f) =
      record {
        store = slice_set s.store p (held (s.given + 1) f);
        waiting = without i s.waiting;
        lanes =
            slice_set s.lanes l
            (searching (record { place = p; number = s.given + 1; looks = 0; left = candidates T (length s.store) p f }));
        given = s.given + 1;
        capacity = s.capacity;
        limit = s.limit;
      }
  after s (looked l x o) = with_lane s l (after_look T x o)
  after s (committed l x t ns lost) = with_lane s l (after_commit T x lost)
  after s (committed l x t ns (parted m)) = with_lane s l (after_commit T x (parted m))
  after s (committed l x t ns (rewrite u cs)) =
      record {
        store = cleared s.store (drop (T.kept u.rule) u.places);
        waiting = s.waiting ++ T.body u.rule (facts cs);
        lanes = slice_set s.lanes l (after_commit T x (rewrite u cs));
        given = s.given;
        capacity = s.capacity;
        limit = s.limit;
      }

  -- the call c at the machine s answers a and leaves s'
  pub record Step (s : Machine F R) (c : Call F) (a : Answer) (s' : Machine F R) : Type 0 where
    pub event : Event F R
    pub is_call : call_of event ≡ c
    pub allowed : Allowed T s event
    pub answers : answer_of T s event ≡ a
    pub leaves : after s event ≡ s'
