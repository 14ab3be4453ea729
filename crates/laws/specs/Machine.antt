-- The lane machine by its meaning: what it holds, what it can be asked, what it answers.
use Rattle.std.specs.Prelude.{ℕ, List, [], ◌∷◌, replicate}
use Rattle.facts.specs.Places.{Place, empty}
use Rattle.laws.specs.Candidates.{Candidate}

-- a lane's search: the place and number of its own fact, the looks since its take, and the candidates that are left
pub record Search (R : Type 0) : Type 0 where
  pub place : ℕ
  pub number : ℕ
  pub looks : ℕ
  pub left : List (Candidate R)

pub data Lane (R : Type 0) : Type 0 where
  -- with the look count it ended at
  idle : (looks : ℕ) → Lane R
  searching : Search R → Lane R
  -- with the candidate found and the numbers that stood at its places, by position
  found : Search R → Candidate R → List ℕ → Lane R

-- an idle lane too has a look count
abbrev pub looks : {R : Type 0} → Lane R → ℕ
looks (idle k) = k
looks (searching x) = x.looks
looks (found x t ns) = x.looks

pub record Machine (F R : Type 0) : Type 0 where
  pub store : List (Place F)
  pub waiting : List F
  pub lanes : List (Lane R)
  -- how many numbers were given
  pub given : ℕ
  -- how many facts can wait, and how many numbers can be given: these never change
  pub capacity : ℕ
  pub limit : ℕ

-- what a machine is made with
pub record Shape : Type 0 where
  pub places : ℕ
  pub capacity : ℕ
  pub limit : ℕ

-- a new machine: eight idle lanes, nothing stored, nothing waiting
abbrev pub new : {F R : Type 0} → Shape → Machine F R
new S =
    record {
      store = replicate S.places empty;
      waiting = [];
      lanes = replicate 8 (idle 0);
      given = 0;
      capacity = S.capacity;
      limit = S.limit;
    }

pub data Call (F : Type 0) : Type 0 where
  feed : F → Call F
  take : (lane : ℕ) → Call F
  look : (lane : ℕ) → Call F
  commit : (lane : ℕ) → Call F

-- a code and three numbers, 0 where none is named
pub record Answer : Type 0 where
  pub code : ℕ
  pub p : ℕ
  pub q : ℕ
  pub r : ℕ

abbrev pub says : ℕ → ℕ → ℕ → ℕ → Answer
says code p q r = record { code = code; p = p; q = q; r = r }

-- a fact with the number under which it is stored
pub record Cell (F : Type 0) : Type 0 where
  pub number : ℕ
  pub fact : F

abbrev pub numbers : {F : Type 0} → List (Cell F) → List ℕ
numbers [] = []
numbers (c ∷ cs) = c.number ∷ numbers cs

abbrev pub facts : {F : Type 0} → List (Cell F) → List F
facts [] = []
facts (c ∷ cs) = c.fact ∷ facts cs
