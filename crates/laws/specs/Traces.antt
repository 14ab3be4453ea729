-- Runs as their callers see them: calls, answers, and for a take the fact taken. What is read off a run opens no machine.
use Rattle.std.specs.Prelude.{◌≡◌, ℕ, zero, suc, ◌+◌, ◌-◌, Bool, cond, ◌&&◌, ◌⊎◌, List, [], ◌∷◌, take as front, MatchBool, ◌==◌, nat_lt}
use Rattle.facts.specs.Lists.{Nth}
use Rattle.laws.specs.Rules.{Rules}
use Rattle.laws.specs.Candidates.{Candidate, candidates}
use Rattle.laws.specs.Machine.{Machine, Call, feed, take, look, commit, Answer}
use Rattle.laws.specs.Steps.{Event, refused, fed, took, looked, committed, Step}

-- the fact that a take with answer 0 took; no other call takes one
pub data Taken (F : Type 0) : Type 0 where
  none : Taken F
  one : F → Taken F

pub data Entry (F : Type 0) : Type 0 where
  entry : Call F → Answer → Taken F → Entry F

-- the latest entry first
abbrev pub Trace : Type 0 → Type 0
Trace F = List (Entry F)

-- what an event shows of it
abbrev pub taken : {F R : Type 0} → Event F R → Taken F
taken (refused c n) = none
taken (fed f) = none
taken (took l p i f) = one f
taken (looked l x o) = none
taken (committed l x t ns o) = none

module _ {F R : Type 0} (T : Rules F R) where
  -- the machine s comes to s' by this entry
  abbrev pub Stepped : Machine F R → Entry F → Machine F R → Type 0
  Stepped s (entry c a x) s' = (w : Step T s c a s') × (taken w.event ≡ x)

  -- the run with this trace leads from s to s', each call a step
  abbrev pub Leads : Machine F R → Trace F → Machine F R → Type 0
  Leads s [] s' = s ≡ s'
  Leads s (e ∷ tr) s' = (m : Machine F R) × Leads s tr m × Stepped m e s'

-- the call on lane m was one on lane l, and answered the code
abbrev pub answered : ℕ → ℕ → Answer → ℕ → Bool
answered m l a code = m == l && a.code == code

-- the call on lane m was one on lane l, and was not refused
abbrev pub carried_out : ℕ → ℕ → Answer → Bool
carried_out m l a = m == l && nat_lt a.code 20

module _ {F : Type 0} where
  -- the facts of all feeds that answered 0
  abbrev pub feeds : Trace F → List F
  feeds [] = []
  feeds (entry (feed f) a x ∷ tr) = cond (a.code == 0) (f ∷ feeds tr) (feeds tr)
  feeds (entry (take l) a x ∷ tr) = feeds tr
  feeds (entry (look l) a x ∷ tr) = feeds tr
  feeds (entry (commit l) a x ∷ tr) = feeds tr

  -- the number n stands for the fact f: a take answered it as p, and took f
  abbrev pub Took : Trace F → ℕ → F → Type 0
  Took [] n f = ⊥
  Took (entry (feed g) a x ∷ tr) n f = Took tr n f
  Took (entry (take m) a x ∷ tr) n f = ((a.code ≡ 0) × (a.p ≡ n) × (x ≡ one f)) ⊎ Took tr n f
  Took (entry (look m) a x ∷ tr) n f = Took tr n f
  Took (entry (commit m) a x ∷ tr) n f = Took tr n f

  abbrev pub TookAll : Trace F → List ℕ → List F → Type 0
  TookAll tr [] [] = Unit {0}
  TookAll tr [] (f ∷ fs) = ⊥
  TookAll tr (n ∷ ns) [] = ⊥
  TookAll tr (n ∷ ns) (f ∷ fs) = Took tr n f × TookAll tr ns fs

  -- the last take on lane l that answered 0 answered the number n and the place p, and took f
  abbrev pub Own : Trace F → ℕ → ℕ → ℕ → F → Type 0
  Own [] l n p f = ⊥
  Own (entry (feed g) a x ∷ tr) l n p f = Own tr l n p f
  Own (entry (take m) a x ∷ tr) l n p f = MatchBool (answered m l a 0) ((a.p ≡ n) × (a.q ≡ p) × (x ≡ one f)) (Own tr l n p f)
  Own (entry (look m) a x ∷ tr) l n p f = Own tr l n p f
  Own (entry (commit m) a x ∷ tr) l n p f = Own tr l n p f

  -- how many looks on lane l were not refused since its last take that answered 0
  abbrev pub since : Trace F → ℕ → ℕ
  since [] l = 0
  since (entry (feed g) a x ∷ tr) l = since tr l
  since (entry (take m) a x ∷ tr) l = cond (answered m l a 0) 0 (since tr l)
  since (entry (look m) a x ∷ tr) l = cond (carried_out m l a) (since tr l + 1) (since tr l)
  since (entry (commit m) a x ∷ tr) l = since tr l

  -- the last look on lane l that answered 2 answered b, and came after k others since the lane's take
  abbrev pub LastMatch : Trace F → ℕ → ℕ → Answer → Type 0
  LastMatch [] l k b = ⊥
  LastMatch (entry (feed g) a x ∷ tr) l k b = LastMatch tr l k b
  LastMatch (entry (take m) a x ∷ tr) l k b = LastMatch tr l k b
  LastMatch (entry (look m) a x ∷ tr) l k b = MatchBool (answered m l a 2) ((since tr l ≡ k) × (a ≡ b)) (LastMatch tr l k b)
  LastMatch (entry (commit m) a x ∷ tr) l k b = LastMatch tr l k b

-- x set in at an index
abbrev pub insert : {X : Type 0} → ℕ → X → List X → List X
insert zero x xs = x ∷ xs
insert (suc j) x [] = x ∷ []
insert (suc j) x (y ∷ ys) = y ∷ insert j x ys

-- a commit's plain rewrite: its lane and rule, and by position the numbers and facts
pub record Rewrite (F R : Type 0) : Type 0 where
  pub lane : ℕ
  pub rule : R
  pub numbers : List ℕ
  pub facts : List F

-- the partners' numbers that the answer of a look names
abbrev pub named : {F R : Type 0} → Rules F R → R → Answer → List ℕ
named T r a = front (T.heads r - 1) (a.q ∷ a.r ∷ [])

module _ {F R : Type 0} (T : Rules F R) (P : ℕ) where
  -- What a commit on lane l rewrites, after the trace tr.
  pub record RewritesBy (tr : Trace F) (l : ℕ) (w : Rewrite F R) : Type 0 where
    -- the lane's fact: the one that its last take with answer 0 took
    pub number : ℕ
    pub place : ℕ
    pub fact : F
    pub own : Own tr l number place fact
    -- its last look with answer 2, and the candidate that this look tried: the one numbered by the look count
    pub before : ℕ
    pub answer : Answer
    pub last_match : LastMatch tr l before answer
    pub tried : Candidate R
    pub is_tried : Nth (candidates T P place fact) before tried
    -- the rule of the label answered, which is the candidate's
    pub index : ℕ
    pub in_table : Nth T.table index w.rule
    pub by_label : T.label w.rule ≡ answer.p
    pub by_rule : tried.rule ≡ w.rule
    -- the facts that the partners' numbers stand for
    pub others : List F
    pub took_others : TookAll tr (named T w.rule answer) others
    -- the own number and fact at the own position, the partners' at the others
    pub on_lane : w.lane ≡ l
    pub of_numbers : w.numbers ≡ insert tried.pos number (named T w.rule answer)
    pub of_facts : w.facts ≡ insert tried.pos fact others

  -- the rewrites of all commits that answered 0, the latest first
  abbrev pub Rewrites : Trace F → List (Rewrite F R) → Type 0
  Rewrites [] ws = ws ≡ []
  Rewrites (entry (feed g) a x ∷ tr) ws = Rewrites tr ws
  Rewrites (entry (take m) a x ∷ tr) ws = Rewrites tr ws
  Rewrites (entry (look m) a x ∷ tr) ws = Rewrites tr ws
  Rewrites (entry (commit m) a x ∷ tr) ws =
      MatchBool (a.code == 0)
      ((w : Rewrite F R) × (vs : List (Rewrite F R)) × (ws ≡ w ∷ vs) × RewritesBy tr m w × Rewrites tr vs)
      (Rewrites tr ws)
