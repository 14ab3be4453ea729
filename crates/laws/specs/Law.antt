-- The law of the lane machine, over all its runs.
use Rattle.std.specs.Prelude.{◌≡◌, ℕ, ◌+◌, ◌<◌, ◌≤◌, Bool, true, List, [], ◌∷◌, ◌++◌, length, drop, count_by}
use Rattle.std.specs.List.{AllByRecursion}
use Rattle.facts.specs.Lists.{Nth}
use Rattle.facts.specs.Places.{Place, empty, held}
use Rattle.laws.specs.Rules.{Rules, WellFormed, Applies}
use Rattle.laws.specs.Candidates.{candidates, W, before_rule, before_position, digits}
use Rattle.laws.specs.Machine.{Lane, idle, looks, Machine, Shape, new, Call, Answer, Cell, facts}
use Rattle.laws.specs.Stored.{Held, Apart}
use Rattle.laws.specs.Steps.{without, Event, refused, fed, took, looked, committed, Step}
use Rattle.laws.specs.Traces.{Taken, entry, Trace, Leads, feeds, Own, since, Rewrite, Rewrites}

-- the facts of a store, numbers dropped
abbrev pub stored : {F : Type 0} → List (Place F) → List F
stored [] = []
stored (empty ∷ st) = stored st
stored (held n f ∷ st) = f ∷ stored st

-- the waiting and the stored facts, as one collection
abbrev pub collection : {F R : Type 0} → Machine F R → List F
collection s = s.waiting ++ stored s.store

-- two collections hold each fact as often: as many pass, whatever the test
abbrev pub Same : {F : Type 0} → List F → List F → Type 0
Same {F} xs ys = (q : F → Bool) → count_by q xs ≡ count_by q ys

-- no fact waits and every lane is idle
abbrev pub AtRest : {F R : Type 0} → Machine F R → Type 0
AtRest {F} {R} s = (s.waiting ≡ []) × ((l : ℕ) (x : Lane R) → Nth s.lanes l x → (k : ℕ) × (x ≡ idle k))

module _ {F R : Type 0} (T : Rules F R) where
  -- The plain rewrite of the facts fs by the rule r takes the collection xs to ys: the rule applies to them, they lie
  -- there, those at taken positions are removed and the body is added.
  pub record Rewritten (r : R) (fs xs ys : List F) : Type 0 where
    pub applies : Applies T r fs
    pub there : (q : F → Bool) → count_by q fs ≤ count_by q xs
    pub result : Same (ys ++ drop (T.kept r) fs) (xs ++ T.body r fs)

  -- the rewrites, the latest first, take xs to ys
  abbrev pub Replay : List F → List (Rewrite F R) → List F → Type 0
  Replay xs [] ys = Same xs ys
  Replay xs (w ∷ ws) ys = (zs : List F) × Replay xs ws zs × Rewritten w.rule w.facts zs ys

  -- Replay: the rewrites of the commits, in order, take the fed facts to the waiting and stored ones.
  abbrev pub Replays : ℕ → Trace F → Machine F R → Type 0
  Replays P tr s = (ws : List (Rewrite F R)) × Rewrites T P tr ws × Replay (feeds tr) ws (collection s)

  -- the rule applies to facts of the store, chosen one for each position, none of them twice
  pub record Choice (st : List (Place F)) (r : R) (ps : List ℕ) (cs : List (Cell F)) : Type 0 where
    pub holds : Held st ps cs
    pub apart : Apart ps
    pub applies : Applies T r (facts cs)

  -- Rest: at rest no rule applies to any choice of stored facts.
  abbrev pub Settled : Trace F → Machine F R → Type 0
  Settled tr s =
      AtRest s → (i : ℕ) (r : R) → Nth T.table i r → (ps : List ℕ) (cs : List (Cell F)) → Choice s.store r ps cs → ⊥

  -- Count: from a take that answered 0 on, a lane's look count is the number of its looks since then that were not
  -- refused, and is at most W + 1.
  abbrev pub Counts : ℕ → Trace F → Machine F R → Type 0
  Counts P tr s =
      (l : ℕ) (x : Lane R) → Nth s.lanes l x → (n p : ℕ) (f : F) → Own tr l n p f
      → (looks x ≡ since tr l) × (looks x ≤ W T P f + 1)

  pub record Lawful (P : ℕ) (tr : Trace F) (s : Machine F R) : Type 0 where
    pub replays : Replays P tr s
    pub settled : Settled tr s
    pub counts : Counts P tr s

  -- what a call promises: after any run of a new machine that led to s it makes the run one longer, and the law holds
  abbrev pub Promise : Shape → Machine F R → Call F → Answer → Machine F R → Type 0
  Promise S s c a s' =
      (tr : Trace F) → Leads T (new S) tr s
      → (x : Taken F) × Leads T (new S) (entry c a x ∷ tr) s' × Lawful S.places (entry c a x ∷ tr) s'

-- the law: it holds of every run of a new machine
abbrev pub Law : Type 0 → Type 0 → Type 0
Law F R =
    (T : Rules F R) → WellFormed T → (S : Shape) (tr : Trace F) (s : Machine F R)
    → Leads T (new S) tr s → Lawful T S.places tr s

-- each step keeps the promise
abbrev pub Promises : Type 0 → Type 0 → Type 0
Promises F R =
    (T : Rules F R) → WellFormed T → (S : Shape) (s : Machine F R) (c : Call F) (a : Answer) (s' : Machine F R)
    → Step T s c a s' → Promise T S s c a s'

-- a run tells its rewrites: there is one list of them
abbrev pub Told : Type 0 → Type 0 → Type 0
Told F R =
    (T : Rules F R) → WellFormed T → (S : Shape) (tr : Trace F) (s : Machine F R) → Leads T (new S) tr s
    → (ws vs : List (Rewrite F R)) → Rewrites T S.places tr ws → Rewrites T S.places tr vs → ws ≡ vs

-- a label that an answer names is not 0, and stands for one rule
abbrev pub LabelsTell : Type 0 → Type 0 → Type 0
LabelsTell F R =
    (T : Rules F R) → WellFormed T → (i j : ℕ) (r s : R) → Nth T.table i r → Nth T.table j s
    → T.label r ≡ T.label s → (r ≡ s) × (0 < T.label r)

-- two takes that took chose alike: the same place, and the same fact of the list; other calls have no choice
abbrev pub AlikeChosen : {F R : Type 0} → Event F R → Event F R → Type 0
AlikeChosen (refused c n) e = Unit {0}
AlikeChosen (fed f) e = Unit {0}
AlikeChosen (took l p i f) (refused c n) = Unit {0}
AlikeChosen (took l p i f) (fed g) = Unit {0}
AlikeChosen (took l p i f) (took m q j g) = (p ≡ q) × (i ≡ j)
AlikeChosen (took l p i f) (looked m x o) = Unit {0}
AlikeChosen (took l p i f) (committed m x t ns o) = Unit {0}
AlikeChosen (looked l x o) e = Unit {0}
AlikeChosen (committed l x t ns o) e = Unit {0}

-- a call has one outcome, but for what a take chooses
abbrev pub Pinned : Type 0 → Type 0 → Type 0
Pinned F R =
    (T : Rules F R) (s : Machine F R) (c : Call F) (a b : Answer) (s₁ s₂ : Machine F R)
    → (v : Step T s c a s₁) (w : Step T s c b s₂) → AlikeChosen v.event w.event → (a ≡ b) × (s₁ ≡ s₂)

-- after any run each call has an outcome
abbrev pub Total : Type 0 → Type 0 → Type 0
Total F R =
    (T : Rules F R) → WellFormed T → (S : Shape) (tr : Trace F) (s : Machine F R) → Leads T (new S) tr s
    → (c : Call F) → (a : Answer) × (s' : Machine F R) × Step T s c a s'

-- the list of candidates has the length W
abbrev pub Counted : Type 0 → Type 0 → Type 0
Counted F R = (T : Rules F R) (P own : ℕ) (f : F) → length (candidates T P own f) ≡ W T P f

-- Where a candidate stands among them: after those of the rules before its own and of the positions before its own, as
-- many on as its other places count.
abbrev pub Ordered : Type 0 → Type 0 → Type 0
Ordered F R =
    (T : Rules F R) (P own : ℕ) (f : F) (i : ℕ) (r : R) (j : ℕ) (ps : List ℕ)
    → Nth T.table i r → j < T.heads r → T.fits r j f ≡ true
    → length ps ≡ T.heads r → AllByRecursion (λ (p : ℕ). p < P) ps → Nth ps j own
    → Nth (candidates T P own f) (before_rule T P f i + (before_position T P f r j + digits P (without j ps))) (record { rule = r; pos = j; places = ps })
