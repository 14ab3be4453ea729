-- Rule tables by what the machine needs of them.
use Rattle.std.specs.Prelude.{◌≡◌, ℕ, ◌<◌, ◌≤◌, Bool, true, List, length}
use Rattle.facts.specs.Lists.{Nth}

-- Facts are of type F, rules of type R. Positions are counted from 0; those below `kept` are kept, the others taken.
pub record Rules (F R : Type 0) : Type 0 where
  -- the rules in table order
  pub table : List R
  pub label : R → ℕ
  pub heads : R → ℕ
  pub kept : R → ℕ
  -- name and count of the fact agree with the head at the position
  pub fits : R → ℕ → F → Bool
  -- heads and guards hold of the facts, one for each position
  pub matches : R → List F → Bool
  -- every body value lies between the ends of the value kind
  pub in_ends : R → List F → Bool
  -- the body facts, in order
  pub body : R → List F → List F
  -- the fact's count is at most 3
  pub short : F → Bool

-- What a table owes the law.
pub record WellFormed {F R : Type 0} (T : Rules F R) : Type 0 where
  -- labels are above 0, and no two rules have one
  pub labelled : (i : ℕ) (r : R) → Nth T.table i r → 0 < T.label r
  pub labels_apart : (i j : ℕ) (r s : R) → Nth T.table i r → Nth T.table j s → T.label r ≡ T.label s → i ≡ j
  -- a rule has at most three heads, and one of them is taken
  pub few_heads : (i : ℕ) (r : R) → Nth T.table i r → T.heads r ≤ 3
  pub some_taken : (i : ℕ) (r : R) → Nth T.table i r → T.kept r < T.heads r
  -- what matches is one fact for each position, and each fits there
  pub one_each : (r : R) (fs : List F) → T.matches r fs ≡ true → length fs ≡ T.heads r
  pub all_fit : (r : R) (fs : List F) → T.matches r fs ≡ true → (j : ℕ) (f : F) → Nth fs j f → T.fits r j f ≡ true

-- the rule applies to the facts, one for each position
abbrev pub Applies : {F R : Type 0} → Rules F R → R → List F → Type 0
Applies T r fs = (T.matches r fs ≡ true) × (T.in_ends r fs ≡ true)
