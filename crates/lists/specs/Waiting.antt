-- What a waiting list does, by the facts that wait.
use Rattle.std.specs.Prelude.{◌≡◌, ℕ, suc, ◌<◌, ◌≤◌, Bool, true, false, ◌⊎◌, List, [], ◌∷◌, ◌++◌, length, take, drop, ℤ, Some, None, Option}
use Rattle.facts.specs.declared.fact.Fact.{Fact}
use Rattle.facts.specs.Lists.{Nth}
use Rattle.facts.specs.Meanings.{Meaning, meaning}

-- what putting a fact of the meaning m answers, and what then waits
abbrev pub Joins : List Meaning → ℕ → Meaning → Bool → List Meaning → Type 0
Joins w capacity m false w' = ((capacity ≤ length w) ⊎ (3 < m.count)) × (w' ≡ w)
Joins w capacity m true w' = (length w < capacity) × (m.count ≤ 3) × (w' ≡ w ++ m ∷ [])

-- what a take answers: one fact of those that wait; the others keep their order
abbrev pub Gives : {V : Type 0} → (V → ℤ) → List Meaning → Option (Fact V) → List Meaning → Type 0
Gives means w None w' = (w ≡ []) × (w' ≡ w)
Gives means w (Some f) w' =
    (i : ℕ) × Nth w i (meaning means f) × (w' ≡ take i w ++ drop (suc i) w) × (f.count ≤ 3)

-- the last-first list gives the last fact
abbrev pub GivesLast : {V : Type 0} → (V → ℤ) → List Meaning → Option (Fact V) → List Meaning → Type 0
GivesLast means w None w' = w ≡ []
GivesLast means w (Some f) w' = w ≡ w' ++ meaning means f ∷ []

-- the first-first list gives the first fact
abbrev pub GivesFirst : {V : Type 0} → (V → ℤ) → List Meaning → Option (Fact V) → List Meaning → Type 0
GivesFirst means w None w' = w ≡ []
GivesFirst means w (Some f) w' = w ≡ meaning means f ∷ w'

-- a list gives the last fact, or the first
abbrev pub GivesEnd : Bool → {V : Type 0} → (V → ℤ) → List Meaning → Option (Fact V) → List Meaning → Type 0
GivesEnd true means w r w' = GivesLast means w r w'
GivesEnd false means w r w' = GivesFirst means w r w'
