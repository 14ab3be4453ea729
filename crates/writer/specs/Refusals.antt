-- Why the writer refuses, and which reason comes first.
use Rattle.std.specs.Prelude.{◌≡◌, ℕ, ◌+◌, ◌≤◌, List, length}
use Rattle.writer.specs.declared.refusal.Refusal.{Refusal}
use Rattle.writer.specs.declared.refusal.Refusal.TheVariants.{OutOfRange, UnboundVariable, LabelOrder, NoRoom}
use Rattle.writer.specs.Memory.{placed}

-- the documented number of each refusal
abbrev pub number : Refusal → ℕ
number OutOfRange = 12
number UnboundVariable = 13
number LabelOrder = 15
number NoRoom = 30

-- The tests of a call are made in this order: numbers and amounts in range, variables bound, label in order, room.
-- The refusal names the first that fails.
abbrev pub Fails : (range bound order room : Type 0) → Refusal → Type 0
Fails range bound order room OutOfRange = range → ⊥
Fails range bound order room UnboundVariable = range × (bound → ⊥)
Fails range bound order room LabelOrder = range × bound × (order → ⊥)
Fails range bound order room NoRoom = range × bound × order × (room → ⊥)

-- these words fit behind the words so far
abbrev pub Room : ℕ → List ℕ → List ℕ → Type 0
Room used ws memory = used + length ws ≤ length memory

-- an accepted call: every test holds, its words stand behind the words so far, and all others are as before
pub record Wrote (range bound order : Type 0) (used : ℕ) (ws before after : List ℕ) : Type 0 where
  pub numbers : range
  pub variables : bound
  pub label : order
  pub room : Room used ws before
  pub memory : after ≡ placed used ws before

-- a refused call: the first test that fails, and a memory as before
pub record WroteNothing (range bound order : Type 0) (used : ℕ) (ws before after : List ℕ) (why : Refusal) : Type 0 where
  pub first : Fails range bound order (Room used ws before) why
  pub memory : after ≡ before
