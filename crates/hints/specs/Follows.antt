-- Which kinds of word may come next.
use Rattle.std.specs.Prelude.{◌≡◌, ℕ, Bool, true, false, not, List, ◌==◌}
use Rattle.grammar.specs.Writing.{standard}
use Rattle.grammar.specs.Faults.{Begins, Holds, InTurn}
use Rattle.rules.specs.declared.refusal.LoadFault.{LoadFault}
use Rattle.rules.specs.declared.refusal.LoadFault.TheVariants.{OutOfTurn, StrayBit, OutOfRange, Unbound, NoTaken, Label}

-- of words that begin a table and hold no whole one, the answer says exactly whether the kind is in turn after them
abbrev pub Follows : List ℕ → ℕ → Bool → Type 0
Follows before k b =
    Begins standard before → (Holds standard before → ⊥)
    → (b ≡ true → InTurn before k) × (b ≡ false → InTurn before k → ⊥)

-- the refusal is other than "out of turn at this place"
abbrev pub other : LoadFault → ℕ → ℕ → Bool
other OutOfTurn at place = not (at == place)
other StrayBit at place = true
other OutOfRange at place = true
other Unbound at place = true
other NoTaken at place = true
other Label at place = true
