-- Facts read field by field, and facts written.
use Rattle.std.specs.Prelude.{◌≡◌, ℕ, ◌<◌, ◌≤◌, min, Bool, true, false, ℤ, Some, None, Option, ◌==◌}
use Rattle.std.specs.Ordering.{on, eq_of_both, int_eq}
use Rattle.std.specs.Cmp.Lexicographic.{pointwise}
use Rattle.facts.specs.declared.fact.Fact.{Fact}
use Rattle.facts.specs.Kinds.{Between}
use Rattle.facts.specs.Meanings.{ReadFact, meaning, read_meaning, numbers}

-- a fact with every argument read, the spare ones too
abbrev pub as_read : {V : Type 0} → (V → ℤ) → Fact V → ReadFact
as_read means f =
    record { name = f.name; count = f.count; args = (means f.args.0, means f.args.1, means f.args.2) }

-- facts of one meaning are read with one meaning, whatever their spare bits and spare arguments are
abbrev pub ReadAlike : {V : Type 0} → (V → ℤ) → Type 0
ReadAlike {V} means =
    (f g : Fact V) → meaning means f ≡ meaning means g → read_meaning (as_read means f) ≡ read_meaning (as_read means g)

-- whether two read facts mean the same
abbrev pub alike : ReadFact → ReadFact → Bool
alike = eq_of_both (on (λ f. f.name) ◌==◌) (eq_of_both (on (λ f. f.count) ◌==◌) (on numbers (pointwise int_eq)))

-- a yes or a no that decides P
abbrev pub Decides : Type 0 → Bool → Type 0
Decides P true = P
Decides P false = P → ⊥

-- the fact with its count cut to 3
abbrev pub cut : {V : Type 0} → Fact V → Fact V
cut f = record { name = f.name; count = min 3 f.count; args = f.args }

-- the count is at most 3 and the first count numbers lie between the ends
abbrev pub Writable : ℤ → ℤ → ReadFact → Type 0
Writable low high f =
    (f.count ≤ 3)
    × (0 < f.count → Between low high f.args.0)
    × (1 < f.count → Between low high f.args.1)
    × (2 < f.count → Between low high f.args.2)

-- the arguments past the count mean the low end
abbrev pub SpareLow : {V : Type 0} → ℤ → (V → ℤ) → Fact V → Type 0
SpareLow low means f =
    (f.count ≤ 0 → means f.args.0 ≡ low)
    × (f.count ≤ 1 → means f.args.1 ≡ low)
    × (f.count ≤ 2 → means f.args.2 ≡ low)

-- what making the argument at an index answers: a value of the low end where the argument is spare
abbrev pub Argument : {V : Type 0} → ℤ → ℤ → (V → ℤ) → ℕ → ℕ → ℤ → Option V → Type 0
Argument low high means count at n None = (at < count) × (Between low high n → ⊥)
Argument low high means count at n (Some v) =
    (at < count → Between low high n × (means v ≡ n)) × (count ≤ at → means v ≡ low)

-- what making a fact that reads so answers: none exactly where there is none, else a fact of just that meaning
abbrev pub Written : {V : Type 0} → ℤ → ℤ → (V → ℤ) → ReadFact → Option (Fact V) → Type 0
Written low high means read None = Writable low high read → ⊥
Written low high means read (Some f) =
    Writable low high read × (meaning means f ≡ read_meaning read) × SpareLow low means f
