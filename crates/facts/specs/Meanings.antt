-- What a fact means: all that is ever compared.
use Rattle.std.specs.Prelude.{ℕ, List, [], ◌∷◌, take, ℤ}
use Rattle.facts.specs.declared.fact.Fact.{Fact}

-- a name, a count, and the meanings of the first count arguments
pub record Meaning : Type 0 where
  pub name : ℕ
  pub count : ℕ
  pub args : List ℤ

-- the meaning of a fact, its values being read by `means`; what is spare is left out
abbrev pub meaning : {V : Type 0} → (V → ℤ) → Fact V → Meaning
meaning means f =
    record {
      name = f.name;
      count = f.count;
      args = take f.count (means f.args.0 ∷ (means f.args.1 ∷ (means f.args.2 ∷ [])));
    }

-- a fact that was read
abbrev pub ReadFact : Type 0
ReadFact = Fact ℤ

-- its first count arguments
abbrev pub numbers : ReadFact → List ℤ
numbers f = take f.count (f.args.0 ∷ (f.args.1 ∷ (f.args.2 ∷ [])))

abbrev pub read_meaning : ReadFact → Meaning
read_meaning f = record { name = f.name; count = f.count; args = numbers f }
