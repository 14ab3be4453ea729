-- Arguments as a list.
use Rattle.std.specs.Prelude.{ℕ, List, [], ◌∷◌}
use Rattle.args.specs.declared.Args.{Args}
use Rattle.args.specs.declared.Args.TheVariants.{Zero, One, Two, Three}

-- the arguments in their order
abbrev pub listed : {X : Type 0} → Args X → List X
listed Zero = []
listed (One a) = a ∷ []
listed (Two a b) = a ∷ (b ∷ [])
listed (Three a b c) = a ∷ (b ∷ (c ∷ []))

-- how many there are
abbrev pub amount : {X : Type 0} → Args X → ℕ
amount Zero = 0
amount (One a) = 1
amount (Two a b) = 2
amount (Three a b c) = 3
