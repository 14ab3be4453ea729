-- The first faulty word of a table, told from the words of well-formed tables.
use Rattle.std.specs.Prelude.{◌≡◌, ℕ, suc, ◌^◌, ◌<◌, true, false, ◌⊎◌, List, [], ◌∷◌, ◌++◌, length, take, count_by, nat_eq}
use Rattle.facts.specs.Lists.{Nth}
use Rattle.words.specs.Words.{kind_of, clean, word}
use Rattle.grammar.specs.declared.reason.Reason.{Reason}
use Rattle.grammar.specs.declared.reason.Reason.TheVariants.{OutOfTurn, StrayBit, OutOfRange}
use Rattle.grammar.specs.Parts.{Parts}
use Rattle.grammar.specs.Writing.{Limits, standard, Formed, written}

-- these words are the beginning of some well-formed table
abbrev pub Begins : Limits → List ℕ → Type 0
Begins L xs = (rs : List Parts) × (us : List ℕ) × Formed L rs × (xs ++ us ≡ written rs)

-- these words begin with a whole well-formed table
abbrev pub Holds : Limits → List ℕ → Type 0
Holds L ws = (rs : List Parts) × (us : List ℕ) × Formed L rs × (ws ≡ written rs ++ us)

-- after these words a word of this kind can stand in some table, however many parts that table has
abbrev pub InTurn : List ℕ → ℕ → Type 0
InTurn xs k = (L : Limits) × (n : ℕ) × (n < 2 ^ 28) × Begins L (xs ++ word k n ∷ [])

-- why the word w cannot stand after the words xs: out of turn before a stray bit before a number or amount
abbrev pub Why : List ℕ → ℕ → Reason → Type 0
Why xs w OutOfTurn = InTurn xs (kind_of w) → ⊥
Why xs w StrayBit = InTurn xs (kind_of w) × (clean w ≡ false)
Why xs w OutOfRange = InTurn xs (kind_of w) × (clean w ≡ true)

-- the words end before END; or the word at the place is the first that no well-formed table has there
abbrev pub Stops : List ℕ → ℕ → Reason → Type 0
Stops ws place reason =
    ((place ≡ length ws) × (reason ≡ OutOfTurn))
    ⊎ ((w : ℕ) × Nth ws place w × (Begins standard (take (suc place) ws) → ⊥) × Why (take place ws) w reason)

pub record Faulty (ws : List ℕ) (place : ℕ) (reason : Reason) : Type 0 where
  -- the words before the place are the beginning of a well-formed table
  pub begins : Begins standard (take place ws)
  pub stops : Stops ws place reason
  -- no whole table stands at the front
  pub none : Holds standard ws → ⊥

-- how many RULE words stand up to a place and at it
abbrev pub rule_words_to : List ℕ → ℕ → ℕ
rule_words_to ws place = count_by (λ w. nat_eq (kind_of w) 1) (take (suc place) ws)
