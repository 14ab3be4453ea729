-- What a report on a table says.
use Rattle.std.specs.Prelude.{◌≡◌, ℕ, ◌/◌, List, ◌++◌, length, codes, Result}
use Rattle.input.specs.Bytes.{words_in}
use Rattle.rules.specs.declared.loader.Loaded.{Loaded}
use Rattle.rules.specs.declared.refusal.Refusal.{Refusal}
use Rattle.rules.specs.Loading.{Loads, Accepts}
use Rattle.answers.specs.Answers.{answered, load_line}

-- its first line is the answer of a load of the words that the bytes hold
abbrev pub Reports : List ℕ → List ℕ → Type 0
Reports bs out =
    (r : Result Loaded Refusal) × (rest : List ℕ)
    × Loads (words_in bs (length bs / 4)) r × Accepts (words_in bs (length bs / 4)) r
    × (out ≡ load_line (answered r) ++ (codes "\n" ++ rest))
