-- The documented number of a load's answer, and its two numbers.
use Rattle.std.specs.Prelude.{ℕ, List, ◌++◌, length, Ok, Err, codes, decimal, Result}
use Rattle.rules.specs.declared.loader.Loaded.{Loaded}
use Rattle.rules.specs.declared.refusal.Refusal.{Refusal}
use Rattle.rules.specs.Loading.{code}
use Rattle.answers.specs.declared.load.LoadAnswer.{LoadAnswer}

-- accepted: 0, how many rules, how many words used; refused: the fault's number, the word's place, RULE words up to it
abbrev pub answered : Result Loaded Refusal → LoadAnswer
answered (Ok x) = record { code = 0; p = length x.table.rules.items; q = x.used }
answered (Err f) = record { code = code f.fault; p = f.place; q = f.rules }

-- the line that says so
abbrev pub load_line : LoadAnswer → List ℕ
load_line a = codes "load " ++ (decimal a.code ++ (codes " " ++ (decimal a.p ++ (codes " " ++ decimal a.q))))
