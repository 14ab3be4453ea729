-- What loading words gives.
use Rattle.std.specs.Prelude.{◌≡◌, ℕ, List, ◌++◌, map, length, Ok, Err, Result}
use Rattle.grammar.specs.declared.reason.Reason.{Reason}
use Rattle.grammar.specs.declared.reason.Reason.TheVariants.{OutOfTurn as TurnReason, StrayBit as BitReason, OutOfRange as RangeReason}
use Rattle.grammar.specs.Parts.{Parts, parts}
use Rattle.grammar.specs.Writing.{standard, Formed, written}
use Rattle.grammar.specs.Faults.{Faulty, rule_words_to}
use Rattle.grammar.specs.Validity.{Valid}
use Rattle.rules.specs.declared.refusal.LoadFault.{LoadFault}
use Rattle.rules.specs.declared.refusal.LoadFault.TheVariants.{OutOfTurn, StrayBit, OutOfRange, Unbound, NoTaken, Label}
use Rattle.rules.specs.declared.refusal.Refusal.{Refusal}
use Rattle.rules.specs.declared.table.Table.{Table}
use Rattle.rules.specs.declared.loader.Loaded.{Loaded}
use Rattle.rules.specs.Faults.{FirstFault}

abbrev pub rules_of : Table → List Parts
rules_of t = map parts (t.rules.items)

-- the number of each fault
abbrev pub code : LoadFault → ℕ
code OutOfTurn = 10
code StrayBit = 11
code OutOfRange = 12
code Unbound = 13
code NoTaken = 14
code Label = 15

abbrev pub fault_of : Reason → LoadFault
fault_of TurnReason = OutOfTurn
fault_of BitReason = StrayBit
fault_of RangeReason = OutOfRange

-- the words begin with a well-formed table, and this is the first fault of its rules
abbrev pub Unsound : List ℕ → LoadFault → ℕ → Type 0
Unsound ws fault place =
    (rs : List Parts) × (us : List ℕ) × Formed standard rs × (ws ≡ written rs ++ us) × FirstFault rs fault place

-- faults of single words come first, over all the words; then those of rules
abbrev pub Wrong : List ℕ → LoadFault → ℕ → Type 0
Wrong ws OutOfTurn place = Faulty ws place TurnReason
Wrong ws StrayBit place = Faulty ws place BitReason
Wrong ws OutOfRange place = Faulty ws place RangeReason
Wrong ws Unbound place = Unsound ws Unbound place
Wrong ws NoTaken place = Unsound ws NoTaken place
Wrong ws Label place = Unsound ws Label place

-- an accepted table is valid, and the words begin with its writing; a refusal says what is wrong and where
abbrev pub Loads : List ℕ → Result Loaded Refusal → Type 0
Loads ws (Ok x) =
    Valid (rules_of x.table) × (x.used ≡ length (written (rules_of x.table)))
    × ((us : List ℕ) × (ws ≡ written (rules_of x.table) ++ us))
Loads ws (Err f) = Wrong ws f.fault f.place × (f.rules ≡ rule_words_to ws f.place)

-- this table was accepted
abbrev pub Given : List Parts → Result Loaded Refusal → Type 0
Given rs (Ok x) = (rules_of x.table ≡ rs) × (x.used ≡ length (written rs))
Given rs (Err f) = ⊥

-- words that begin with the writing of a valid table are accepted as that table
abbrev pub Accepts : List ℕ → Result Loaded Refusal → Type 0
Accepts ws r = (rs : List Parts) (us : List ℕ) → Valid rs → ws ≡ written rs ++ us → Given rs r
