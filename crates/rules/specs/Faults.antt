-- What is wrong with a well-formed table whose rules are not all valid.
use Rattle.std.specs.Prelude.{◌≡◌, ℕ, suc, ◌+◌, ◌≤◌, List, length, take}
use Rattle.std.specs.List.{AllByRecursion}
use Rattle.facts.specs.Lists.{Nth}
use Rattle.grammar.specs.Parts.{Parts}
use Rattle.grammar.specs.Writing.{heads_words}
use Rattle.grammar.specs.Validity.{Bound, Sound, Rising, last_label, FirstFree, rule_at}
use Rattle.rules.specs.declared.refusal.LoadFault.{LoadFault}
use Rattle.rules.specs.declared.refusal.LoadFault.TheVariants.{OutOfTurn, StrayBit, OutOfRange, Unbound, NoTaken, Label}

-- what is wrong with the rule r, by the word at the offset n of its words; `last` is the label before it:
-- an unbound variable before no taken head before the label
abbrev pub RuleFault : Parts → ℕ → LoadFault → ℕ → Type 0
RuleFault r last OutOfTurn n = ⊥
RuleFault r last StrayBit n = ⊥
RuleFault r last OutOfRange n = ⊥
RuleFault r last Unbound n = (m : ℕ) × FirstFree r m × (n ≡ suc (length (heads_words r)) + m)
RuleFault r last NoTaken n = Bound r × (length r.taken ≡ 0) × (n ≡ 0)
RuleFault r last Label n = Sound r × (r.label ≤ last) × (n ≡ 0)

-- the first rule with a fault, those before it being valid
pub record FirstFault (rs : List Parts) (fault : LoadFault) (place : ℕ) : Type 0 where
  pub index : ℕ
  pub rule : Parts
  pub offset : ℕ
  pub stands : Nth rs index rule
  pub sound : AllByRecursion Sound (take index rs)
  pub rising : Rising 0 (take index rs)
  pub wrong : RuleFault rule (last_label 0 (take index rs)) fault offset
  pub at : place ≡ rule_at rs index + offset
