-- The variables of a rule's heads as the bits of one number.
use Rattle.std.specs.Prelude.{◌≡◌, ℕ, ◌/◌, ◌%◌, ◌^◌, Bool, false, cond, not, List, [], ◌∷◌, ◌==◌, bit_or}
use Rattle.std.specs.List.{AllByRecursion}
use Rattle.words.specs.Words.{kind_of, payload_of}
use Rattle.grammar.specs.declared.part.Operand.{Operand}
use Rattle.grammar.specs.declared.part.Operand.TheVariants.{Var, Const}
use Rattle.grammar.specs.Atoms.{Head}
use Rattle.args.specs.Listed.{listed}

-- the variable v is among them
abbrev pub has : ℕ → ℕ → Bool
has bits v = bits / 2 ^ v % 2 == 1

abbrev pub bind_operand : ℕ → Operand → ℕ
bind_operand bits (Var v) = bit_or bits (2 ^ v)
bind_operand bits (Const n) = bits

abbrev pub bind_all : ℕ → List Operand → ℕ
bind_all bits [] = bits
bind_all bits (x ∷ xs) = bind_all (bind_operand bits x) xs

-- the variables of one head more
abbrev pub bind_head : ℕ → Head → ℕ
bind_head bits h = bind_all bits (listed h.args)

-- a VAR word whose variable is not among them
abbrev pub free_of : ℕ → ℕ → Bool
free_of bits w = cond (kind_of w == 6) (not (has bits (payload_of w))) false

-- every variable of these words is among them
abbrev pub Within : ℕ → List ℕ → Type 0
Within bits ws = AllByRecursion (λ w. free_of bits w ≡ false) ws
