-- How many words each part of a rule is written as.
use Rattle.std.specs.Prelude.{ℕ, ◌+◌, sum_by}
use Rattle.grammar.specs.declared.part.Operand.{Operand}
use Rattle.grammar.specs.declared.part.Term.{Term}
use Rattle.grammar.specs.declared.part.Term.TheVariants.{One, Sum, Diff}
use Rattle.grammar.specs.declared.part.Atom.{Atom}
use Rattle.grammar.specs.Atoms.{Head, BodyFact}
use Rattle.grammar.specs.declared.part.Guard.{Guard}
use Rattle.args.specs.Listed.{listed}
use Rattle.grammar.specs.Parts.{Parts}

abbrev pub operand_size : Operand → ℕ
operand_size a = 1

abbrev pub term_size : Term → ℕ
term_size (One a) = 1
term_size (Sum a b) = 3
term_size (Diff a b) = 3

-- an atom: its first word and its arguments
abbrev pub atom_size : {A : Type 0} → (A → ℕ) → Atom A → ℕ
atom_size size a = 1 + sum_by size (listed a.args)

abbrev pub head_size : Head → ℕ
head_size h = atom_size operand_size h

abbrev pub guard_size : Guard → ℕ
guard_size g = 1 + term_size g.left + term_size g.right

abbrev pub body_size : BodyFact → ℕ
body_size b = atom_size term_size b

-- the RULE word and the heads
abbrev pub heads_size : Parts → ℕ
heads_size r = 1 + sum_by head_size r.kept + sum_by head_size r.taken

abbrev pub rule_size : Parts → ℕ
rule_size r = heads_size r + sum_by guard_size r.guards + sum_by body_size r.body
