-- Operands, terms and guards in whole numbers, under given values of the variables.
use Rattle.std.specs.Prelude.{Bool, not, ◌&&◌, List, ℤ, pos, ◌+ℤ◌, ◌-ℤ◌, int_le, int_lt, slice_index_or}
use Rattle.grammar.specs.declared.part.Operand.{Operand}
use Rattle.grammar.specs.declared.part.Operand.TheVariants.{Var, Const}
use Rattle.grammar.specs.declared.part.Term.{Term}
use Rattle.grammar.specs.declared.part.Term.TheVariants.{One, Sum, Diff}
use Rattle.grammar.specs.declared.part.Test.{Test}
use Rattle.grammar.specs.declared.part.Test.TheVariants.{Equal, NotEqual, Less, AtMost}
use Rattle.grammar.specs.declared.part.Guard.{Guard}

-- two whole numbers are equal
abbrev pub equal : ℤ → ℤ → Bool
equal a b = int_le a b && int_le b a

-- the value of an operand, the variables' values being listed; a variable past their end is 0
abbrev pub operand_value : List ℤ → Operand → ℤ
operand_value values (Var v) = slice_index_or values v (pos 0)
operand_value values (Const c) = c

-- the value of a term: exact, it never wraps
abbrev pub term_value : List ℤ → Term → ℤ
term_value values (One a) = operand_value values a
term_value values (Sum a b) = operand_value values a +ℤ operand_value values b
term_value values (Diff a b) = operand_value values a -ℤ operand_value values b

abbrev pub compares : Test → ℤ → ℤ → Bool
compares Equal a b = equal a b
compares NotEqual a b = not (equal a b)
compares Less a b = int_lt a b
compares AtMost a b = int_le a b

abbrev pub holds : List ℤ → Guard → Bool
holds values g = compares g.test (term_value values g.left) (term_value values g.right)
