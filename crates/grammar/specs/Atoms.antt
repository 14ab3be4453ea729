-- Heads and body facts: atoms over operands and over terms.
use Rattle.grammar.specs.declared.part.Operand.{Operand}
use Rattle.grammar.specs.declared.part.Term.{Term}
use Rattle.grammar.specs.declared.part.Atom.{Atom}

abbrev pub Head : Type 0
Head = Atom Operand

abbrev pub BodyFact : Type 0
BodyFact = Atom Term
