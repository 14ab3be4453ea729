-- The sample table, and a run over it.
use Rattle.std.specs.Prelude.{◌≡◌, ℕ, [], ◌∷◌, reverse, pos, negsuc}
use Rattle.facts.specs.Meanings.{Meaning}
use Rattle.facts.specs.Places.{empty, held}
use Rattle.grammar.specs.declared.part.Operand.TheVariants.{Var}
use Rattle.grammar.specs.declared.part.Term.TheVariants.{One}
use Rattle.grammar.specs.declared.part.Test.TheVariants.{AtMost}
use Rattle.args.specs.declared.Args.TheVariants.{Two}
use Rattle.grammar.specs.Atoms.{Head}
use Rattle.grammar.specs.Parts.{Parts}
use Rattle.grammar.specs.Writing.{written}
use Rattle.laws.specs.Rules.{Rules}
use Rattle.laws.specs.Candidates.{W}
use Rattle.laws.specs.Machine.{Machine, new, feed, look, commit}
use Rattle.laws.specs.Traces.{Leads}
use Rattle.laws.specs.Worked.{late, f84, f90, gets, takes, shape}
use Rattle.tables.specs.Loaded.{rule_table}

-- a head of name 1 with two variables
abbrev pub fills : ℕ → ℕ → Head
fills c a = record { name = 1; args = Two (Var c) (Var a) }

-- rule 7: fill(C, A) is kept and fill(C, B) taken where A is at most B
abbrev pub rule_7 : Parts
rule_7 =
    record {
      label = 7;
      kept = fills 0 1 ∷ [];
      taken = fills 0 2 ∷ [];
      guards = record { test = AtMost; left = One (Var 1); right = One (Var 2) } ∷ [];
      body = [];
    }

-- its words
abbrev pub Written : Type 0
Written =
    written (rule_7 ∷ [])
    ≡ 0x10000007 ∷ 0x20010002 ∷ 0x60000000 ∷ 0x60000001 ∷ 0x30010002 ∷ 0x60000000 ∷ 0x60000002 ∷ 0x40000003 ∷ 0x60000001 ∷ 0x60000002 ∷ 0xF0000000 ∷ []

-- with whole counts
abbrev pub sample : Rules Meaning Parts
sample = rule_table (negsuc 134217727) (pos 134217727) (rule_7 ∷ [])

-- W at two places: four for a fact of name 1 and count 2, none for name 2
abbrev pub Widths : Type 0
Widths = (W sample 2 f84 ≡ 4) × (W sample 2 (late (pos 3) (pos 84)) ≡ 0)

-- two readings of one clutch: the slower is removed, and the lane that had taken it finds it gone
abbrev pub Run : Type 0
Run =
    (s : Machine Meaning Parts)
    × Leads sample (new (shape 2 4 1000))
    (reverse
    (gets (feed f84) 0 1 0 0
    ∷ gets (feed f90) 0 2 0 0
    ∷ takes 0 f90 1 0
    ∷ takes 1 f84 2 1
    ∷ gets (look 1) 2 7 1 0
    ∷ gets (commit 1) 0 7 1 0
    ∷ gets (look 0) 5 1 1 0
    ∷ []))
    s
    × (s.waiting ≡ []) × (s.store ≡ empty ∷ held 2 f84 ∷ [])
