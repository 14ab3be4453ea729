-- Heads against facts: which fit, which operand meets which number, and what the variables then mean.
use Rattle.std.specs.Prelude.{ℕ, zero, suc, Bool, true, false, cond, ◌&&◌, List, [], ◌∷◌, ◌++◌, replicate, ℤ, pos, ◌==◌, slice_set}
use Rattle.facts.specs.Meanings.{Meaning}
use Rattle.grammar.specs.declared.part.Operand.{Operand}
use Rattle.grammar.specs.declared.part.Operand.TheVariants.{Var, Const}
use Rattle.grammar.specs.Atoms.{Head}
use Rattle.args.specs.Listed.{listed, amount}
use Rattle.std.specs.List.{list_all}
use Rattle.matching.specs.Terms.{equal, operand_value}

-- name and count of a head and a fact agree
abbrev pub fits_head : Head → Meaning → Bool
fits_head h f = h.name == f.name && amount h.args == f.count

-- so they do at each position, and there are as many facts as heads
abbrev pub all_fit : List Head → List Meaning → Bool
all_fit [] [] = true
all_fit [] (f ∷ fs) = false
all_fit (h ∷ hs) [] = false
all_fit (h ∷ hs) (f ∷ fs) = fits_head h f && all_fit hs fs

-- the head at the position j, counted from 0, fits; past the last head nothing does
abbrev pub fits_at : List Head → ℕ → Meaning → Bool
fits_at [] j f = false
fits_at (h ∷ hs) zero f = fits_head h f
fits_at (h ∷ hs) (suc j) f = fits_at hs j f

-- an operand of a head, and the number that it meets in the fact
pub record Met : Type 0 where
  pub operand : Operand
  pub number : ℤ

abbrev pub met_args : List Operand → List ℤ → List Met
met_args [] ns = []
met_args (o ∷ os) [] = []
met_args (o ∷ os) (n ∷ ns) = record { operand = o; number = n } ∷ met_args os ns

-- all operands of the heads with the numbers that they meet, in order
abbrev pub met : List Head → List Meaning → List Met
met [] fs = []
met (h ∷ hs) [] = []
met (h ∷ hs) (f ∷ fs) = met_args (listed h.args) f.args ++ met hs fs

-- a variable takes the number that it meets; one past the end of the values takes none
abbrev pub bind_one : List ℤ → Operand → ℤ → List ℤ
bind_one values (Var v) n = slice_set values v n
bind_one values (Const c) n = values

abbrev pub bind_all : List ℤ → List Met → List ℤ
bind_all values [] = values
bind_all values (m ∷ ms) = bind_all (bind_one values m.operand m.number) ms

-- eight variables, 0 each until it meets a number
abbrev pub unbound : List ℤ
unbound = replicate 8 (pos 0)

-- what the variables mean by facts that fit; where some fact does not fit, nothing is met
abbrev pub bound : List Head → List Meaning → List ℤ
bound hs fs = cond (all_fit hs fs) (bind_all unbound (met hs fs)) unbound

-- every operand means the number that it meets
abbrev pub agree : List ℤ → List Met → Bool
agree values ms = list_all (λ (m : Met). equal (operand_value values m.operand) m.number) ms
