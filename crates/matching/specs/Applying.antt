-- When a rule applies to facts, chosen one for each position, and the facts of its body.
use Rattle.std.specs.Prelude.{ℕ, Bool, true, false, cond, ◌&&◌, List, ◌++◌, map, ℤ, int_le, int_lt}
use Rattle.facts.specs.Meanings.{Meaning}
use Rattle.grammar.specs.Atoms.{Head, BodyFact}
use Rattle.grammar.specs.declared.part.Term.{Term}
use Rattle.args.specs.Listed.{listed, amount}
use Rattle.grammar.specs.Parts.{Parts}
use Rattle.matching.specs.declared.verdict.Verdict.{Verdict}
use Rattle.matching.specs.declared.verdict.Verdict.TheVariants.{NoMatch, OutsideEnds, Applies}
use Rattle.std.specs.List.{list_all}
use Rattle.matching.specs.Terms.{term_value, holds}
use Rattle.matching.specs.Heads.{all_fit, fits_at, met, bound, agree}

-- the heads by position: those kept, then those taken
abbrev pub heads : Parts → List Head
heads r = r.kept ++ r.taken

-- name and count of a fact agree with the head at a position
abbrev pub fits : Parts → ℕ → Meaning → Bool
fits r j f = fits_at (heads r) j f

-- what the rule's variables mean by facts
abbrev pub values : Parts → List Meaning → List ℤ
values r fs = bound (heads r) fs

-- between the ends
abbrev pub within : ℤ → ℤ → ℤ → Bool
within low high n = int_le low n && int_le n high

-- so is every value of a body fact, under given values of the variables
abbrev pub fact_within : ℤ → ℤ → List ℤ → BodyFact → Bool
fact_within low high ns b = list_all (λ (t : Term). within low high (term_value ns t)) (listed b.args)

-- the first condition: names and counts agree
abbrev pub heads_fit : Parts → List Meaning → Bool
heads_fit r fs = all_fit (heads r) fs

-- the second: constants meet equal numbers, and each variable meets equal numbers wherever it stands in the heads
abbrev pub numbers_agree : Parts → List Meaning → Bool
numbers_agree r fs = agree (values r fs) (met (heads r) fs)

-- the third: every guard holds in whole numbers
abbrev pub guards_hold : Parts → List Meaning → Bool
guards_hold r fs = list_all (holds (values r fs)) r.guards

-- the fourth: every body value lies between the ends
abbrev pub in_ends : ℤ → ℤ → Parts → List Meaning → Bool
in_ends low high r fs = list_all (fact_within low high (values r fs)) r.body

-- heads and guards hold: the first three conditions
abbrev pub matches : Parts → List Meaning → Bool
matches r fs = heads_fit r fs && (numbers_agree r fs && guards_hold r fs)

-- which of the three it is
abbrev pub judged : Bool → Bool → Verdict
judged false ends = NoMatch
judged true false = OutsideEnds
judged true true = Applies

abbrev pub verdict : ℤ → ℤ → Parts → List Meaning → Verdict
verdict low high r fs = judged (matches r fs) (in_ends low high r fs)

-- the number itself where it lies between the ends, else the nearer end
abbrev pub clamped : ℤ → ℤ → ℤ → ℤ
clamped low high n = cond (int_lt n low) low (cond (int_lt high n) high n)

-- a body fact under given values of the variables
abbrev pub written : ℤ → ℤ → List ℤ → BodyFact → Meaning
written low high ns b =
    record {
      name = b.name;
      count = amount b.args;
      args = map (λ (t : Term). clamped low high (term_value ns t)) (listed b.args);
    }

-- the body's facts in their order
abbrev pub body : ℤ → ℤ → Parts → List Meaning → List Meaning
body low high r fs = map (λ (b : BodyFact). written low high (values r fs) b) r.body

-- the same with its values as they are
abbrev pub exact : List ℤ → BodyFact → Meaning
exact ns b = record { name = b.name; count = amount b.args; args = map (term_value ns) (listed b.args) }

abbrev pub exact_body : Parts → List Meaning → List Meaning
exact_body r fs = map (exact (values r fs)) r.body
