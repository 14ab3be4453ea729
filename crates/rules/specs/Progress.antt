-- What readers give, and what those that fill a list have read so far.
use Rattle.std.specs.Prelude.{◌≡◌, ℕ, List, ◌++◌, Ok, Err, MatchResult, Result}
use Rattle.std.proofs.Common.{Bor}
use Rattle.grammar.specs.Reading.{Parsed, ok, no}
use Rattle.rules.specs.declared.fault.Fault.{Fault}

-- a reader's result: a value, seen as what was read, and the words after it; or the fault
abbrev pub GivesAs : {A B : Type 0} → (A → B) → Parsed B → Result (A × Bor (List ℕ)) Fault → Type 0
GivesAs view p (Ok x) = p ≡ ok (view x.0) x.1.now
GivesAs view p (Err fault) = p ≡ no fault.reason fault.left

abbrev pub Gives : {A : Type 0} → Parsed A → Result (A × Bor (List ℕ)) Fault → Type 0
Gives p r = GivesAs (λ x. x) p r

-- what was read, after values read before
abbrev pub front : {A : Type 0} → List A → Parsed (List A) → Parsed (List A)
front xs (ok ys us) = ok (xs ++ ys) us
front xs (no r n) = no r n

-- the result of a reader that adds what it reads: the values now, and the words after them; or the fault
abbrev pub Adds : {A : Type 0} → List A → Parsed (List A) → List A → Result (Bor (List ℕ)) Fault → Type 0
Adds old p new r = MatchResult r (λ rest. front old p ≡ ok new rest.now) (λ fault. front old p ≡ no fault.reason fault.left)
