-- Worked runs: three small tables, and what a machine answers under them.
use Rattle.std.specs.Prelude.{◌≡◌, ℕ, Bool, true, false, ◌&&◌, List, [], ◌∷◌, reverse, drop, ℤ, pos, ◌+ℤ◌, ◌==◌, int_le, nat_le, slice_index_or}
use Rattle.facts.specs.Meanings.{Meaning}
use Rattle.facts.specs.Places.{empty, held}
use Rattle.laws.specs.Rules.{Rules}
use Rattle.laws.specs.Candidates.{W}
use Rattle.laws.specs.Machine.{Machine, Shape, new, Call, feed, take, look, commit, says}
use Rattle.laws.specs.Traces.{Entry, entry, none, one, Leads}
use Rattle.laws.specs.Law.{AtRest}

-- a clutch c and its fill time a, and a late one
abbrev pub fill : ℤ → ℤ → Meaning
fill c a = record { name = 1; count = 2; args = c ∷ a ∷ [] }

abbrev pub late : ℤ → ℤ → Meaning
late c a = record { name = 2; count = 2; args = c ∷ a ∷ [] }

abbrev pub is_fill : Meaning → Bool
is_fill f = f.name == 1 && f.count == 2

abbrev pub arg : ℕ → Meaning → ℤ
arg k f = slice_index_or f.args k (pos 0)

-- Rule 7: fill(C, A) is kept and fill(C, B) taken where A is at most B; no body.
abbrev pub quicker : List Meaning → Bool
quicker [] = false
quicker (f ∷ []) = false
quicker (f ∷ g ∷ []) =
    is_fill f && (is_fill g && (int_le (arg 0 f) (arg 0 g) && (int_le (arg 0 g) (arg 0 f) && int_le (arg 1 f) (arg 1 g))))
quicker (f ∷ g ∷ h ∷ fs) = false

abbrev pub keeping : Rules Meaning ℕ
keeping =
    record {
      table = 7 ∷ [];
      label = λ r. r;
      heads = λ r. 2;
      kept = λ r. 1;
      fits = λ r j f. is_fill f;
      matches = λ r fs. quicker fs;
      in_ends = λ r fs. true;
      body = λ r fs. [];
      short = λ f. nat_le f.count 3;
    }

-- Rule 9: fill(C, A) is taken and late(C, A + 1) written; values end at 65535.
abbrev pub one_fill : List Meaning → Bool
one_fill [] = false
one_fill (f ∷ []) = is_fill f
one_fill (f ∷ g ∷ fs) = false

abbrev pub raised : List Meaning → List Meaning
raised [] = []
raised (f ∷ fs) = late (arg 0 f) (arg 1 f +ℤ pos 1) ∷ []

abbrev pub within : List Meaning → Bool
within [] = true
within (f ∷ fs) = int_le (arg 1 f +ℤ pos 1) (pos 65535)

abbrev pub raising : Rules Meaning ℕ
raising =
    record {
      table = 9 ∷ [];
      label = λ r. r;
      heads = λ r. 1;
      kept = λ r. 0;
      fits = λ r j f. is_fill f;
      matches = λ r fs. one_fill fs;
      in_ends = λ r fs. within fs;
      body = λ r fs. raised fs;
      short = λ f. nat_le f.count 3;
    }

-- Rule 7 again, with a body: late(C, B + 1).
abbrev pub reporting : Rules Meaning ℕ
reporting =
    record {
      table = 7 ∷ [];
      label = λ r. r;
      heads = λ r. 2;
      kept = λ r. 1;
      fits = λ r j f. is_fill f;
      matches = λ r fs. quicker fs;
      in_ends = λ r fs. true;
      body = λ r fs. raised (drop 1 fs);
      short = λ f. nat_le f.count 3;
    }

-- the calls and answers of a run of a new machine, in order, and what the machine then is
abbrev pub Runs : Rules Meaning ℕ → Shape → List (Entry Meaning) → (Machine Meaning ℕ → Type 0) → Type 0
Runs T S run Q = (s : Machine Meaning ℕ) × Leads T (new S) (reverse run) s × Q s

-- a call with its answer, which takes no fact; a take that takes one, with its number and place
abbrev pub gets : Call Meaning → ℕ → ℕ → ℕ → ℕ → Entry Meaning
gets c code p q r = entry c (says code p q r) none

abbrev pub takes : ℕ → Meaning → ℕ → ℕ → Entry Meaning
takes l f n p = entry (take l) (says 0 n p 0) (one f)

abbrev pub f80 : Meaning
f80 = fill (pos 3) (pos 80)

abbrev pub f84 : Meaning
f84 = fill (pos 3) (pos 84)

abbrev pub f90 : Meaning
f90 = fill (pos 3) (pos 90)

abbrev pub shape : ℕ → ℕ → ℕ → Shape
shape P capacity limit = record { places = P; capacity = capacity; limit = limit }

-- Two readings of one clutch: the slower is removed, and the lane that had taken it finds it gone.
abbrev pub Removal : Type 0
Removal =
    Runs keeping (shape 2 4 1000)
    (gets (feed f84) 0 1 0 0
    ∷ gets (feed f90) 0 2 0 0
    ∷ takes 0 f90 1 0
    ∷ takes 1 f84 2 1
    ∷ gets (look 1) 2 7 1 0
    ∷ gets (commit 1) 0 7 1 0
    ∷ gets (look 0) 5 1 1 0
    ∷ [])
    (λ s. (s.waiting ≡ []) × (s.store ≡ empty ∷ held 2 f84 ∷ []))

-- Two lanes find one partner: the second to commit finds it missing, and searches on.
abbrev pub PartnerGone : Type 0
PartnerGone =
    Runs keeping (shape 3 4 1000)
    (gets (feed f80) 0 1 0 0
    ∷ gets (feed f84) 0 2 0 0
    ∷ gets (feed f90) 0 3 0 0
    ∷ takes 0 f90 1 0
    ∷ takes 1 f84 2 1
    ∷ takes 2 f80 3 2
    ∷ gets (look 1) 2 7 1 0
    ∷ gets (look 2) 2 7 1 0
    ∷ gets (commit 2) 0 7 1 0
    ∷ gets (commit 1) 6 1 0 0
    ∷ gets (look 1) 1 2 0 0
    ∷ [])
    (λ s. s.store ≡ empty ∷ held 2 f84 ∷ held 3 f80 ∷ [])

-- Two lanes find one match from both its sides: the second to commit finds its own fact gone.
abbrev pub OwnGone : Type 0
OwnGone =
    Runs keeping (shape 2 4 1000)
    (gets (feed f84) 0 1 0 0
    ∷ gets (feed f90) 0 2 0 0
    ∷ takes 0 f90 1 0
    ∷ takes 1 f84 2 1
    ∷ gets (look 0) 1 1 0 0
    ∷ gets (look 0) 1 2 0 0
    ∷ gets (look 0) 1 3 0 0
    ∷ gets (look 0) 2 7 2 0
    ∷ gets (look 1) 2 7 1 0
    ∷ gets (commit 1) 0 7 1 0
    ∷ gets (commit 0) 5 4 1 0
    ∷ gets (take 0) 22 0 0 0
    ∷ gets (look 1) 1 2 0 0
    ∷ [])
    (λ s. s.store ≡ empty ∷ held 2 f84 ∷ [])

-- A fact alone: its lane tries all four candidates, W of them, and the look after those ends at rest.
abbrev pub Rest : Type 0
Rest =
    Runs keeping (shape 2 4 1000)
    (gets (feed f84) 0 1 0 0
    ∷ takes 0 f84 1 0
    ∷ gets (look 0) 1 1 0 0
    ∷ gets (look 0) 1 2 0 0
    ∷ gets (look 0) 1 3 0 0
    ∷ gets (look 0) 1 4 0 0
    ∷ gets (look 0) 4 5 1 0
    ∷ [])
    (λ s. AtRest s)

abbrev pub long : Meaning
long = record { name = 1; count = 4; args = [] }

-- Each refusal of feed and take but one, lanes that are not there, and lanes in another state.
abbrev pub Refusals : Type 0
Refusals =
    Runs keeping (shape 1 1 2)
    (gets (feed long) 26 0 0 0
    ∷ gets (take 8) 20 0 0 0
    ∷ gets (feed f84) 0 1 0 0
    ∷ gets (feed f84) 25 0 0 0
    ∷ gets (feed long) 25 0 0 0
    ∷ gets (look 8) 20 0 0 0
    ∷ gets (commit 8) 20 0 0 0
    ∷ gets (look 7) 21 0 0 0
    ∷ gets (look 0) 21 0 0 0
    ∷ gets (commit 0) 21 0 0 0
    ∷ takes 0 f84 1 0
    ∷ gets (take 0) 21 0 0 0
    ∷ gets (commit 0) 21 0 0 0
    ∷ gets (take 1) 22 0 0 0
    ∷ gets (feed f90) 0 1 0 0
    ∷ gets (take 1) 24 0 0 0
    ∷ [])
    (λ s. s.waiting ≡ f90 ∷ [])

-- The one left: no number may be given. None waiting comes before it, and no place after it.
abbrev pub NoNumber : Type 0
NoNumber =
    Runs keeping (shape 0 1 0) (gets (take 0) 22 0 0 0 ∷ gets (feed f84) 0 1 0 0 ∷ gets (take 0) 23 0 0 0 ∷ [])
    (λ s. s.waiting ≡ f84 ∷ [])

-- A body value outside the ends, and a commit that has to wait for a free place in the list.
abbrev pub Raise : Type 0
Raise =
    Runs raising (shape 3 1 1000)
    (gets (feed (fill (pos 3) (pos 65535))) 0 1 0 0
    ∷ takes 0 (fill (pos 3) (pos 65535)) 1 0
    ∷ gets (look 0) 3 9 0 0
    ∷ gets (look 0) 4 2 1 0
    ∷ gets (feed f84) 0 1 0 0
    ∷ takes 0 f84 2 1
    ∷ gets (look 0) 2 9 0 0
    ∷ gets (take 0) 21 0 0 0
    ∷ gets (look 0) 21 0 0 0
    ∷ gets (feed f90) 0 1 0 0
    ∷ gets (commit 0) 25 0 0 0
    ∷ takes 1 f90 3 2
    ∷ gets (commit 0) 0 9 0 1
    ∷ gets (look 0) 21 0 0 0
    ∷ [])
    (λ s. s.waiting ≡ late (pos 3) (pos 85) ∷ [])

-- Three lanes find the same slow reading. One removes it, and its body fills the list: the others find their partner
-- and their own fact gone before they find the list too full.
abbrev pub GoneFirst : Type 0
GoneFirst =
    Runs reporting (shape 3 3 1000)
    (gets (feed f80) 0 1 0 0
    ∷ gets (feed f84) 0 2 0 0
    ∷ gets (feed f90) 0 3 0 0
    ∷ takes 0 f90 1 0
    ∷ takes 1 f84 2 1
    ∷ takes 2 f80 3 2
    ∷ gets (look 0) 1 1 0 0
    ∷ gets (look 0) 1 2 0 0
    ∷ gets (look 0) 1 3 0 0
    ∷ gets (look 0) 1 4 0 0
    ∷ gets (look 0) 2 7 2 0
    ∷ gets (look 1) 2 7 1 0
    ∷ gets (look 2) 2 7 1 0
    ∷ gets (feed f84) 0 1 0 0
    ∷ gets (feed f84) 0 2 0 0
    ∷ gets (commit 2) 0 7 1 1
    ∷ gets (commit 1) 6 1 0 0
    ∷ gets (commit 0) 5 5 1 0
    ∷ [])
    (λ s. s.waiting ≡ f84 ∷ f84 ∷ late (pos 3) (pos 91) ∷ [])

-- W at two places: four for a fact of name 1 and count 2, none for another name; at four places eight
abbrev pub Widths : Type 0
Widths = (W keeping 2 f84 ≡ 4) × (W keeping 2 (late (pos 3) (pos 84)) ≡ 0) × (W keeping 4 f84 ≡ 8)
