-- The candidates of a fact, in the order in which looks try them, and their count W.
use Rattle.std.specs.Prelude.{ℕ, zero, suc, ◌+◌, ◌-◌, ◌*◌, ◌^◌, cond, List, [], ◌∷◌, map, length, take as front, sum_by}
use Rattle.std.specs.List.{flat_map, range_with_len}
use Rattle.laws.specs.Rules.{Rules}

-- a rule, the position of the own fact, and a place for each position, the own place at the own position
pub record Candidate (R : Type 0) : Type 0 where
  pub rule : R
  pub pos : ℕ
  pub places : List ℕ

-- all lists of n places out of P, the last counting fastest
abbrev pub tuples : ℕ → ℕ → List (List ℕ)
tuples P zero = [] ∷ []
tuples P (suc n) = flat_map (λ (p : ℕ). map (λ (ps : List ℕ). p ∷ ps) (tuples P n)) (range_with_len 0 P)

-- all lists of n places out of P with the own place at position j, the last of the others counting fastest
abbrev pub ways : ℕ → ℕ → ℕ → ℕ → List (List ℕ)
ways P own zero j = []
ways P own (suc n) zero = map (λ (ps : List ℕ). own ∷ ps) (tuples P n)
ways P own (suc n) (suc j) = flat_map (λ (p : ℕ). map (λ (ps : List ℕ). p ∷ ps) (ways P own n j)) (range_with_len 0 P)

module _ {F R : Type 0} (T : Rules F R) where
  -- with the own fact at position j of the rule: none unless name and count agree
  abbrev pub at_position : ℕ → ℕ → F → R → ℕ → List (Candidate R)
  at_position P own f r j =
      cond (T.fits r j f) (map (λ (ps : List ℕ). record { rule = r; pos = j; places = ps }) (ways P own (T.heads r) j)) []

  -- those of one rule, positions rising
  abbrev pub of_rule : ℕ → ℕ → F → R → List (Candidate R)
  of_rule P own f r = flat_map (λ (j : ℕ). at_position P own f r j) (range_with_len 0 (T.heads r))

  -- the candidates of the fact f that stands at the place own, out of P places: rules in table order
  abbrev pub candidates : ℕ → ℕ → F → List (Candidate R)
  candidates P own f = flat_map (λ (r : R). of_rule P own f r) T.table

  -- how many there are at one position of a rule: P to the power (heads − 1) if name and count agree
  abbrev pub block : ℕ → F → R → ℕ → ℕ
  block P f r j = cond (T.fits r j f) (P ^ (T.heads r - 1)) 0

  -- those of a rule before position j
  abbrev pub before_position : ℕ → F → R → ℕ → ℕ
  before_position P f r j = sum_by (λ (i : ℕ). block P f r i) (range_with_len 0 j)

  -- W: the sum over all positions of all rules
  abbrev pub W : ℕ → F → ℕ
  W P f = sum_by (λ (r : R). before_position P f r (T.heads r)) T.table

  -- those of the rules before the i-th
  abbrev pub before_rule : ℕ → F → ℕ → ℕ
  before_rule P f i = sum_by (λ (r : R). before_position P f r (T.heads r)) (front i T.table)

-- places as the digits of a number in base P, the last counting fastest
abbrev pub digits : ℕ → List ℕ → ℕ
digits P [] = 0
digits P (p ∷ ps) = p * P ^ length ps + digits P ps
