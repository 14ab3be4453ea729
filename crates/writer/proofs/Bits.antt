-- A variable more among the bits.
use Rattle.std.proofs.Common.{◌≡◌, ℕ, zero, suc, ◌+◌, ◌-◌, ◌*◌, ◌/◌, ◌%◌, ◌^◌, ◌<◌, ◌≤◌, Bool, true, false, eqb, ◌||◌, ◌⊎◌, List, [], ◌∷◌, sym, refl, ap, ◌∙◌, inl, inr, ⊎_elim, one-mul, arith}
use native.Mathlib.Nat.{div-eq_of_lt, pow-le-pow_right, pow-succ'}
use lib.Bits.{bit_or, or_zero_r}
use Rattle.std.specs.List.{list_any}
use Rattle.std.proofs.lemmas.Nat.{or_shr, or_mod, pow-add, pow_below, shl-shr}
use Rattle.std.proofs.lemmas.Bool.{cases_order, eq-eqb, ne_eqb}
use Rattle.grammar.specs.declared.part.Operand.{Operand}
use Rattle.grammar.specs.declared.part.Operand.TheVariants.{Var, Const}
use Rattle.grammar.specs.Atoms.{Head}
use Rattle.args.specs.Listed.{listed}
use Rattle.grammar.specs.Validity.{is_var, head_has}
use Rattle.writer.specs.Variables.{has, bind_operand, bind_all, bind_head}

-- no number below 256 has a bit past the eighth
pub has_past : (bits v : ℕ) → bits < 2 ^ 8 → 7 < v → has bits v ≡ false
has_past bits v h k =
    let p : 0 < 2 = omega arith in
    let i : 8 ≤ v = omega arith in
    let q : 2 ^ 8 ≤ 2 ^ v = pow-le-pow_right p i in
    let l : bits < 2 ^ v = omega arith in
    ap (λ (n : ℕ). eqb (n % 2) 1) (div-eq_of_lt l)

-- the lowest bit of a union
low : (x y : ℕ) → bit_or x y % 2 ≡ bit_or (x % 2) (y % 2)
low x y = or_mod x y 1

abbrev Bit : ℕ → Type 0
Bit n = (n ≡ 0) ⊎ (n ≡ 1)

bit : (x : ℕ) → Bit (x % 2)
bit x = go (x % 2) (omega arith)
  where
    go : (n : ℕ) → n < 2 → Bit n
    go zero h = inl refl
    go (suc zero) h = inr refl
    go (suc (suc n)) h = absurd (omega arith)

or_one : (x : ℕ) → bit_or (x % 2) 1 ≡ 1
or_one x = ⊎_elim (λ (e : x % 2 ≡ 0). ap (λ (n : ℕ). bit_or n 1) e) (λ (e : x % 2 ≡ 1). ap (λ (n : ℕ). bit_or n 1) e) (bit x)

module _ (b v u : ℕ) where
  shifted : bit_or b (2 ^ v) / 2 ^ u % 2 ≡ bit_or (b / 2 ^ u % 2) (2 ^ v / 2 ^ u % 2)
  shifted = ap (λ (n : ℕ). n % 2) (or_shr b (2 ^ v) u) ∙ low (b / 2 ^ u) (2 ^ v / 2 ^ u)

  unset : 2 ^ v / 2 ^ u % 2 ≡ 0 → has (bit_or b (2 ^ v)) u ≡ has b u
  unset e = ap (λ (n : ℕ). eqb n 1) (shifted ∙ ap (bit_or (b / 2 ^ u % 2)) e ∙ or_zero_r (b / 2 ^ u % 2))

  same : v ≡ u → has (bit_or b (2 ^ v)) u ≡ true
  same e =
      let d : 2 ^ v / 2 ^ u % 2 ≡ 1 = ap (λ (n : ℕ). 2 ^ n / 2 ^ u % 2) e ∙ ap (λ (n : ℕ). n / 2 ^ u % 2) (sym (one-mul (2 ^ u))) ∙ ap (λ (n : ℕ). n % 2) (shl-shr 1 u) in
      ap (λ (n : ℕ). eqb n 1) (shifted ∙ ap (bit_or (b / 2 ^ u % 2)) d ∙ or_one (b / 2 ^ u))

  lower : v < u → has (bit_or b (2 ^ v)) u ≡ has b u
  lower h = unset (ap (λ (n : ℕ). n % 2) (div-eq_of_lt (pow_below v u h)))

  higher : u < v → has (bit_or b (2 ^ v)) u ≡ has b u
  higher h =
      let s : v ≡ suc (v - suc u) + u = omega arith in
      let p : 2 ^ v / 2 ^ u ≡ 2 * 2 ^ (v - suc u)
      = ap (λ (n : ℕ). n / 2 ^ u) (ap (λ (n : ℕ). 2 ^ n) s ∙ pow-add 2 (suc (v - suc u)) u)
      ∙ shl-shr (2 ^ suc (v - suc u)) u ∙ pow-succ' 2 (v - suc u) in
      unset (ap (λ (n : ℕ). n % 2) p ∙ omega arith)

  has_more : has (bit_or b (2 ^ v)) u ≡ (eqb v u || has b u)
  has_more =
      ⊎_elim (λ (e : v ≡ u). same e ∙ sym (ap (λ (t : Bool). t || has b u) (eq-eqb v u e)))
      (⊎_elim (λ (h : v < u). lower h ∙ sym (ap (λ (t : Bool). t || has b u) (ne_eqb v u (λ e. omega arith))))
      (λ (h : u < v). higher h ∙ sym (ap (λ (t : Bool). t || has b u) (ne_eqb v u (λ e. omega arith)))))
      (cases_order v u)

has_operand : (b u : ℕ) (a : Operand) → has (bind_operand b a) u ≡ (is_var u a || has b u)
has_operand b u (Var v) = has_more b v u
has_operand b u (Const n) = refl

either_way : (p q r : Bool) → (p || (q || r)) ≡ ((q || p) || r)
either_way true true r = refl
either_way true false r = refl
either_way false true r = refl
either_way false false r = refl

has_all : (b u : ℕ) (xs : List Operand) → has (bind_all b xs) u ≡ (list_any (is_var u) xs || has b u)
has_all b u [] = refl
has_all b u (x ∷ xs) =
    has_all (bind_operand b x) u xs ∙ ap (λ (t : Bool). list_any (is_var u) xs || t) (has_operand b u x)
    ∙ either_way (list_any (is_var u) xs) (is_var u x) (has b u)

-- the variables of one head more
pub has_head : (b u : ℕ) (h : Head) → has (bind_head b h) u ≡ (head_has u h || has b u)
has_head b u h = has_all b u (listed h.args)
