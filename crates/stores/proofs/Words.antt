-- What five words hold.
use Rattle.std.proofs.Common.{◌≡◌, ℕ, zero, suc, ◌/◌, ◌%◌, ◌<◌, ◌≤◌, min, cond, [], ◌∷◌, take, ℤ, pos, ◌+ℤ◌, ◌≤ℤ◌, refl, ap, ◌∙◌, arith, ne_eqb}
use Rattle.std.proofs.lemmas.Int.{ints, clamps}
use Rattle.std.specs.Int.{w32, saturate_signed, int_min}
use mir.Val.{to_z, of_z}
use Rattle.facts.specs.Kinds.{full_low, full_high}
use Rattle.facts.specs.Places.{empty, held}
use Rattle.stores.specs.Cells.{under, word_value, words_meaning}

-- a number above 0 holds its fact
pub under_held : {F : Type 0} (n : ℕ) (f : F) → 0 < n → under n f ≡ held n f
under_held n f h = ap (λ (b : _). cond b empty (held n f)) (ne_eqb n 0 (λ e. omega arith))

-- the word of a number up to the high end means that number
pub word_exact : (low high n : ℤ) (w : ℕ) → low +ℤ pos w ≡ n → n ≤ℤ high → word_value low high w ≡ n
word_exact low high n w e h = omega (arith, ints, clamps)

-- a front of three numbers depends on the numbers in it alone
pub fronts : (n : ℕ) (x y z x' y' z' : ℤ) → (0 < n → x ≡ x') → (1 < n → y ≡ y') → (2 < n → z ≡ z') → take n (x ∷ (y ∷ (z ∷ []))) ≡ take n (x' ∷ (y' ∷ (z' ∷ [])))
fronts zero x y z x' y' z' p q r = refl
fronts (suc zero) x y z x' y' z' p q r = let a = p (omega arith) in cc
fronts (suc (suc zero)) x y z x' y' z' p q r =
    let a = p (omega arith) in
    let b = q (omega arith) in
    cc
fronts (suc (suc (suc n))) x y z x' y' z' p q r =
    let a = p (omega arith) in
    let b = q (omega arith) in
    let e = r (omega arith) in
    cc

-- a label of a name and a count gives both back
pub words_exact :
    (low high : ℤ) (label first second third name count : ℕ) (x y z : ℤ) →
    label / 256 % 256 ≡ name →
    label % 256 ≡ count →
    count ≤ 3 →
    (0 < count → word_value low high first ≡ x) →
    (1 < count → word_value low high second ≡ y) →
    (2 < count → word_value low high third ≡ z) →
    words_meaning low high label first second third
    ≡ record { name = name; count = count; args = take count (x ∷ (y ∷ (z ∷ []))) }
words_exact low high label first second third name count x y z n l h p q r =
    let k : min 3 (label % 256) ≡ count = omega arith in
    let t = fronts count _ _ _ x y z p q r in
    cc

-- the type's end lies past the kind's
stopped : (low high s : ℤ) (w : ℕ) → full_low ≤ℤ low → high ≤ℤ full_high → s ≡ saturate_signed w32 (low +ℤ pos w) → int_min s high ≡ word_value low high w
stopped low high s w l m e = grind (arith, ints, clamps)

-- a word added to the low end and stopped at the high end
pub word_made :
    (low high low' high' s n : ℤ) (w : ℕ) → low ≤ℤ high → full_low ≤ℤ low → high ≤ℤ full_high → low' ≡ low → high' ≡ high →
    s ≡ saturate_signed w32 (to_z w32 (of_z w32 low') +ℤ pos w) →
    n ≡ int_min (to_z w32 (of_z w32 s)) (to_z w32 (of_z w32 high')) →
    n ≡ word_value low high w
word_made low high low' high' s n w e l m a b c d =
    let p : to_z w32 (of_z w32 low') ≡ low = omega (arith, ints) in
    let q : to_z w32 (of_z w32 high') ≡ high = omega (arith, ints) in
    let t : s ≡ saturate_signed w32 (low +ℤ pos w) = rw p at c in
    let r : to_z w32 (of_z w32 s) ≡ s = grind (arith, ints, clamps) in
    rw (r, q) at d ∙ stopped low high s w l m t
