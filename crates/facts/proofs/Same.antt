-- When two read facts mean the same.
use Rattle.std.proofs.Common.{◌≡◌, ℕ, zero, suc, ◌<◌, ◌≤◌, min, Bool, false, List, [], ◌∷◌, get_or, take, ℤ, refl, ap, arith, rules}
use Rattle.std.proofs.lemmas.Bool.Decides.{eqb_tells}
use Rattle.std.proofs.lemmas.List.{get_or-take, take_min}
use Rattle.std.specs.Cmp.Lexicographic.{pointwise}
use Rattle.std.specs.Cmp.Rules.{signed_items}
use Rattle.std.specs.Ordering.{int_eq}
use Rattle.facts.specs.Meanings.{Meaning, ReadFact, numbers, read_meaning}
use Rattle.facts.specs.Reads.{alike, Decides}

-- the arguments of a read fact, as a list
abbrev pub listed : ReadFact → List ℤ
listed f = f.args.0 ∷ (f.args.1 ∷ (f.args.2 ∷ []))

-- two facts of one meaning agree at each index below the count
pub same_at : (a b : ReadFact) (k : ℕ) (d : ℤ) → read_meaning a ≡ read_meaning b → k < a.count → get_or (listed a) k d ≡ get_or (listed b) k d
same_at a b k d e l =
    let n : a.count ≡ b.count = ap (λ (m : Meaning). m.count) e in
    let t : take a.count (listed a) ≡ take b.count (listed b) = ap (λ (m : Meaning). m.args) e in
    let r : k < b.count = omega arith in
    let x = get_or-take a.count (listed a) k d l in
    let y = get_or-take b.count (listed b) k d r in
    cc

-- facts of one name and count are alike where their first count arguments are
pub alike_by_arguments : (a b : ReadFact) (r : Bool) → a.name ≡ b.name → a.count ≡ b.count → r ≡ pointwise int_eq (take (min a.count 3) (listed a)) (take (min a.count 3) (listed b)) → r ≡ alike a b
alike_by_arguments a b r n k e =
    let p : take (min a.count 3) (listed a) ≡ numbers a = take_min a.count (listed a) in
    let q : take (min a.count 3) (listed b) ≡ take a.count (listed b) = take_min a.count (listed b) in
    search rules

pub mean_by_arguments : (a b : ReadFact) (r : Bool) → a.name ≡ b.name → a.count ≡ b.count → r ≡ pointwise int_eq (take (min a.count 3) (listed a)) (take (min a.count 3) (listed b)) → Decides (read_meaning a ≡ read_meaning b) r
mean_by_arguments a b r n k e =
    let p : take (min a.count 3) (listed a) ≡ numbers a = take_min a.count (listed a) in
    let q : take (min a.count 3) (listed b) ≡ take a.count (listed b) = take_min a.count (listed b) in
    let d = signed_items (numbers a) (numbers b) in
    search rules

-- facts of two meanings are not alike
pub unlike : (a b : ReadFact) → (read_meaning a ≡ read_meaning b → ⊥) → alike a b ≡ false
unlike a b u =
    let n = eqb_tells a.name b.name in
    let k = eqb_tells a.count b.count in
    let d = signed_items (numbers a) (numbers b) in
    search rules

-- the first n of three numbers each are the same where each of them is
pub first_of_three : (n : ℕ) (a b c x y z : ℤ) → n ≤ 3 → (0 < n → a ≡ x) → (1 < n → b ≡ y) → (2 < n → c ≡ z) → take n (a ∷ (b ∷ (c ∷ []))) ≡ take n (x ∷ (y ∷ (z ∷ [])))
first_of_three zero a b c x y z h p q r = refl
first_of_three (suc zero) a b c x y z h p q r =
    let e : a ≡ x = p (omega arith) in cc
first_of_three (suc (suc zero)) a b c x y z h p q r =
    let e : a ≡ x = p (omega arith) in
    let f : b ≡ y = q (omega arith) in
    cc
first_of_three (suc (suc (suc zero))) a b c x y z h p q r =
    let e : a ≡ x = p (omega arith) in
    let f : b ≡ y = q (omega arith) in
    let g : c ≡ z = r (omega arith) in
    cc
first_of_three (suc (suc (suc (suc n)))) a b c x y z h p q r = absurd (omega arith)
