-- The front of a list: its last one, its first one, and one more.
use Rattle.std.proofs.Common.{◌≡◌, ℕ, zero, suc, ◌+◌, ◌-◌, ◌<◌, ◌≤◌, min, Bool, true, false, List, [], ◌∷◌, ◌++◌, map, length, get_or, take, drop, set, ℤ, Some, sym, refl, ap, subst, append-nil, arith, length-append}
use Rattle.std.proofs.lemmas.List.{take_min, take_at, drop_all, take-append-le, take_more_set, map_push, map_more}
use Rattle.facts.specs.declared.fact.Fact.{Fact}
use Rattle.facts.specs.Lists.{Nth}
use Rattle.facts.specs.Meanings.{Meaning, meaning}
use Rattle.facts.specs.Reads.{cut}
use Rattle.lists.specs.Waiting.{Gives, GivesEnd}

-- a fact of at most three arguments is not changed by a cut
pub cut_short : {V : Type 0} (f : Fact V) → f.count ≤ 3 → cut f ≡ f
cut_short {V} f h =
    let e : min 3 f.count ≡ f.count = omega arith in
    let with-count : ℕ → Fact V = λ n. record { name = f.name; count = n; args = f.args } in
    ap with-count e

module _ {X Y : Type 0} (f : X → Y) (n k : ℕ) where
  -- one more at the end
  pub front_push : (xs : List X) (x : X) → k ≡ min n (length xs) → k < length xs → map f (take (k + 1) (set xs k x)) ≡ map f (take n xs) ++ f x ∷ []
  front_push xs x e h =
      let t = take_min n xs in
      let s = take_more_set xs k x h in
      let m = map_push f (take k xs) x in
      cc

  -- the last one apart
  pub front_last : (xs : List X) (d : X) → k ≡ min n (length xs) → 0 < k → map f (take n xs) ≡ map f (take (k - 1) xs) ++ f (get_or xs (k - 1) d) ∷ []
  front_last xs d e p =
      let o : k - 1 + 1 ≡ k = omega arith in
      let t = take_min n xs in
      let m = map_more f xs (k - 1) d (omega arith) in
      cc

-- the first one apart, from where it is moved to the end
pub front_first : {X Y : Type 0} (f : X → Y) (n k : ℕ) (x : X) (xs : List X) → k ≡ min n (suc (length xs)) → 0 < k → map f (take n (x ∷ xs)) ≡ f x ∷ map f (take (k - 1) (xs ++ x ∷ []))
front_first f zero k x xs e p = absurd (omega arith)
front_first f (suc n) k x xs e p =
    let m : k - 1 ≡ min n (length xs) = omega arith in
    let a = take-append-le (k - 1) xs (x ∷ []) (omega arith) in
    let t = take_min n xs in
    cc

nth_end : {X : Type 0} (a : List X) (x : X) → Nth (a ++ x ∷ []) (length a) x
nth_end [] x = refl
nth_end (y ∷ a) x = nth_end a x

-- to give the last or the first fact is to give one
pub gives_end : {V : Type 0} (end : Bool) (means : V → ℤ) (w w' : List Meaning) (f : Fact V) → f.count ≤ 3 → GivesEnd end means w (Some f) w' → Gives means w (Some f) w'
gives_end true means w w' f h e =
    let m = meaning means f in
    let d : drop (suc (length w')) (w' ++ m ∷ []) ≡ [] = drop_all (suc (length w')) (w' ++ m ∷ []) (simp length-append (omega arith)) in
    let k : w' ≡ take (length w') (w' ++ m ∷ []) ++ drop (suc (length w')) (w' ++ m ∷ []) =
    rw (take_at w' (m ∷ []) (length w') refl, d) (sym (append-nil w')) in
    subst (λ (v : List Meaning). Gives means v (Some f) w') (sym e) (length w', nth_end w' m, k, h)
gives_end false means w w' f h e =
    subst (λ (v : List Meaning). Gives means v (Some f) w') (sym e) (0, refl, refl, h)
