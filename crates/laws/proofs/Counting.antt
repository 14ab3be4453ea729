-- How often facts stand in a list, in a store and in a collection.
use Rattle.std.proofs.Common.{◌≡◌, ℕ, zero, suc, ◌+◌, Bool, cond, ◌≢◌, List, [], ◌∷◌, ◌++◌, drop, set, replicate, count_by, refl, ap, ◌∙◌, arith}
use Rattle.std.specs.List.{AllByRecursion}
use Rattle.std.proofs.lemmas.List.Sums.{sum_by-cons, sum_by-append}
use Rattle.facts.specs.Lists.{Nth}
use Rattle.facts.specs.Places.{Place, empty, held}
use Rattle.laws.specs.Rules.{Rules}
use Rattle.laws.specs.Machine.{Cell, facts}
use Rattle.laws.specs.Stored.{Held, Apart, cleared}
use Rattle.laws.specs.Steps.{without}
use Rattle.laws.specs.Traces.{Rewrite}
use Rattle.laws.specs.Law.{stored, Same, Replay}
use Rattle.laws.proofs.Nths.{nth_set_other}

module _ {F : Type 0} (q : F → Bool) where
  pub count_cons : (x : F) (xs : List F) → count_by q (x ∷ xs) ≡ cond (q x) 1 0 + count_by q xs
  count_cons x xs = sum_by-cons (λ (y : F). cond (q y) 1 0) x xs

  pub count_append : (xs ys : List F) → count_by q (xs ++ ys) ≡ count_by q xs + count_by q ys
  count_append xs ys = sum_by-append (λ (y : F). cond (q y) 1 0) xs ys

  pub count_push : (xs : List F) (x : F) → count_by q (xs ++ x ∷ []) ≡ count_by q xs + cond (q x) 1 0
  count_push xs x = let a = count_append xs (x ∷ []) in let b = count_cons x [] in let d : count_by q [] ≡ 0 = refl in omega arith

  pub count_without : (xs : List F) (i : ℕ) (x : F) → Nth xs i x → count_by q (without i xs) + cond (q x) 1 0 ≡ count_by q xs
  count_without [] i x h = absurd h
  count_without (z ∷ xs) zero x h =
      let a = count_cons z xs in let e : ◌≡◌ {A = ℕ} (cond (q z) 1 0) (cond (q x) 1 0) = ap (λ (w : F). cond (q w) 1 0) h in omega arith
  count_without (z ∷ xs) (suc i) x h =
      let a = count_cons z xs in let b = count_cons z (without i xs) in let d = count_without xs i x h in omega arith

  pub count_put : (s : List (Place F)) (p n : ℕ) (f : F) → Nth s p empty → count_by q (stored (set s p (held n f))) ≡ cond (q f) 1 0 + count_by q (stored s)
  count_put [] p n f h = absurd h
  count_put (empty ∷ s) zero n f h = count_cons f (stored s)
  count_put (held m g ∷ s) zero n f h = let z : ◌≡◌ {A = ℕ} 0 1 = cc in absurd (omega arith)
  count_put (empty ∷ s) (suc p) n f h = count_put s p n f h
  count_put (held m g ∷ s) (suc p) n f h =
      let a = count_cons g (stored s) in let b = count_cons g (stored (set s p (held n f))) in let d = count_put s p n f h in omega arith

  count_clear : (s : List (Place F)) (p n : ℕ) (f : F) → Nth s p (held n f) → count_by q (stored (set s p empty)) + cond (q f) 1 0 ≡ count_by q (stored s)
  count_clear [] p n f h = absurd h
  count_clear (empty ∷ s) zero n f h = let z : ◌≡◌ {A = ℕ} 0 1 = cc in absurd (omega arith)
  count_clear (held m g ∷ s) zero n f h =
      let a = count_cons g (stored s) in let e : g ≡ f = cc in let e' : ◌≡◌ {A = ℕ} (cond (q g) 1 0) (cond (q f) 1 0) = ap (λ (w : F). cond (q w) 1 0) e in omega arith
  count_clear (empty ∷ s) (suc p) n f h = count_clear s p n f h
  count_clear (held m g ∷ s) (suc p) n f h =
      let a = count_cons g (stored s) in let b = count_cons g (stored (set s p empty)) in let d = count_clear s p n f h in omega arith

module _ {F : Type 0} where
  pub held_set : (s : List (Place F)) (p : ℕ) (x : Place F) (ps : List ℕ) (cs : List (Cell F)) → Held s ps cs → AllByRecursion (λ (q : ℕ). q ≢ p) ps → Held (set s p x) ps cs
  held_set s p x [] [] h a = tt
  held_set s p x [] (c ∷ cs) h a = h
  held_set s p x (r ∷ ps) [] h a = h
  held_set s p x (r ∷ ps) (c ∷ cs) h a =
      (nth_set_other s p x r (held c.number c.fact) h.0 a.0, held_set s p x ps cs h.1 a.1)

  pub held_drop : (s : List (Place F)) (k : ℕ) (ps : List ℕ) (cs : List (Cell F)) → Held s ps cs → Held s (drop k ps) (drop k cs)
  held_drop s zero ps cs h = h
  held_drop s (suc k) [] [] h = tt
  held_drop s (suc k) [] (c ∷ cs) h = absurd h
  held_drop s (suc k) (p ∷ ps) [] h = absurd h
  held_drop s (suc k) (p ∷ ps) (c ∷ cs) h = held_drop s k ps cs h.1

  pub facts_drop : (k : ℕ) (cs : List (Cell F)) → facts (drop k cs) ≡ drop k (facts cs)
  facts_drop zero cs = refl
  facts_drop (suc k) [] = refl
  facts_drop (suc k) (c ∷ cs) = facts_drop k cs

pub apart_drop : (k : ℕ) (ps : List ℕ) → Apart ps → Apart (drop k ps)
apart_drop zero ps a = a
apart_drop (suc k) [] a = tt
apart_drop (suc k) (p ∷ ps) a = apart_drop k ps a.1

pub count_cleared : {F : Type 0} (q : F → Bool) (ps : List ℕ) (s : List (Place F)) (cs : List (Cell F)) → Held s ps cs → Apart ps → count_by q (stored (cleared s ps)) + count_by q (facts cs) ≡ count_by q (stored s)
count_cleared q [] s [] h a = let d : count_by q [] ≡ 0 = refl in omega arith
count_cleared q [] s (c ∷ cs) h a = absurd h
count_cleared q (p ∷ ps) s [] h a = absurd h
count_cleared q (p ∷ ps) s (c ∷ cs) h a =
    let b = count_clear q s p c.number c.fact h.0 in
    let d = count_cleared q ps (set s p empty) cs (held_set s p empty ps cs h.1 a.0) a.1 in
    let e = count_cons q c.fact (facts cs) in
    omega arith

pub stored_new : {F : Type 0} (P : ℕ) → stored {F = F} (replicate P empty) ≡ []
stored_new zero = refl
stored_new (suc P) = stored_new P

module _ {F R : Type 0} (T : Rules F R) where
  -- only the counts of a replay's end matter
  pub replay_same : (ws : List (Rewrite F R)) (xs ys zs : List F) → Same ys zs → Replay T xs ws ys → Replay T xs ws zs
  replay_same [] xs ys zs e h = λ q. h q ∙ e q
  replay_same (w ∷ ws) xs ys zs e h =
      let us = h.0 in
      let taken : List F = drop (T.kept w.rule) w.facts in (
        us,
        h.1,
        record {
          applies = h.2.applies;
          there = h.2.there;
          result = λ q. let a = e q in let b = h.2.result q in let c = count_append q ys taken in let d = count_append q zs taken in omega arith;
        },
      )

  -- one fact more at the start is one more at the end
  pub replay_feed : (f : F) (ws : List (Rewrite F R)) (xs ys : List F) → Replay T xs ws ys → Replay T (f ∷ xs) ws (f ∷ ys)
  replay_feed f [] xs ys h = λ q. let a = h q in let b = count_cons q f xs in let d = count_cons q f ys in omega arith
  replay_feed f (w ∷ ws) xs ys h =
      let zs = h.0 in
      let taken : List F = drop (T.kept w.rule) w.facts in
      let body : List F = T.body w.rule w.facts in (
        f ∷ zs,
        replay_feed f ws xs zs h.1,
        record {
          applies = h.2.applies;
          there = λ q. let a = h.2.there q in let b = count_cons q f zs in omega arith;
          result = λ q. let a = h.2.result q in let b = count_cons q f (zs ++ body) in let d = count_cons q f (ys ++ taken) in omega arith;
        },
      )
