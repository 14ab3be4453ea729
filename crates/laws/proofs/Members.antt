-- Each choice to which a rule applies is among the candidates, and what each candidate is.
use Rattle.std.proofs.Common.{◌≡◌, ℕ, zero, suc, ◌<◌, true, List, [], ◌∷◌, map, length, refl, ap, ◌∙◌, subst, arith}
use Rattle.std.specs.List.{range_with_len, AllByRecursion}
use Rattle.facts.specs.Lists.{Nth}
use Rattle.facts.specs.Places.{Place, held}
use Rattle.laws.specs.Rules.{Rules, WellFormed}
use Rattle.laws.specs.Candidates.{Candidate, tuples, ways, at_position, of_rule, candidates}
use Rattle.laws.specs.Machine.{Cell, facts}
use Rattle.laws.specs.Stored.{Held}
use Rattle.laws.specs.Law.{Choice}
use Rattle.laws.proofs.Nths.{nth_lt, from_map, from_joined, nth_cond}
use Rattle.laws.proofs.Indices.{candidate_at}

module _ {F : Type 0} where
  pub held_below : (st : List (Place F)) (ps : List ℕ) (cs : List (Cell F)) → Held st ps cs → AllByRecursion (λ (p : ℕ). p < length st) ps
  held_below st [] [] h = tt
  held_below st [] (c ∷ cs) h = absurd h
  held_below st (p ∷ ps) [] h = absurd h
  held_below st (p ∷ ps) (c ∷ cs) h = (nth_lt st p (held c.number c.fact) h.0, held_below st ps cs h.1)

  pub held_length : (st : List (Place F)) (ps : List ℕ) (cs : List (Cell F)) → Held st ps cs → length ps ≡ length (facts cs)
  held_length st [] [] h = refl
  held_length st [] (c ∷ cs) h = absurd h
  held_length st (p ∷ ps) [] h = absurd h
  held_length st (p ∷ ps) (c ∷ cs) h = let r = held_length st ps cs h.1 in omega arith

  pub nth_facts : (cs : List (Cell F)) (j : ℕ) (c : Cell F) → Nth cs j c → Nth (facts cs) j c.fact
  nth_facts [] j c h = absurd h
  nth_facts (d ∷ cs) zero c h = ap (λ (z : Cell F). z.fact) h
  nth_facts (d ∷ cs) (suc j) c h = nth_facts cs j c h

  pub length_facts : (cs : List (Cell F)) → length (facts cs) ≡ length cs
  length_facts [] = refl
  length_facts (c ∷ cs) = ap suc (length_facts cs)

-- each list of places has the own place at its position
own_in_ways : (P own n j k : ℕ) (ps : List ℕ) → Nth (ways P own n j) k ps → Nth ps j own
own_in_ways P own zero j k ps h = absurd h
own_in_ways P own (suc n) zero k ps h =
    let r = from_map (λ (qs : List ℕ). own ∷ qs) (tuples P n) k ps h in
    subst (λ (w : List ℕ). Nth w zero own) r.2 refl
own_in_ways P own (suc n) (suc j) k ps h =
    let a = from_joined (λ (p : ℕ). map (λ (qs : List ℕ). p ∷ qs) (ways P own n j)) (range_with_len 0 P) k ps h in
    let r = from_map (λ (qs : List ℕ). a.0 ∷ qs) (ways P own n j) a.2.0 ps a.2.1 in
    subst (λ (w : List ℕ). Nth w (suc j) own) r.2 (own_in_ways P own n j a.2.0 r.0 r.1)

module _ {F R : Type 0} (T : Rules F R) where
  -- a choice to which a rule applies is a candidate of each of its facts
  pub candidate_in : WellFormed T → (st : List (Place F)) (i : ℕ) (r : R) (ps : List ℕ) (cs : List (Cell F)) (j p : ℕ) (c : Cell F) → Nth T.table i r → Choice T st r ps cs → Nth ps j p → Nth cs j c → (k : ℕ) × Nth (candidates T (length st) p c.fact) k (record { rule = r; pos = j; places = ps })
  candidate_in ok st i r ps cs j p c in_table m at_p at_c =
      let long : length ps ≡ T.heads r = held_length st ps cs m.holds ∙ ok.one_each r (facts cs) m.applies.0 in
      let fit : T.fits r j c.fact ≡ true = ok.all_fit r (facts cs) m.applies.0 j c.fact (nth_facts cs j c at_c) in
      let below : j < T.heads r = (let q = nth_lt ps j p at_p in omega arith) in
      (_, candidate_at T (length st) p c.fact i r j ps in_table below fit long (held_below st ps cs m.holds) at_p)

  -- a candidate's rule is one of the table, and the own place stands at its position
  pub record Candid (own : ℕ) (t : Candidate R) : Type 0 where
    pub index : ℕ
    pub in_table : Nth T.table index t.rule
    pub own_at : Nth t.places t.pos own

  pub candid : (P own : ℕ) (f : F) (k : ℕ) (t : Candidate R) → Nth (candidates T P own f) k t → Candid own t
  candid P own f k t h =
      let a = from_joined (λ (r : R). of_rule T P own f r) T.table k t h in
      let b = from_joined (λ (j : ℕ). at_position T P own f a.0 j) (range_with_len 0 (T.heads a.0)) a.2.0 t a.2.1 in
      let ws : List (Candidate R) = map (λ (qs : List ℕ). record { rule = a.0; pos = b.0; places = qs }) (ways P own (T.heads a.0) b.0) in
      let c : Nth ws b.2.0 t = nth_cond (T.fits a.0 b.0 f) ws b.2.0 t b.2.1 in
      let d = from_map (λ (qs : List ℕ). record { rule = a.0; pos = b.0; places = qs }) (ways P own (T.heads a.0) b.0) b.2.0 t c in
      record {
        index = a.1.0;
        in_table = subst (λ (w : Candidate R). Nth T.table a.1.0 w.rule) d.2 a.1.1;
        own_at = subst (λ (w : Candidate R). Nth w.places w.pos own) d.2 (own_in_ways P own (T.heads a.0) b.0 b.2.0 d.0 d.1);
      }
