-- What a ring holds: how many, and after a put or a take.
use Rattle.std.proofs.Common.{◌≡◌, ℕ, zero, suc, ◌+◌, ◌-◌, ◌<◌, ◌≤◌, min, not, nat_eq, List, [], ◌∷◌, ◌++◌, map, length, get_or, take, set, ℤ, Some, false, refl, subst, arith, rules, length-take}
use lib.ListN.{length-map}
use lib.Seq.{take-set-lt}
use Rattle.std.proofs.lemmas.List.{get_or-take}
use Rattle.facts.specs.declared.fact.Fact.{Fact}
use Rattle.facts.specs.Meanings.{Meaning, meaning}
use Rattle.facts.specs.Reads.{cut}
use Rattle.lists.specs.declared.ring.RingList.{RingList}
use Rattle.lists.specs.Built.{kept, used, rotated, Slot, waiting, capacity}
use Rattle.lists.specs.Waiting.{GivesEnd}
use Rattle.lists.proofs.Fronts.{front_push}
use Rattle.lists.proofs.Rings.{rotated_length, rotated_set, ring_first, ring_last}

pub waiting_length : {V : Type 0} {last : ℕ} (means : V → ℤ) (l : RingList V last) → length (waiting means l) ≡ min l.len (capacity l)
waiting_length means l = simp (length-map, length-take, rotated_length)

module _ {V : Type 0} (means : V → ℤ) (first r n k : ℕ) (m : List (Fact V)) (e : k ≡ min n (min 4096 (length m))) where
  -- what a ring holds that starts at an index
  abbrev pub held : ℕ → ℕ → List (Fact V) → List Meaning
  held count start memory = map (kept means) (take count (rotated start (used memory)))

  pub ring_joins : (x : Fact V) → k < min 4096 (length m) → Slot first k (min 4096 (length m)) r → x.count ≤ 3 → held (k + 1) first (set m r x) ≡ held n first m ++ meaning means x ∷ []
  ring_joins x i h c =
      let u = length-take 4096 m in
      let l = rotated_length first (used m) in
      let t = take-set-lt 4096 m r x (omega (arith, h.0)) in
      let s = rotated_set first k r (min 4096 (length m)) (used m) x (omega arith) i h in
      let p = front_push (kept means) n k (rotated first (used m)) x (omega arith) (omega arith) in
      let a : min 3 x.count ≡ x.count = omega arith in
      let y : cut x ≡ x = rw a in
      cc

  module _ (d x : Fact V) (q : 0 < k) (v : x ≡ cut (get_or m r d)) where
    first_given : Slot first 0 (min 4096 (length m)) r → held n first m ≡ meaning means x ∷ held (k - 1) (r + 1) m
    first_given h =
        let u = length-take 4096 m in
        let t = ring_first (kept means) first r (min 4096 (length m)) n k (used m) d (omega arith) (omega arith) h (omega arith) q in
        let g = get_or-take 4096 m r d (omega (arith, h.0)) in
        cc

    last_given : Slot first (k - 1) (min 4096 (length m)) r → held n first m ≡ held (k - 1) first m ++ meaning means x ∷ []
    last_given h =
        let u = length-take 4096 m in
        let t = ring_last (kept means) first r (min 4096 (length m)) n k (used m) d (omega arith) h (omega arith) q in
        let g = get_or-take 4096 m r d (omega (arith, h.0)) in
        cc

    -- the fact at the slot of the last position, and the same start; or of the first one, and the start after it
    pub ring_gives : (last position start : ℕ) → Slot first position (min 4096 (length m)) r → ((last ≡ 0 → ⊥) → (position ≡ k - 1) × (start ≡ first)) → (last ≡ 0 → (position ≡ 0) × (start ≡ r + 1)) → GivesEnd (not (nat_eq last 0)) means (held n first m) (Some x) (held (k - 1) start m)
    ring_gives zero position start h t f =
        let p = (f refl).0 in
        let o = (f refl).1 in
        let h' : Slot first 0 (min 4096 (length m)) r = subst (λ (i : ℕ). Slot first i (min 4096 (length m)) r) p h in
        rw o (first_given h')
    ring_gives (suc last) position start h t f =
        let z : suc last ≡ 0 → ⊥ = λ z. absurd (omega arith) in
        let p = (t z).0 in
        let o = (t z).1 in
        let h' : Slot first (k - 1) (min 4096 (length m)) r = subst (λ (i : ℕ). Slot first i (min 4096 (length m)) r) p h in
        let b : nat_eq (suc last) 0 ≡ false = search rules in
        rw (o, b) (last_given h')
