use Rattle.std.proofs.Common.{refl, ◌≡◌, ◌<◌, ◌≤◌, length, arith, rules, ◌-◌, ◌+◌, min, cond, not, nat_eq}
use Rattle.std.proofs.lemmas.Bool.{ne_eqb}
use Rattle.lists.specs.Built.{start, waiting}
use Rattle.lists.proofs.Fronts.{gives_end}
use Rattle.lists.proofs.Held.{waiting_length, ring_gives}
use Rattle.lists.proofs.ring.RingListWaitingList.take.Goals as goal
use Rattle.lists.proofs.ring.RingListWaitingList.take.Goals.{then-this-ne0, else-this-ne0, then-this-ne0-2, else-this-ne0-2}

pub offset_bounds-self-at : goal.offset_bounds-self-at
offset_bounds-self-at g c =
    let h : c.slot-at.result < length c.args.self.now.memory.now = omega (arith, c.slot-at.ensures.0) in
    search rules

pub returns : goal.returns
returns g c =
    let means = g.V.Kind.meaning in
    let s = c.args.self.now in
    let m = s.memory.now in
    let n = c.count-count.result in
    let at = c.slot-at.result in
    let k : n ≡ min s.len (min 4096 (length m)) = omega (arith, waiting_length means s) in
    let start' = cond (nat_eq g.row.LAST 0) c.if-this-ne0-2.self 0 in
    let last : (g.row.LAST ≡ 0 → ⊥) → (c.if-this-ne0.position ≡ n - 1) × (start' ≡ start s) =
    λ e. (
      elim c.if-this-ne0.branch [ then-this-ne0 w ↦ omega arith | else-this-ne0 w ↦ absurd (e (omega arith)) ],
      rw (ne_eqb g.row.LAST 0 e) refl,
    ) in
    let first : g.row.LAST ≡ 0 → (c.if-this-ne0.position ≡ 0) × (start' ≡ at + 1) =
    λ e. (
      elim c.if-this-ne0.branch [ then-this-ne0 w ↦ omega arith | else-this-ne0 w ↦ omega arith ],
      let h : c.if-this-ne0-2.self ≡ at + 1 =
          elim c.if-this-ne0-2.branch [ then-this-ne0-2 w ↦ omega arith | else-this-ne0-2 w ↦ omega arith ] in
          rw e h,
    ) in
    let e = ring_gives means (start s) at s.len n m k c.index-self-at.result c.cut.result (omega arith) c.cut.ensures g.row.LAST c.if-this-ne0.position start' c.slot-at.ensures last first in
    let l : c.cut.result.count ≤ 3 = rw c.cut.ensures (omega arith) in
    record { gives = gives_end (not (nat_eq g.row.LAST 0)) means (waiting means s) _ c.cut.result l e; fixed = refl; order = e; same = refl }
