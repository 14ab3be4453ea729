use Rattle.std.proofs.Common.{◌≡◌, ◌<◌, min, length, arith, rules}
use Rattle.std.proofs.lemmas.List.{drop-set-lt}
use Rattle.lists.specs.Built.{start}
use Rattle.lists.proofs.Held.{waiting_length, ring_joins}
use Rattle.lists.proofs.ring.RingListWaitingList.put.Goals as goal

pub offset_bounds-self-at : goal.offset_bounds-self-at
offset_bounds-self-at g c =
    let h : c.slot-at.result < length c.args.self.now.memory.now = omega (arith, c.slot-at.ensures.0) in
    search rules

pub returns-clause-joins : goal.returns-clause-joins
returns-clause-joins g c =
    let s = c.args.self.now in
    let n = c.count-count.result in
    let k : n ≡ min s.len (min 4096 (length s.memory.now)) = omega (arith, waiting_length g.V.Kind.meaning s) in
    let i : n < min 4096 (length s.memory.now) = omega arith in (
      omega arith,
      omega arith,
      ring_joins g.V.Kind.meaning (start s) c.slot-at.result s.len n s.memory.now k c.args.fact.now i c.slot-at.ensures (omega arith),
    )

pub returns-clause-beyond : goal.returns-clause-beyond
returns-clause-beyond g c = drop-set-lt 4096 c.args.self.now.memory.now _ _ (omega (arith, c.slot-at.ensures.0))
