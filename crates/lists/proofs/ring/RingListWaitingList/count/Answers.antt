use Rattle.std.proofs.Common.{arith}
use Rattle.std.proofs.lemmas.List.{nil_from_length}
use Rattle.lists.specs.Built.{waiting}
use Rattle.lists.proofs.Held.{waiting_length}
use Rattle.lists.proofs.ring.RingListWaitingList.count.Goals as goal

pub returns-clause-count : goal.returns-clause-count
returns-clause-count g c = omega (arith, waiting_length g.V.Kind.meaning c.args.self.now)

pub returns-clause-none : goal.returns-clause-none
returns-clause-none g c z =
    nil_from_length (waiting g.V.Kind.meaning c.args.self.now) (omega (arith, waiting_length g.V.Kind.meaning c.args.self.now))
