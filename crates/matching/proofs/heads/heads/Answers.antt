use Rattle.std.proofs.lemmas.Iterator.{YieldsList-from_slice}
use Rattle.std.proofs.lemmas.Iterator.Consumers.{YieldsList-from_chain}
use Rattle.matching.proofs.heads.heads.Goals as goal

pub returns : goal.returns
returns c =
    (YieldsList-from_chain (YieldsList-from_slice c.args.rule.kept.now (cc)) (YieldsList-from_slice c.args.rule.taken.now (cc)) c.chain.ensures.first_done c.chain.ensures.second_done).runs
