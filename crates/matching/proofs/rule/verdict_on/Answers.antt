use Rattle.std.proofs.Common.{sym}
use Rattle.matching.proofs.rule.verdict_on.Goals as goal

pub agree-requires : goal.agree-requires
agree-requires c = sym c.in-Some.ensures.fit
