use Rattle.std.proofs.Common.{rules}
use Rattle.matching.proofs.body.args_written.Goals as goal

pub returns-in-Two-clause-between : goal.returns-in-Two-clause-between
returns-in-Two-clause-between c =
    λ e. record { first = search rules; second = search rules; third = search rules }

pub returns-in-Three : goal.returns-in-Three
returns-in-Three c = record { numbers = search rules; between = λ e. record { first = search rules; second = search rules; third = search rules } }
