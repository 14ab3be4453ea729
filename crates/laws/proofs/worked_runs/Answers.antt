use Rattle.laws.proofs.worked_runs.Goals as goal
use Rattle.laws.proofs.Examples.{keeping_good, raising_good, reporting_good, widths, removal, partner_gone, own_gone, rest, refusals, no_number_left, raise, gone_first}

pub returns : goal.returns
returns c =
    record {
      keeps = keeping_good;
      raises = raising_good;
      reports = reporting_good;
      widths = widths;
      removal = removal;
      partner = partner_gone;
      own = own_gone;
      rest = rest;
      refusals = refusals;
      none_left = no_number_left;
      body = raise;
      order = gone_first;
    }
