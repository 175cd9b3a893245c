use Rattle.lp_range.proofs.Spans.{within_stays, stays_within}
use Rattle.lp_range.proofs.laws.widest_span.Goals as goal

pub returns : goal.returns
returns c limit given x gains s above is = (within_stays limit given x gains s above is, stays_within limit given x gains s above is)
