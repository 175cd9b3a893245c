use Rattle.std.proofs.Common.{◌<◌}
use Rattle.lp_any.proofs.leaders.Leaders.find_last.Given as goal

abbrev pub invariant-loop-place : goal.invariant-loop-place
invariant-loop-place l = l.last < 128
