use Rattle.std.proofs.Common.{◌+◌, ◌-◌, length}
use Rattle.gms_tuple.proofs.Combined.{IsTraversed}
use Rattle.gms_tuple.proofs.merge.combined.Given as goal

abbrev pub invariant-loop-i : goal.invariant-loop-i
invariant-loop-i l = IsTraversed l.operation l.first l.second l.made.items l.i l.j

abbrev pub decreases-loop-i : goal.decreases-loop-i
decreases-loop-i l = (length l.first - l.i) + (length l.second - l.j)
