use Rattle.lp_integer_dict.proofs.RowsWithinBound.{BoundBelow}
use Rattle.lp_integer_dict.proofs.bounds.keeps_each.Given as goal

abbrev pub invariant-loop-i : goal.invariant-loop-i
invariant-loop-i l = BoundBelow l.i l.leaving l.pivot l.of_leaving l.u l.lines l.plans l.bound
