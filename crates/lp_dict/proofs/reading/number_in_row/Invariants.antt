use Rattle.std.proofs.Common.{length}
use Rattle.lp_fraction_dict.proofs.Rows.{Searched}
use Rattle.lp_dict.proofs.reading.number_in_row.Given as goal

abbrev pub invariant-loop-entry : goal.invariant-loop-entry
invariant-loop-entry g l = Searched g.F.ExactField.value l.row l.rest l.column

abbrev pub decreases-loop-entry : goal.decreases-loop-entry
decreases-loop-entry g l = length l.rest
