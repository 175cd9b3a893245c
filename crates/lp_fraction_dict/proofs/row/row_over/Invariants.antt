use Rattle.std.proofs.Common.{ℕ, length}
use Rattle.lp_fraction_dict.specs.Rows.{IsRow}
use Rattle.lp_fraction_dict.proofs.Division.{Dividing}
use Rattle.lp_fraction_dict.proofs.row.row_over.Given as goal

abbrev pub invariant-loop-entry : goal.invariant-loop-entry
invariant-loop-entry g l =
    (high : ℕ) → IsRow g.F.ExactField.value 0 high l.row → Dividing g.F.ExactField.value g.F.ExactField.limit high l.row (g.F.ExactField.value l.divisor) l.left l.made.items

abbrev pub decreases-loop-entry : goal.decreases-loop-entry
decreases-loop-entry g l = length l.left
