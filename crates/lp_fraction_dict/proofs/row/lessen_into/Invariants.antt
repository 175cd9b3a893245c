use Rattle.std.proofs.Common.{ℕ, ◌+◌, length}
use Rattle.lp_fraction_dict.specs.Rows.{IsRow}
use Rattle.lp_fraction_dict.proofs.Turns.{Walking}
use Rattle.lp_fraction_dict.proofs.row.lessen_into.Given as goal

abbrev pub invariant-loop-column : goal.invariant-loop-column
invariant-loop-column g l =
    (high : ℕ) → IsRow g.F.ExactField.value 0 high l.row → IsRow g.F.ExactField.value 0 high l.other → Walking g.F.ExactField.value g.F.ExactField.limit high l.row (g.F.ExactField.value l.factor) l.other l.left l.right l.made.items

abbrev pub decreases-loop-column : goal.decreases-loop-column
decreases-loop-column g l = length l.left + length l.right
