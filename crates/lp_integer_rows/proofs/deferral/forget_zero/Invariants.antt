use Rattle.lp_integer_rows.proofs.Putting.{AreForgottenTo}
use Rattle.lp_integer_rows.proofs.deferral.forget_zero.Given as goal

abbrev pub invariant-loop-i : goal.invariant-loop-i
invariant-loop-i l = AreForgottenTo l.initial.lines.items l.lines.items l.i
