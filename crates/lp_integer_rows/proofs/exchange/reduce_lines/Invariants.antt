use Rattle.lp_integer_rows.proofs.Plans.{AreReduced}
use Rattle.lp_integer_rows.proofs.exchange.reduce_lines.Given as goal

abbrev pub invariant-loop-i : goal.invariant-loop-i
invariant-loop-i l = AreReduced l.initial.lines.items l.lines.items l.i
