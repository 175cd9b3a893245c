use Rattle.lp_integer_rows.specs.Form.{ArePlanned}
use Rattle.lp_integer_rows.proofs.exchange.plan_lines.Given as goal

abbrev pub invariant-loop-i : goal.invariant-loop-i
invariant-loop-i l = ArePlanned l.bound l.column l.place l.lines l.pivot l.plans.items l.i
