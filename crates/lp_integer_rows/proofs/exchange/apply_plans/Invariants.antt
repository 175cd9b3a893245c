use Rattle.std.proofs.Common.{ℕ}
use Rattle.lp_integer_rows.specs.Form.{AreLinesExchanged, IsPlan}
use Rattle.lp_integer_rows.proofs.exchange.apply_plans.Given as goal

abbrev pub invariant-loop-i : goal.invariant-loop-i
invariant-loop-i l =
    (bound column : ℕ) → IsPlan bound column l.place l.initial.lines.items l.pivot l.plans → AreLinesExchanged column l.place l.pivot l.plans l.initial.lines.items l.lines.items l.i
