use Rattle.std.proofs.Common.{◌≡◌, ◌+◌, ◌++◌, map, drop}
use Rattle.lp_core.specs.StandardForm as form
use Rattle.lp_core.specs.Steps.{count_of_rows, dual_steps}
use Rattle.lp_std.specs.InnerSteps.{first_stop, slack_multiplier}
use Rattle.lp_std.proofs.duals.duals_of.Given as goal

abbrev pub invariant-loop-i : goal.invariant-loop-i
invariant-loop-i g l =
    record {
      counted : l.place + count_of_rows (drop l.i l.rows) ≡ count_of_rows l.rows;
      steps : first_stop (dual_steps g.F.ExactField.limit (slack_multiplier g.F.ExactField.value l.slacks) 0 0 l.rows) ≡ first_stop (dual_steps g.F.ExactField.limit (slack_multiplier g.F.ExactField.value l.slacks) l.i l.place (drop l.i l.rows));
      made : map g.F.ExactField.value l.duals.items ++ map (form.directed l.maximize) (form.duals_from (slack_multiplier g.F.ExactField.value l.slacks) l.place (drop l.i l.rows)) ≡ map (form.directed l.maximize) (form.duals_from (slack_multiplier g.F.ExactField.value l.slacks) 0 l.rows);
    }
