use Rattle.std.proofs.Common.{◌≡◌, ◌+◌, ◌++◌, map, drop}
use Rattle.std.specs.Prelude.{sum_by}
use Rattle.lp_core.specs.declared.program.Column.{Column}
use Rattle.lp_core.specs.StandardForm as form
use Rattle.lp_core.specs.Steps.{reduced_steps}
use Rattle.lp_std.specs.InnerSteps.{first_stop, placed_value, slack_multiplier}
use Rattle.lp_std.proofs.duals.reduced_costs_of.Given as goal

abbrev pub invariant-loop-j : goal.invariant-loop-j
invariant-loop-j g l =
    record {
      counted : l.place + sum_by (λ (column : Column _). form.rows_of_bounds column.lower column.upper) (drop l.j l.bounded) ≡ l.first + sum_by (λ (column : Column _). form.rows_of_bounds column.lower column.upper) l.bounded;
      steps : first_stop (reduced_steps g.F.ExactField.limit (map g.F.ExactField.value l.costs) (slack_multiplier g.F.ExactField.value l.slacks) 0 l.first (placed_value g.F.ExactField.value l.columns) l.bounded) ≡ first_stop (reduced_steps g.F.ExactField.limit (map g.F.ExactField.value l.costs) (slack_multiplier g.F.ExactField.value l.slacks) l.j l.place (placed_value g.F.ExactField.value (drop l.j l.columns)) (drop l.j l.bounded));
      made : map g.F.ExactField.value l.reduced.items ++ map (form.directed l.maximize) (form.reduced_from (map g.F.ExactField.value l.costs) (slack_multiplier g.F.ExactField.value l.slacks) l.place (placed_value g.F.ExactField.value (drop l.j l.columns)) (drop l.j l.bounded)) ≡ map (form.directed l.maximize) (form.reduced_from (map g.F.ExactField.value l.costs) (slack_multiplier g.F.ExactField.value l.slacks) l.first (placed_value g.F.ExactField.value l.columns) l.bounded);
    }
