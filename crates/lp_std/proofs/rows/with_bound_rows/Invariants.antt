use Rattle.std.proofs.Common.{◌≡◌, ◌+◌, ◌++◌, drop, map, length}
use Rattle.std.specs.Prelude.{sum_by}
use Rattle.lp_core.specs.StandardForm as form
use Rattle.lp_core.specs.Steps.{bounds_steps}
use Rattle.lp_std.specs.Meaning.{row_value}
use Rattle.lp_std.specs.InnerSteps.{first_stop, placed_value, bounds_over}
use Rattle.lp_std.proofs.rows.with_bound_rows.Given as goal

abbrev pub invariant-loop-j : goal.invariant-loop-j
invariant-loop-j g l =
    record {
      counted : length l.all.items + sum_by (λ column. form.rows_of_bounds column.lower column.upper) (drop l.j l.bounded) ≡ length l.fn.rows.items + sum_by (λ column. form.rows_of_bounds column.lower column.upper) l.bounded;
      steps : first_stop (bounds_steps g.F.ExactField.value g.F.ExactField.limit (length l.fn.rows.items + 1) 0 l.bounded) ≡ first_stop (bounds_steps g.F.ExactField.value g.F.ExactField.limit (length l.all.items + 1) l.j (drop l.j l.bounded));
      made : map (row_value g.F.ExactField.value) l.all.items ++ bounds_over g.F.ExactField.value (placed_value g.F.ExactField.value l.columns) l.j (drop l.j l.bounded) ≡ map (row_value g.F.ExactField.value) l.fn.rows.items ++ bounds_over g.F.ExactField.value (placed_value g.F.ExactField.value l.columns) 0 l.bounded;
    }
