use Rattle.std.proofs.Common.{◌≡◌, ◌+◌, ◌++◌, drop, map, length}
use Rattle.lp_core.specs.Steps.{rows_steps, count_of_rows}
use Rattle.lp_std.specs.Meaning.{row_value}
use Rattle.lp_std.specs.InnerSteps.{first_stop, placed_value, rows_over}
use Rattle.lp_std.proofs.rows.rows_of.Given as goal

abbrev pub invariant-loop-i : goal.invariant-loop-i
invariant-loop-i g l =
    record {
      counted : length l.rows.items + count_of_rows (drop l.i l.program) ≡ count_of_rows l.program;
      steps : first_stop (rows_steps g.F.ExactField.value g.F.ExactField.limit (placed_value g.F.ExactField.value l.columns) 1 l.program) ≡ first_stop (rows_steps g.F.ExactField.value g.F.ExactField.limit (placed_value g.F.ExactField.value l.columns) (length l.rows.items + 1) (drop l.i l.program));
      made : map (row_value g.F.ExactField.value) l.rows.items ++ rows_over g.F.ExactField.value (placed_value g.F.ExactField.value l.columns) l.i (drop l.i l.program) ≡ rows_over g.F.ExactField.value (placed_value g.F.ExactField.value l.columns) 0 l.program;
    }
