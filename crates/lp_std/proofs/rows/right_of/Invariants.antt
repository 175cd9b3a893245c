use Rattle.std.proofs.Common.{◌≡◌, drop}
use Rattle.lp_core.specs.Steps.{row_steps}
use Rattle.lp_std.specs.InnerSteps.{first_stop, placed_value, right_after}
use Rattle.lp_std.proofs.rows.right_of.Given as goal

abbrev pub invariant-loop-column : goal.invariant-loop-column
invariant-loop-column g l =
    record {
      steps : first_stop (row_steps g.F.ExactField.value g.F.ExactField.limit (placed_value g.F.ExactField.value l.columns) l.row (g.F.ExactField.value l.fn.right) l.entries) ≡ first_stop (row_steps g.F.ExactField.value g.F.ExactField.limit (placed_value g.F.ExactField.value l.columns) l.row (g.F.ExactField.value l.left) (drop l.column-index l.entries));
      value : right_after g.F.ExactField.value (placed_value g.F.ExactField.value l.columns) (g.F.ExactField.value l.fn.right) l.entries ≡ right_after g.F.ExactField.value (placed_value g.F.ExactField.value l.columns) (g.F.ExactField.value l.left) (drop l.column-index l.entries);
    }
