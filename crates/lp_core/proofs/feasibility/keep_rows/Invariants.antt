use Rattle.std.proofs.Common.{◌≡◌, ◌+◌, drop, map}
use Rattle.lp_core.specs.Steps.{checked_rows, steps_of_rows}
use Rattle.lp_core.proofs.feasibility.keep_rows.Given as goal

abbrev pub invariant-loop-row : goal.invariant-loop-row
invariant-loop-row g l =
    record {
      counted : l.step + steps_of_rows (drop l.row-index l.rows) ≡ steps_of_rows l.rows;
      so_far : checked_rows g.F.ExactField.value g.F.ExactField.limit (map g.F.ExactField.value l.x) 0 l.rows ≡ checked_rows g.F.ExactField.value g.F.ExactField.limit (map g.F.ExactField.value l.x) l.step (drop l.row-index l.rows);
    }
