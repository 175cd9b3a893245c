use Rattle.std.proofs.Common.{◌≡◌, pos, map, take, drop}
use Rattle.gq_number.specs.Number.{whole}
use Rattle.lp_core.specs.Sums.{row_sum}
use Rattle.lp_core.specs.Steps.{row_level_steps}
use Rattle.lp_std.specs.InnerSteps.{first_stop}
use Rattle.lp_std.proofs.levels.row_level_of.Given as goal

abbrev pub invariant-loop-column : goal.invariant-loop-column
invariant-loop-column g l =
    record {
      counted : l.entry ≡ l.column-index;
      steps : first_stop (row_level_steps g.F.ExactField.value g.F.ExactField.limit l.i 0 (whole (pos 0)) l.entries (map g.F.ExactField.value l.levels)) ≡ first_stop (row_level_steps g.F.ExactField.value g.F.ExactField.limit l.i l.column-index (g.F.ExactField.value l.sum) (drop l.column-index l.entries) (map g.F.ExactField.value l.levels));
      summed : g.F.ExactField.value l.sum ≡ row_sum g.F.ExactField.value (take l.column-index l.entries) (map g.F.ExactField.value l.levels);
    }
