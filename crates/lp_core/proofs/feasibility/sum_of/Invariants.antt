use Rattle.std.proofs.Common.{◌≡◌, ◌+◌, ◌*◌, drop, map, pos}
use Rattle.gq_number.specs.Number.{whole}
use Rattle.lp_core.specs.Steps.{checked_sum}
use Rattle.lp_core.proofs.feasibility.sum_of.Given as goal

abbrev pub invariant-loop-column : goal.invariant-loop-column
invariant-loop-column g l =
    record {
      counted : l.step ≡ l.first + 2 * l.column-index;
      so_far : checked_sum g.F.ExactField.value g.F.ExactField.limit (map g.F.ExactField.value l.x) l.first (whole (pos 0)) l.entries ≡ checked_sum g.F.ExactField.value g.F.ExactField.limit (map g.F.ExactField.value l.x) l.step (g.F.ExactField.value l.sum) (drop l.column-index l.entries);
    }
