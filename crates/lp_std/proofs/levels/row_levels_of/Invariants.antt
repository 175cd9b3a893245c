use Rattle.std.proofs.Common.{◌≡◌, ℕ, pos, map, take}
use Rattle.std.specs.Prelude.{flat_map}
use Rattle.std.specs.List.{enumerate_from}
use Rattle.gq_number.specs.Number.{whole}
use Rattle.lp_core.specs.declared.program.Row.{Row}
use Rattle.lp_core.specs.Sums.{row_sum}
use Rattle.lp_core.specs.Steps.{row_level_steps}
use Rattle.lp_std.specs.InnerSteps.{first_stop}
use Rattle.lp_std.proofs.EntryLists.{traversal}
use Rattle.lp_std.proofs.levels.row_levels_of.Given as goal

abbrev pub invariant-loop-i : goal.invariant-loop-i
invariant-loop-i g l =
    record {
      steps : first_stop (flat_map (λ p. row_level_steps g.F.ExactField.value g.F.ExactField.limit p.0 0 (whole (pos 0)) p.1.entries (map g.F.ExactField.value l.levels)) (enumerate_from 0 l.rows)) ≡ first_stop (traversal (λ (row : Row _). row) (λ (p : ℕ × Row _). row_level_steps g.F.ExactField.value g.F.ExactField.limit p.0 0 (whole (pos 0)) p.1.entries (map g.F.ExactField.value l.levels)) l.rows l.i);
      made : map g.F.ExactField.value l.sums.items ≡ map (λ (row : Row _). row_sum g.F.ExactField.value row.entries (map g.F.ExactField.value l.levels)) (take l.i l.rows);
    }
