use Rattle.std.proofs.Common.{◌≡◌, ◌<◌, None, length, map, drop}
use Rattle.lp_check.specs.BoundSteps.{all_reduced_steps, columns_steps, columns_sum}
use Rattle.lp_check.specs.Partials.{costs_of, reduced_costs, first_unfit}
use Rattle.lp_check.proofs.Fits.{Going}
use Rattle.lp_check.proofs.columns.columns_part.Given as goal

abbrev pub invariant-loop-j : goal.invariant-loop-j
invariant-loop-j g l =
    record {
      going : Going g.F.ExactField.value l.fn.start.taken l.partial.taken
          (columns_steps g.F.ExactField.value g.F.ExactField.limit l.above (reduced_costs g.F.ExactField.value (costs_of l.objective) l.rows (map g.F.ExactField.value l.duals)) (g.F.ExactField.value l.fn.start.sum) 0 l.columns)
          (columns_steps g.F.ExactField.value g.F.ExactField.limit l.above (reduced_costs g.F.ExactField.value (costs_of l.objective) l.rows (map g.F.ExactField.value l.duals)) (g.F.ExactField.value l.partial.sum) l.j (drop l.j l.columns))
          (columns_sum g.F.ExactField.value l.above (reduced_costs g.F.ExactField.value (costs_of l.objective) l.rows (map g.F.ExactField.value l.duals)) (g.F.ExactField.value l.fn.start.sum) 0 l.columns)
          (columns_sum g.F.ExactField.value l.above (reduced_costs g.F.ExactField.value (costs_of l.objective) l.rows (map g.F.ExactField.value l.duals)) (g.F.ExactField.value l.partial.sum) l.j (drop l.j l.columns));
      fit : first_unfit (all_reduced_steps g.F.ExactField.value g.F.ExactField.limit (costs_of l.objective) l.rows (map g.F.ExactField.value l.duals) l.j (drop l.j l.columns)) ≡ None;
      bounded : length (all_reduced_steps g.F.ExactField.value g.F.ExactField.limit (costs_of l.objective) l.rows (map g.F.ExactField.value l.duals) l.j (drop l.j l.columns)) < 18446744073709551616;
    }
