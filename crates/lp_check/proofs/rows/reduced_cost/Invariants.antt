use Rattle.std.proofs.Common.{map, drop}
use Rattle.lp_check.specs.BoundSteps.{reduced_cost_bound_steps}
use Rattle.lp_check.specs.Partials.{reduced_sum}
use Rattle.lp_check.proofs.Fits.{Going}
use Rattle.lp_check.proofs.rows.reduced_cost.Given as goal

abbrev pub invariant-loop-i : goal.invariant-loop-i
invariant-loop-i g l =
    Going g.F.ExactField.value l.fn.cost.taken l.partial.taken
    (reduced_cost_bound_steps g.F.ExactField.value g.F.ExactField.limit l.column (g.F.ExactField.value l.fn.cost.sum) l.rows (map g.F.ExactField.value l.duals))
    (reduced_cost_bound_steps g.F.ExactField.value g.F.ExactField.limit l.column (g.F.ExactField.value l.partial.sum) (drop l.i l.rows) (drop l.i (map g.F.ExactField.value l.duals)))
    (reduced_sum g.F.ExactField.value l.column (g.F.ExactField.value l.fn.cost.sum) l.rows (map g.F.ExactField.value l.duals))
    (reduced_sum g.F.ExactField.value l.column (g.F.ExactField.value l.partial.sum) (drop l.i l.rows) (drop l.i (map g.F.ExactField.value l.duals)))
