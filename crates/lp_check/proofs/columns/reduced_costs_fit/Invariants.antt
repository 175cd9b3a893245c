use Rattle.std.proofs.Common.{map, drop}
use Rattle.lp_check.specs.BoundSteps.{all_reduced_steps}
use Rattle.lp_check.specs.Partials.{costs_of}
use Rattle.lp_check.proofs.Fits.{Counting}
use Rattle.lp_check.proofs.columns.reduced_costs_fit.Given as goal

abbrev pub invariant-loop-j : goal.invariant-loop-j
invariant-loop-j g l =
    Counting 0 l.taken
    (all_reduced_steps g.F.ExactField.value g.F.ExactField.limit (costs_of l.objective) l.rows (map g.F.ExactField.value l.duals) 0 l.columns)
    (all_reduced_steps g.F.ExactField.value g.F.ExactField.limit (costs_of l.objective) l.rows (map g.F.ExactField.value l.duals) l.j (drop l.j l.columns))
