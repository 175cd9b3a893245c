use Rattle.std.proofs.Common.{◌≡◌, drop, map}
use Rattle.lp_core.specs.Steps.{bounds_hold}
use Rattle.lp_core.proofs.feasibility.keep_bounds.Given as goal

abbrev pub invariant-loop-j : goal.invariant-loop-j
invariant-loop-j g l =
    bounds_hold g.F.ExactField.value (map g.F.ExactField.value l.x) 0 l.columns ≡ bounds_hold g.F.ExactField.value (map g.F.ExactField.value l.x) l.j (drop l.j l.columns)
