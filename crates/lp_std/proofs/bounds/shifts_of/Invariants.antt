use Rattle.std.proofs.Common.{◌≡◌, take, map}
use Rattle.lp_core.specs.Feasible.{bound_value}
use Rattle.lp_core.specs.StandardForm as form
use Rattle.lp_std.specs.Meaning.{shift_value}
use Rattle.lp_std.proofs.bounds.shifts_of.Given as goal

abbrev pub invariant-loop-column : goal.invariant-loop-column
invariant-loop-column g l =
    map (shift_value g.F.ExactField.value) l.shifts.items ≡ map (λ column. form.shift_of (bound_value g.F.ExactField.value column.lower) (bound_value g.F.ExactField.value column.upper)) (take l.column-index l.columns)
