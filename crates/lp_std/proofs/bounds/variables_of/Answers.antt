use Rattle.std.proofs.Common.{◌+◌, arith}
use Rattle.std.proofs.lemmas.List.Sums.{sum_by-take-le}
use Rattle.lp_core.specs.StandardForm as form
use Rattle.lp_core.proofs.ShapeSteps.{counted_more, counted_all}
use Rattle.lp_std.specs.declared.types.Shift.{Shift}
use Rattle.lp_std.specs.Meaning.{shift_value}
use Rattle.lp_std.proofs.bounds.variables_of.Goals as goal

pub overflow_add-count : goal.overflow_add-count
overflow_add-count g c =
    let width = λ (s : Shift _). form.width (shift_value g.F.ExactField.value s) in
    let more = counted_more width c.args.shifts.now c.loop-shift.shift-index c.shift-item.result c.loop-shift-test.true c.shift-item.is in
    let all = sum_by-take-le width c.args.shifts.now (c.loop-shift.shift-index + 1) in
    omega (arith, more, all, c.width_of-count.ensures, c.loop-shift.invariant, c.requires)

pub loop-shift-preserved : goal.loop-shift-preserved
loop-shift-preserved g c =
    let width = λ (s : Shift _). form.width (shift_value g.F.ExactField.value s) in
    let more = counted_more width c.args.shifts.now c.loop-shift.shift-index c.shift-item.result c.loop-shift-test.true c.shift-item.is in
    omega (arith, more, c.width_of-count.ensures, c.loop-shift.invariant)

pub returns : goal.returns
returns g c =
    let all = counted_all (λ (s : Shift _). form.width (shift_value g.F.ExactField.value s)) c.args.shifts.now c.loop-shift.shift-index (omega arith) in
    omega (arith, all, c.loop-shift.invariant)
