use Rattle.std.proofs.Common.{◌+◌, arith, ◌∙◌}
use Rattle.std.proofs.lemmas.List.Sums.{sum_by-take-le}
use Rattle.lp_core.specs.StandardForm as form
use Rattle.lp_core.proofs.ShapeSteps.{counted_more}
use Rattle.lp_std.specs.declared.types.Shift.{Shift}
use Rattle.lp_std.specs.Meaning.{shift_value}
use Rattle.lp_std.proofs.LoopSteps.{numbered_goes, numbered_ends}
use Rattle.lp_std.proofs.bounds.placed.Goals as goal

pub overflow_add-next : goal.overflow_add-next
overflow_add-next g c =
    let width = λ (s : Shift _). form.width (shift_value g.F.ExactField.value s) in
    let more = counted_more width c.args.shifts.now c.loop-shift.shift-index c.shift-item.result c.loop-shift-test.true c.shift-item.is in
    let all = sum_by-take-le width c.args.shifts.now (c.loop-shift.shift-index + 1) in
    omega (arith, more, all, c.width_of-next.ensures, c.loop-shift.invariant.counted, c.requires)

pub loop-shift-preserved : goal.loop-shift-preserved
loop-shift-preserved g c =
    let width = λ (s : Shift _). form.width (shift_value g.F.ExactField.value s) in
    let more = counted_more width c.args.shifts.now c.loop-shift.shift-index c.shift-item.result c.loop-shift-test.true c.shift-item.is in
    record {
      counted = omega (arith, more, c.width_of-next.ensures, c.loop-shift.invariant.counted);
      numbers = rw (c.in_ok-push.ensures.items, c.width_of-next.ensures) (numbered_goes g.F.ExactField.value c.loop-shift.placed.items c.args.shifts.now c.loop-shift.shift-index c.loop-shift.next c.shift-item.result c.loop-shift-test.true c.shift-item.is ∙ c.loop-shift.invariant.numbers);
    }

pub returns : goal.returns
returns g c =
    numbered_ends g.F.ExactField.value c.loop-shift.placed.items c.args.shifts.now c.loop-shift.shift-index c.loop-shift.next (omega arith) ∙ c.loop-shift.invariant.numbers
