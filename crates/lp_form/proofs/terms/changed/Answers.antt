use Rattle.std.proofs.Common.{arith}
use Rattle.std.proofs.lemmas.Result.{err_from_is_err_and}
use Rattle.lp_form.specs.InnerOperations.{step_by}
use Rattle.lp_form.specs.InnerMerging.{Changes}
use Rattle.lp_form.proofs.LoopSteps.{on_fault, answered_err, answered_ok, turn_changed, turn_unchanged, changing-end}
use Rattle.lp_form.proofs.terms.changed.Goals as goal

pub returns-in_err-changed : goal.returns-in_err-changed
returns-in_err-changed g c =
    let p = err_from_is_err_and c.from_residual.result c.from_residual.ensures.1 in
    let step = step_by g.F.ExactField.value g.F.ExactField.limit c.args.operation in
    let number = g.F.ExactField.value c.index-numbers-i.result in
    rw (p.1, p.2) (on_fault (Changes g.F.ExactField.value step c.args.keys.now c.args.numbers.now) c.index-keys-i.result c.in_err-changed.field-0.0 c.in_err-changed.ensures.err.1
    (turn_unchanged g.F.ExactField.value step c.args.keys.now c.args.numbers.now c.loop-i.i c.loop-i.made.keys.items c.loop-i.made.numbers.items c.index-keys-i.result c.index-numbers-i.result c.loop-i.invariant (omega arith) c.requires.paired c.index-keys-i.is c.index-numbers-i.is
    (answered_err g.F.ExactField.value c.apply.result (step number).fits (step number).number c.apply.ensures c.in_err-changed.ensures.err.0)))

pub loop-i-preserved : goal.loop-i-preserved
loop-i-preserved g c =
    let step = step_by g.F.ExactField.value g.F.ExactField.limit c.args.operation in
    let number = g.F.ExactField.value c.index-numbers-i.result in
    let answered = answered_ok g.F.ExactField.value c.apply.result (step number).fits (step number).number c.in_ok-changed.changed c.apply.ensures c.in_ok-changed.ensures.ok in
    turn_changed g.F.ExactField.value step c.args.keys.now c.args.numbers.now c.loop-i.i c.loop-i.made c.push_unless_zero.new.self c.index-keys-i.result c.index-numbers-i.result c.in_ok-changed.changed c.loop-i.invariant (omega arith) c.requires.paired c.index-keys-i.is c.index-numbers-i.is answered.0 answered.1 c.in_ok-push_unless_zero.ensures

pub returns : goal.returns
returns g c =
    changing-end g.F.ExactField.value (step_by g.F.ExactField.value g.F.ExactField.limit c.args.operation) c.args.keys.now c.args.numbers.now c.loop-i.i c.loop-i.made.keys.items c.loop-i.made.numbers.items c.loop-i.invariant (omega arith) c.requires.paired
