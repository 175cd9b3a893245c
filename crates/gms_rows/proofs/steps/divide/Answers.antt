use Rattle.std.proofs.Common.{◌≢◌, ◌≤◌, pos, Ok, Err, ap, sym, ◌∙◌, arith}
use Rattle.std.proofs.lemmas.Bool.{both_ways}
use Rattle.gq_number.specs.Number.{whole}
use Rattle.gq_extended.specs.Extended.{number}
use Rattle.lp_form.specs.Forms.{quotient_step}
use Rattle.gms_eval.specs.Faults.{faulted}
use Rattle.gms_eval.specs.declared.stop.StopKind.TheVariants.{Divide}
use Rattle.gms_eval.proofs.Answering.{stops-same}
use Rattle.gms_eval.proofs.Marks.{stops-shown}
use Rattle.gms_rows.specs.Forms.{form_in, number_in_form, entries_by, where_fits, quotient_of}
use Rattle.gms_rows.proofs.FormSteps.{told-quotient}
use Rattle.gms_rows.proofs.Faulting.{stops-told, over-zero, over-some}
use Rattle.gms_rows.proofs.steps.divide.Goals as goal

pub returns-then-is_zero : goal.returns-then-is_zero
returns-then-is_zero g c =
    let v = g.F.ExactField.value in
    stops-shown v c.at_step.result (faulted Divide c.args.at c.args.b.now (number (v c.offset.result)) (number (v c.args.x))) (quotient_of g.F.ExactField.limit c.args.at c.args.b.now (form_in v c.args.form.now) (v c.args.x)) (over-zero g.F.ExactField.limit c.args.at c.args.b.now (form_in v c.args.form.now) (v c.args.x) (c.is_zero.ensures.0 c.if-is_zero.true) ∙ ap (λ x. Err (faulted Divide c.args.at c.args.b.now (number (v x)) (number (v c.args.x)))) (sym c.offset.ensures)) c.at_step.ensures

pub returns-in-Ok : goal.returns-in-Ok
returns-in-Ok g c =
    let some : 1 ≤ g.F.ExactField.limit = omega (arith, g.met.F.ExactField.limit_range.0) in
    let v = g.F.ExactField.value in
    let form = form_in v c.args.form.now in
    over-some g.F.ExactField.limit c.args.at c.args.b.now form (v c.args.x) (λ zero. both_ways c.is_zero.result c.if-is_zero.false (c.is_zero.ensures.1 zero))
    ∙ ap (where_fits c.args.at c.args.b.now (number_in_form form) (λ _. number (v c.args.x))) (told-quotient v g.F.ExactField.limit some c.args.form.now (v c.args.x) (Ok c.in-Ok.quotient) c.keys.ensures.form c.in-Ok.ensures)

pub returns-in-Err : goal.returns-in-Err
returns-in-Err g c =
    let some : 1 ≤ g.F.ExactField.limit = omega (arith, g.met.F.ExactField.limit_range.0) in
    let v = g.F.ExactField.value in
    let form = form_in v c.args.form.now in
    let other : v c.args.x ≢ whole (pos 0) = λ zero. both_ways c.is_zero.result c.if-is_zero.false (c.is_zero.ensures.1 zero) in
    stops-same v c.with_number.result _ _ (over-some g.F.ExactField.limit c.args.at c.args.b.now form (v c.args.x) other) (stops-told v c.args.at c.args.b.now (number_in_form form) (λ _. number (v c.args.x)) c.in-Err.fault c.with_number.result (entries_by (quotient_step g.F.ExactField.limit) form (v c.args.x)) (told-quotient v g.F.ExactField.limit some c.args.form.now (v c.args.x) (Err c.in-Err.fault) c.keys.ensures.form c.in-Err.ensures) c.with_number.ensures)
