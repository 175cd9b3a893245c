use Rattle.std.proofs.Common.{◌≤◌, Ok, Err, ap, arith}
use Rattle.lp_form.specs.Forms.{sum_form_step}
use Rattle.gms_rows.specs.Forms.{form_in, number_in_form, where_fits, entries_of_two}
use Rattle.gms_rows.proofs.FormSteps.{told-sum}
use Rattle.gms_rows.proofs.Faulting.{stops-told, shows-kept}
use Rattle.gms_rows.proofs.steps.add_to.Goals as goal

pub returns-in-Ok : goal.returns-in-Ok
returns-in-Ok g c =
    let some : 1 ≤ g.F.ExactField.limit = omega (arith, g.met.F.ExactField.limit_range.0) in
    let v = g.F.ExactField.value in
    ap (where_fits c.args.at c.args.b.now (number_in_form (form_in v c.args.sum.now)) (number_in_form (form_in v c.args.form.now))) (told-sum v g.F.ExactField.limit some c.args.sum.now c.args.form.now (Ok c.add_assign.new.self) c.offset.ensures.form c.keys.ensures.form c.in-Ok.ensures.value)

pub returns-in-Err : goal.returns-in-Err
returns-in-Err g c =
    let some : 1 ≤ g.F.ExactField.limit = omega (arith, g.met.F.ExactField.limit_range.0) in
    let v = g.F.ExactField.value in
    let left = number_in_form (form_in v c.args.sum.now) in
    let right = number_in_form (form_in v c.args.form.now) in
    stops-told v c.args.at c.args.b.now left right c.in-Err.fault c.of_sum.result (entries_of_two (sum_form_step g.F.ExactField.limit) (form_in v c.args.sum.now) (form_in v c.args.form.now)) (told-sum v g.F.ExactField.limit some c.args.sum.now c.args.form.now (Err c.in-Err.fault) c.offset.ensures.form c.keys.ensures.form c.in-Err.ensures.value) (shows-kept v c.args.at c.args.b.now right c.args.sum.now c.add_assign.new.self c.in-Err.fault c.of_sum.result c.in-Err.ensures.unchanged c.of_sum.ensures)
