use Rattle.std.proofs.Common.{◌≤◌, Ok, Err, ap, arith}
use Rattle.gq_extended.specs.Extended.{number}
use Rattle.lp_form.specs.Forms.{product_form_step}
use Rattle.gms_rows.specs.Forms.{form_in, number_in_form, entries_by, where_fits}
use Rattle.gms_rows.proofs.FormSteps.{told-product}
use Rattle.gms_rows.proofs.Faulting.{stops-told}
use Rattle.gms_rows.proofs.steps.multiple.Goals as goal

pub returns-in-Ok : goal.returns-in-Ok
returns-in-Ok g c =
    let some : 1 ≤ g.F.ExactField.limit = omega (arith, g.met.F.ExactField.limit_range.0) in
    ap (where_fits c.args.at c.args.b.now (λ _. number (g.F.ExactField.value c.args.x)) (number_in_form (form_in g.F.ExactField.value c.args.form.now))) (told-product g.F.ExactField.value g.F.ExactField.limit some c.args.form.now (g.F.ExactField.value c.args.x) (Ok c.in-Ok.product) c.keys.ensures.form c.in-Ok.ensures)

pub returns-in-Err : goal.returns-in-Err
returns-in-Err g c =
    let some : 1 ≤ g.F.ExactField.limit = omega (arith, g.met.F.ExactField.limit_range.0) in
    stops-told g.F.ExactField.value c.args.at c.args.b.now (λ _. number (g.F.ExactField.value c.args.x)) (number_in_form (form_in g.F.ExactField.value c.args.form.now)) c.in-Err.fault c.after_number.result (entries_by (product_form_step g.F.ExactField.limit) (form_in g.F.ExactField.value c.args.form.now) (g.F.ExactField.value c.args.x)) (told-product g.F.ExactField.value g.F.ExactField.limit some c.args.form.now (g.F.ExactField.value c.args.x) (Err c.in-Err.fault) c.keys.ensures.form c.in-Err.ensures) c.after_number.ensures
