use Rattle.std.proofs.Common.{if◌then◌else◌, ap, subst}
use Rattle.lp_form.specs.Forms.{sum_form_step, difference_step}
use Rattle.gms_rows.specs.Forms.{form_in, number_in_form, where_fits, entries_of_two}
use Rattle.gms_rows.specs.InnerContracts.{ShowsFault}
use Rattle.gms_rows.proofs.Faulting.{stops-told}
use Rattle.gms_rows.proofs.steps.add.Goals as goal

pub returns-in-Ok : goal.returns-in-Ok
returns-in-Ok g c =
    ap (where_fits c.args.at c.args.b.now (number_in_form (form_in g.F.ExactField.value c.args.left)) (number_in_form (form_in g.F.ExactField.value c.args.right.now))) c.in-Ok.ensures.value

pub returns-in-Err : goal.returns-in-Err
returns-in-Err g c =
    let v = g.F.ExactField.value in
    let right = form_in v c.args.right.now in
    let steps = entries_of_two (if c.args.subtracts then difference_step g.F.ExactField.limit else sum_form_step g.F.ExactField.limit) (form_in v c.args.left) right in
    stops-told v c.args.at c.args.b.now (number_in_form (form_in v c.args.left)) (number_in_form right) c.in-Err.fault c.of_two.result steps c.in-Err.ensures.value (subst (λ left. ShowsFault v c.args.at c.args.b.now (number_in_form (form_in v left)) (number_in_form right) c.in-Err.fault c.of_two.result) c.in-Err.ensures.unchanged c.of_two.ensures)
