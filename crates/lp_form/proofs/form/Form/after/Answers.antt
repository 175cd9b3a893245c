use Rattle.std.proofs.Common.{◌≤◌, subst, subst₂, arith, Ok, Err}
use Rattle.std.proofs.lemmas.Result.{err_from_is_err_and}
use Rattle.lp_form.specs.InnerOperations.{step_by}
use Rattle.lp_form.specs.Forms.{changed_form, IsEntrywiseAnswer}
use Rattle.lp_form.specs.InnerMerging.{OnOutcome, Changes}
use Rattle.lp_form.proofs.Results.{changed-IsForm, changed-Gives, changed-Gives_fault}
use Rattle.lp_form.proofs.form.Form.after.Goals as goal

pub returns-in_err-keys : goal.returns-in_err-keys
returns-in_err-keys g c =
    let p = err_from_is_err_and c.from_residual.result c.from_residual.ensures.1 in
    let some : 1 ≤ g.F.ExactField.limit = omega (arith, g.met.F.ExactField.limit_range.0) in
    let step = step_by g.F.ExactField.value g.F.ExactField.limit c.args.operation in
    let changes = subst₂ (λ keys numbers. OnOutcome (Changes g.F.ExactField.value step keys numbers) (Err c.in_err-keys.field-0.0)) c.as_slice.ensures.value c.as_slice-2.ensures.value c.in_err-keys.ensures in
    rw (p.1, p.2) (subst (λ a. IsEntrywiseAnswer g.F.ExactField.value (changed_form g.F.ExactField.value step a) (Err c.in_err-keys.field-0.0)) c.self.view_is
    (changed-Gives_fault g.F.ExactField.value g.F.ExactField.limit c.args.operation some (record { constant = c.self.inside.constant; keys = c.self.inside.keys.items; numbers = c.self.inside.numbers.items }) c.in_err-keys.field-0.0 c.self.invariant changes c.in-Ok.ensures.0))

pub invariant_of-result : goal.invariant_of-result
invariant_of-result g c =
    let step = step_by g.F.ExactField.value g.F.ExactField.limit c.args.operation in
    let changes = subst₂ (λ keys numbers. Changes g.F.ExactField.value step keys numbers (Ok (record { keys = c.in_ok-keys.field-0.keys.items; numbers = c.in_ok-keys.field-0.numbers.items }))) c.as_slice.ensures.value c.as_slice-2.ensures.value c.in_ok-keys.ensures in
    changed-IsForm g.F.ExactField.value g.F.ExactField.limit c.args.operation c.in-Ok.constant (record { constant = c.self.inside.constant; keys = c.self.inside.keys.items; numbers = c.self.inside.numbers.items }) c.in_ok-keys.field-0.keys.items c.in_ok-keys.field-0.numbers.items c.self.invariant changes

pub returns : goal.returns
returns g c =
    let some : 1 ≤ g.F.ExactField.limit = omega (arith, g.met.F.ExactField.limit_range.0) in
    let step = step_by g.F.ExactField.value g.F.ExactField.limit c.args.operation in
    let changes = subst₂ (λ keys numbers. Changes g.F.ExactField.value step keys numbers (Ok (record { keys = c.in_ok-keys.field-0.keys.items; numbers = c.in_ok-keys.field-0.numbers.items }))) c.as_slice.ensures.value c.as_slice-2.ensures.value c.in_ok-keys.ensures in
    subst (λ a. IsEntrywiseAnswer g.F.ExactField.value (changed_form g.F.ExactField.value step a) (Ok (record { constant = c.in-Ok.constant; keys = c.in_ok-keys.field-0.keys.items; numbers = c.in_ok-keys.field-0.numbers.items }))) c.self.view_is
    (changed-Gives g.F.ExactField.value g.F.ExactField.limit c.args.operation some c.in-Ok.constant (record { constant = c.self.inside.constant; keys = c.self.inside.keys.items; numbers = c.self.inside.numbers.items }) c.in_ok-keys.field-0.keys.items c.in_ok-keys.field-0.numbers.items c.self.invariant changes c.in-Ok.ensures.0 c.in-Ok.ensures.1)
