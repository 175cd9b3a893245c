use Rattle.std.proofs.Common.{◌≤◌, ◌∙◌, ap, arith}
use Rattle.std.proofs.lemmas.Result.{err_from_is_err_and}
use Rattle.gq_number.specs.Number.{neg_ℚ}
use Rattle.gms_rows.proofs.FormSteps.{told-increased, told-lessened, told-negated_fault}
use Rattle.gms_rows.proofs.steps.increase.Goals as goal

pub returns-then-not-subtracts-clause-value : goal.returns-then-not-subtracts-clause-value
returns-then-not-subtracts-clause-value g c =
    let some : 1 ≤ g.F.ExactField.limit = omega (arith, g.met.F.ExactField.limit_range.0) in
    told-increased g.F.ExactField.value g.F.ExactField.limit some c.args.subtracts c.args.form.now c.args.other.now _ c.if-not-subtracts.true c.keys.ensures.form c.keys-2.ensures.form c.add_assign.ensures.value

pub returns-in_err-negated-clause-value : goal.returns-in_err-negated-clause-value
returns-in_err-negated-clause-value g c =
    let p = err_from_is_err_and c.from_residual.result c.from_residual.ensures.1 in
    let some : 1 ≤ g.F.ExactField.limit = omega (arith, g.met.F.ExactField.limit_range.0) in
    rw (p.1, p.2) (told-negated_fault g.F.ExactField.value g.F.ExactField.limit some g.met.F.ExactField.within c.args.other.now _ c.in_err-negated.field-0.0 _ (c.neg.ensures ∙ ap neg_ℚ c.one.ensures) c.in_err-negated.ensures)

pub returns-clause-value : goal.returns-clause-value
returns-clause-value g c =
    let some : 1 ≤ g.F.ExactField.limit = omega (arith, g.met.F.ExactField.limit_range.0) in
    told-lessened g.F.ExactField.value g.F.ExactField.limit some c.args.subtracts c.args.form.now c.args.other.now c.in_ok-negated.negated _ _ c.if-not-subtracts.false (c.neg.ensures ∙ ap neg_ℚ c.one.ensures) c.keys.ensures.form c.keys-2.ensures.form c.in_ok-negated.ensures c.add_assign-2.ensures.value
