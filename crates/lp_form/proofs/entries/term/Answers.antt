use Rattle.std.proofs.Common.{◌∙◌, ◌≤◌, Err, ap, subst, arith}
use Rattle.gq_number.specs.Number.{◌*ℚ◌}
use Rattle.gq_number.proofs.Ring.{zero-*ℚ}
use Rattle.lp_form.specs.Forms.{product_form_step, by_number, IsEntrywiseAnswer}
use Rattle.lp_form.proofs.SumTerms.{column-times, column-no_fault}
use Rattle.lp_form.proofs.entries.term.Goals as goal

pub returns-in-Ok-clause-constant : goal.returns-in-Ok-clause-constant
returns-in-Ok-clause-constant g c =
    c.in-Ok.ensures.0 ∙ ap (λ z. z *ℚ g.F.ExactField.value c.args.number) c.in_ok-column.ensures.constant ∙ zero-*ℚ (g.F.ExactField.value c.args.number)

pub returns-in-Ok-clause-numbers : goal.returns-in-Ok-clause-numbers
returns-in-Ok-clause-numbers g c =
    λ k. c.in-Ok.ensures.1 k ∙ column-times g.F.ExactField.value c.in_ok-column.column c.args.key c.in_ok-column.ensures.keys c.in_ok-column.ensures.number (g.F.ExactField.value c.args.number) k

pub unreachable-requires : goal.unreachable-requires
unreachable-requires g c =
    let some : 1 ≤ g.F.ExactField.limit = omega (arith, g.met.F.ExactField.limit_range.0) in
    let v = g.F.ExactField.value in
    column-no_fault v c.in_ok-column.column c.args.key c.in_ok-column.ensures.keys c.in_ok-column.ensures.number g.F.ExactField.limit some (v c.args.number) c.in-Err-Limit.field-0-0 (g.met.F.ExactField.within c.args.number) c.in_ok-column.ensures.constant (subst (λ fault. IsEntrywiseAnswer v (by_number (product_form_step g.F.ExactField.limit) v c.in_ok-column.column (v c.args.number)) (Err fault)) c.in-Err-Limit.field-0-is c.in-Err-Limit.ensures)
