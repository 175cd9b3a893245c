use Rattle.std.proofs.Common.{◌∙◌, ◌≤◌, Err, ap, subst, arith}
use Rattle.gq_number.specs.Number.{◌+ℚ◌}
use Rattle.gq_number.proofs.Field.{+ℚ-zero}
use Rattle.lp_form.specs.Forms.{sum_form_step, of_two, IsEntrywiseAnswer}
use Rattle.lp_form.proofs.SumTerms.{term-added, term-no_fault}
use Rattle.lp_form.proofs.entries.add_term.Goals as goal

pub returns-in-Ok-clause-constant : goal.returns-in-Ok-clause-constant
returns-in-Ok-clause-constant g c =
    c.in-Ok.ensures.value.0 ∙ ap (λ z. g.F.ExactField.value c.args.form.now.constant +ℚ z) c.in_ok-term.ensures.constant ∙ +ℚ-zero (g.F.ExactField.value c.args.form.now.constant)

pub returns-in-Ok-clause-numbers : goal.returns-in-Ok-clause-numbers
returns-in-Ok-clause-numbers g c =
    λ k. c.in-Ok.ensures.value.1 k ∙ term-added g.F.ExactField.value c.args.form.now c.in_ok-term.term c.args.key (g.F.ExactField.value c.args.number) c.requires.absent c.in_ok-term.ensures.numbers k

pub unreachable-requires : goal.unreachable-requires
unreachable-requires g c =
    let some : 1 ≤ g.F.ExactField.limit = omega (arith, g.met.F.ExactField.limit_range.0) in
    let v = g.F.ExactField.value in
    term-no_fault v c.args.form.now c.in_ok-term.term c.args.key (v c.args.number) c.requires.absent c.in_ok-term.ensures.numbers g.F.ExactField.limit g.met.F.ExactField.within some (g.met.F.ExactField.within c.args.number) c.in-Err-Limit.field-0-0 c.in_ok-term.ensures.constant (subst (λ fault. IsEntrywiseAnswer v (of_two (sum_form_step g.F.ExactField.limit) v c.args.form.now c.in_ok-term.term) (Err fault)) c.in-Err-Limit.field-0-is c.in-Err-Limit.ensures.value)
