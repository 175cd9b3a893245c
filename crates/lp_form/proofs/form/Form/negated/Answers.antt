use Rattle.std.proofs.Common.{◌∙◌, ap, subst, map}
use Rattle.gq_number.specs.Number.{neg_ℚ}
use Rattle.lp_form.specs.Affine.{IsForm}
use Rattle.lp_form.proofs.Results.{negated-IsForm}
use Rattle.lp_form.proofs.form.Form.negated.Goals as goal

pub invariant_of-result : goal.invariant_of-result
invariant_of-result g c =
    negated-IsForm g.F.ExactField.value c.neg.result c.args.self.now c.in_ok-copied.field-0.items c.in_ok-negated.field-0.items
    (subst (IsForm g.F.ExactField.value) c.self.view_is c.self.invariant)
    (c.in_ok-copied.ensures ∙ c.as_slice.ensures.value ∙ ap (λ a. a.keys) c.self.view_is)
    (c.in_ok-negated.ensures ∙ ap (map (λ x. neg_ℚ (g.F.ExactField.value x))) (c.as_slice-2.ensures.value ∙ ap (λ a. a.numbers) c.self.view_is))
