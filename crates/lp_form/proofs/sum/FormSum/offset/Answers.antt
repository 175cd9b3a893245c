use Rattle.std.proofs.Common.{◌≡◌, ◌∙◌, sym, ap, subst}
use Rattle.lp_form.specs.Affine.{IsForm}
use Rattle.lp_form.specs.Shown.{shown}
use Rattle.lp_form.proofs.sum.FormSum.offset.Goals as goal

pub returns-in-List-clause-constant : goal.returns-in-List-clause-constant
returns-in-List-clause-constant g c =
    subst (λ a. c.offset.result ≡ a.constant) (ap shown (sym c.in-List.is) ∙ c.self.view_is) c.offset.ensures

pub returns-in-List-clause-form : goal.returns-in-List-clause-form
returns-in-List-clause-form g c =
    subst (IsForm g.F.ExactField.value) (ap shown (sym c.in-List.is) ∙ c.self.view_is) c.keys.ensures.form

pub returns-in-Map-clause-constant : goal.returns-in-Map-clause-constant
returns-in-Map-clause-constant g c =
    subst (λ a. c.offset-in-Map.result ≡ a.constant) (ap shown (sym c.in-Map.is) ∙ c.self.view_is) c.offset-in-Map.ensures.constant

pub returns-in-Map-clause-form : goal.returns-in-Map-clause-form
returns-in-Map-clause-form g c =
    subst (IsForm g.F.ExactField.value) (ap shown (sym c.in-Map.is) ∙ c.self.view_is) c.offset-in-Map.ensures.form
