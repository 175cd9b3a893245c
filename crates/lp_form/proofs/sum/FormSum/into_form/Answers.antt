use Rattle.std.proofs.Common.{◌≡◌, ◌∙◌, sym, ap, subst, IfOk}
use Rattle.lp_form.specs.declared.key.Key.{Key}
use Rattle.lp_form.specs.Forms.{coefficient}
use Rattle.lp_form.specs.Shown.{shown}
use Rattle.lp_form.proofs.sum.FormSum.into_form.Goals as goal

pub returns-in-List-clause-constant : goal.returns-in-List-clause-constant
returns-in-List-clause-constant g c =
    ap (λ a. g.F.ExactField.value a.constant) (ap shown (sym c.in-List.is) ∙ c.self.view_is)

pub returns-in-List-clause-numbers : goal.returns-in-List-clause-numbers
returns-in-List-clause-numbers g c =
    λ key. ap (λ a. coefficient g.F.ExactField.value a key) (ap shown (sym c.in-List.is) ∙ c.self.view_is)

pub returns-in-Map-clause-constant : goal.returns-in-Map-clause-constant
returns-in-Map-clause-constant g c =
    subst (λ a. IfOk c.into_form.result (λ form. g.F.ExactField.value form.constant ≡ g.F.ExactField.value a.constant)) (ap shown (sym c.in-Map.is) ∙ c.self.view_is) c.into_form.ensures.constant

pub returns-in-Map-clause-numbers : goal.returns-in-Map-clause-numbers
returns-in-Map-clause-numbers g c =
    subst (λ a. IfOk c.into_form.result (λ form. (key : Key) → coefficient g.F.ExactField.value form key ≡ coefficient g.F.ExactField.value a key)) (ap shown (sym c.in-Map.is) ∙ c.self.view_is) c.into_form.ensures.numbers
