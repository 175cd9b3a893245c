use Rattle.std.proofs.Common.{◌≡◌, ◌∙◌, sym, ap, subst}
use Rattle.lp_form.specs.Forms.{coefficient}
use Rattle.lp_form.specs.Shown.{shown}
use Rattle.lp_form.proofs.sum.FormSum.get.Goals as goal

pub returns-in-List : goal.returns-in-List
returns-in-List g c =
    subst (λ a. g.F.ExactField.value c.get.result ≡ coefficient g.F.ExactField.value a c.args.k.now) (ap shown (sym c.in-List.is) ∙ c.self.view_is) c.get.ensures

pub returns-in-Map : goal.returns-in-Map
returns-in-Map g c =
    subst (λ a. g.F.ExactField.value c.get-in-Map.result ≡ coefficient g.F.ExactField.value a c.args.k.now) (ap shown (sym c.in-Map.is) ∙ c.self.view_is) c.get-in-Map.ensures
