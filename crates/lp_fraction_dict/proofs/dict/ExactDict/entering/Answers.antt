use Rattle.std.proofs.Common.{ap, subst, sym, refl, ◌∙◌, ◌≡◌, inl, inr, Some, length}
use Rattle.std.specs.Prelude.{slice_get, Contains}
use Rattle.lp_fraction_dict.specs.Tableau.{IsTableau}
use Rattle.lp_fraction_dict.proofs.Kept.{place_at_row, objective_after}
use Rattle.lp_fraction_dict.proofs.Pricing.{entering_tells}
use Rattle.lp_fraction_dict.proofs.dict.ExactDict.entering.Goals as goal

pub returns-in-Some : goal.returns-in-Some
returns-in-Some g c =
    let at = subst (λ b. slice_get b c.in-Some.place ≡ Some 0) (c.as_slice.ensures.value ∙ ap (λ t. t.basic) c.self.view_is) c.in-Some.ensures in
    let inv = subst (IsTableau g.F.ExactField.value) c.self.view_is c.self.invariant in
    entering_tells g.F.ExactField.value c.args.self.now inv c.in-Some.place (inl at) c.as_slice-in-Some.result.now (c.as_slice-in-Some.ensures.value ∙ place_at_row g.F.ExactField.value c.args.self.now inv c.self.inside.rows.items c.index.result.now c.in-Some.place 0 (ap (λ t. t.rows) c.self.view_is) at c.index.ensures) c.first_above.result c.first_above.ensures

pub returns-in-None : goal.returns-in-None
returns-in-None g c =
    let none = subst (λ b. ¬ (Contains b 0)) (c.as_slice.ensures.value ∙ ap (λ t. t.basic) c.self.view_is) c.in-None.ensures in
    let inv = subst (IsTableau g.F.ExactField.value) c.self.view_is c.self.invariant in
    entering_tells g.F.ExactField.value c.args.self.now inv (length c.args.self.now.basic) (inr (none, refl)) c.as_slice-in-None.result.now (c.as_slice-in-None.ensures.value ∙ ap (λ t. t.objective) c.self.view_is ∙ sym (objective_after g.F.ExactField.value c.args.self.now inv)) c.first_above-in-None.result c.first_above-in-None.ensures
