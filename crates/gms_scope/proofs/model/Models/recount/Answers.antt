use Rattle.std.proofs.Common.{◌≡◌, ◌≤◌, ◌∙◌, ap, sym, subst, length, take}
use Rattle.std.specs.List.{list_any}
use Rattle.std.proofs.lemmas.List.{get_or_default}
use Rattle.gms_scope.specs.declared.model.Model.{Model}
use Rattle.gms_scope.specs.Facts.{is_missing}
use Rattle.gms_scope.specs.Models.{equations_within, model_at}
use Rattle.gms_scope.proofs.Listed.{counted-at}
use Rattle.gms_scope.proofs.model.Models.recount.Goals as goal

pub defined_from-count-requires-clause-most : goal.defined_from-count-requires-clause-most
defined_from-count-requires-clause-most c =
    let equations = c.args.self.now.equations.items in
    let models = c.args.self.now.models.items in
    let is : c.index-model.result.now ≡ model_at models c.args.place = c.index-model.ensures ∙ get_or_default models c.args.place _ _ c.requires.there in
    let of : c.within-equations.result.now ≡ equations_within equations (model_at models c.args.place).equations = c.within-equations.ensures ∙ ap (λ e. equations_within e c.index-model.result.now.equations) c.as_slice.ensures.value ∙ ap (λ (m : Model). equations_within equations m.equations) is in
    subst (λ (m : Model). m.defined ≤ length c.within-equations.result.now) (sym is)
    (subst (λ of. (model_at models c.args.place).defined ≤ length of) (sym of) (counted-at c.args.defined.now equations models c.args.place _ c.requires.there c.requires.counted).most)

pub defined_from-count-requires-clause-known : goal.defined_from-count-requires-clause-known
defined_from-count-requires-clause-known c =
    let equations = c.args.self.now.equations.items in
    let models = c.args.self.now.models.items in
    let is : c.index-model.result.now ≡ model_at models c.args.place = c.index-model.ensures ∙ get_or_default models c.args.place _ _ c.requires.there in
    let of : c.within-equations.result.now ≡ equations_within equations (model_at models c.args.place).equations = c.within-equations.ensures ∙ ap (λ e. equations_within e c.index-model.result.now.equations) c.as_slice.ensures.value ∙ ap (λ (m : Model). equations_within equations m.equations) is in
    ap (λ (m : Model). list_any (is_missing c.args.defined.now) (take m.defined c.within-equations.result.now)) is
    ∙ ap (λ of. list_any (is_missing c.args.defined.now) (take (model_at models c.args.place).defined of)) of
    ∙ (counted-at c.args.defined.now equations models c.args.place _ c.requires.there c.requires.counted).known
