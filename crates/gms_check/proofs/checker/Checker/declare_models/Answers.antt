use Rattle.std.proofs.Common.{◌∙◌, ◌+◌, ◌∷◌, ap, sym, drop}
use Rattle.std.proofs.lemmas.List.{at_drop_more, drop_all}
use Rattle.gms_ast.specs.declared.declaration.ModelDecl.{ModelDecl}
use Rattle.gms_scope.specs.Facts.{Facts}
use Rattle.gms_check.specs.InnerChecking.{seen, with_facts}
use Rattle.gms_check.proofs.ModelLists.{models-step, models_checked}
use Rattle.gms_check.proofs.Noting.{noted-none}
use Rattle.gms_check.proofs.checker.Checker.declare_models.Goals as goal

pub loop-model-preserved : goal.loop-model-preserved
loop-model-preserved g c =
    let value = g.F.ExactField.value in
    let models = c.args.models.now in
    let i = c.loop-model.model-index in
    let now = seen c.loop-model.self in
    let model = c.model-item.result in
    models-step value now (seen c.model.new.self) _ model (drop (i + 1) models) c.model.ensures (ap (λ (facts : Facts). with_facts (seen c.model.new.self) facts) c.in_ok-declare_model.ensures) ∙ sym (at_drop_more (models_checked value now) models i model c.loop-model-test.true ∙ ap (λ (model : ModelDecl). models_checked value now (model ∷ drop (i + 1) models)) (sym c.model-item.is)) ∙ c.loop-model.invariant

pub returns : goal.returns
returns g c =
    let value = g.F.ExactField.value in
    let now = seen c.loop-model.self in
    noted-none value now ∙ sym (ap (models_checked value now) (drop_all c.loop-model.model-index c.args.models.now c.loop-model-test.false)) ∙ c.loop-model.invariant
