use Rattle.std.proofs.Common.{◌≡◌, ◌∙◌, ◌+◌, ◌∷◌, ap, sym, drop, not, Bool, Option, Some, None}
use Rattle.std.specs.Prelude.{is_none, is_some}
use Rattle.std.proofs.lemmas.List.{at_drop_more, drop_all}
use Rattle.gms_ast.specs.declared.declaration.ModelDecl.{ModelDecl}
use Rattle.gms_check.specs.declared.error.CompileError.{CompileError}
use Rattle.gms_check.specs.InnerChanges.{with_model_names, with_models}
use Rattle.gms_check.specs.InnerChecking.{Checking, seen}
use Rattle.gms_check.proofs.ModelLists.{listed-step, models_checked, models_listed}
use Rattle.gms_check.proofs.Noting.{not-not}
use Rattle.gms_check.proofs.checker.Checker.models.Goals as goal

-- what `is_none` answers
answer-none : {X : Type 0} (o : Option X) (r : Bool) → is_some o ≡ not r → r ≡ is_none o
answer-none None r e = sym (not-not r) ∙ ap not (sym e)
answer-none (Some x) r e = sym (not-not r) ∙ ap not (sym e)

pub loop-model-preserved : goal.loop-model-preserved
loop-model-preserved g c =
    let models = c.args.models.now in
    let i = c.loop-model.model-index in
    let now = seen c.loop-model.self in
    let model = c.model-item.result in
    listed-step c.is_none-sound.result now _ model (drop (i + 1) models) c.in_ok-list_model.ensures ∙ sym (at_drop_more (models_listed c.is_none-sound.result now) models i model c.loop-model-test.true ∙ ap (λ (model : ModelDecl). models_listed c.is_none-sound.result now (model ∷ drop (i + 1) models)) (sym c.model-item.is)) ∙ c.loop-model.invariant

pub returns-clause-first : goal.returns-clause-first
returns-clause-first g c =
    ap (λ (u : Checking). u.first) c.loop-model.invariant ∙ ap (λ (u : Checking). u.first) c.in_ok-declare_models.ensures

pub returns-clause-facts : goal.returns-clause-facts
returns-clause-facts g c =
    let value = g.F.ExactField.value in
    let s = seen c.args.self.now in
    let models = c.args.models.now in
    let now = seen c.loop-model.self in
    let checked = models_checked value s models in
    let sound = c.is_none-sound.result in
    let left : now.first ≡ (seen c.declare_models.new.self).first = ap (λ (u : Checking). u.first) c.loop-model.invariant in
    let first : checked.first ≡ now.first = sym (ap (λ (u : Checking). u.first) c.in_ok-declare_models.ensures) ∙ sym left in
    sym (ap (models_listed sound now) (drop_all c.loop-model.model-index models c.loop-model-test.false)) ∙ c.loop-model.invariant ∙ ap (λ (u : Checking). models_listed sound u models) c.in_ok-declare_models.ensures ∙ ap (λ (f : Option CompileError). record s { first = f; facts = with_models sound (with_model_names s.facts models) models }) first ∙ ap (λ (b : Bool). record s { first = now.first; facts = with_models b (with_model_names s.facts models) models }) (answer-none c.declare_models.new.self.first sound c.is_none-sound.ensures ∙ ap is_none (sym left))
