-- Models that are checked and declared in sequence.
use Rattle.std.proofs.Common.{◌≡◌, List, [], ◌∷◌, ◌++◌, map, Bool, refl, sym, ap, ◌∙◌}
use Rattle.gq_number.specs.Number.{Number}
use Rattle.gms_ast.specs.declared.word.Named.{Named}
use Rattle.gms_ast.specs.declared.declaration.ModelDecl.{ModelDecl}
use Rattle.gms_store.specs.State.{State}
use Rattle.gms_store.specs.Declarations.{declare_model}
use Rattle.gms_scope.specs.Facts.{with_model, with_model_name}
use Rattle.gms_check.specs.declared.error.CompileError.{CompileError}
use Rattle.gms_check.specs.InnerChanges.{with_model_names, with_models}
use Rattle.gms_check.specs.InnerChecking.{Checking, known_of, noted, with_facts}
use Rattle.gms_check.specs.CompileErrors.{errors_at, errors_of, known_in, model_errors}
use Rattle.gms_check.specs.DeclarationUses.{model_uses}
use Rattle.gms_check.specs.Errors.{first_error, sooner}
use Rattle.gms_check.specs.Past.{Known, equations_listed}
use Rattle.gms_check.specs.Uses.{listing, modelling}
use Rattle.std.specs.Prelude.{Option}
use Rattle.gms_check.proofs.Sooner.{first_of-append, sooner-assoc}

module _ {F : Type 0} where
  -- the errors of models look at the state alone
  errors-listing : (a b : Known F) → a.state ≡ b.state → (equations : List Named) → errors_of a (map (λ (equation : Named). (equation.at, listing equation.name)) equations) ≡ errors_of b (map (λ (equation : Named). (equation.at, listing equation.name)) equations)
  errors-listing a b e [] = refl
  errors-listing a b e (named ∷ equations) =
      ap (λ (state : State). errors_at (known_in a state) (named.at, listing named.name) ++ errors_of a (map (λ (equation : Named). (equation.at, listing equation.name)) equations)) e ∙ ap (λ (errors : List CompileError). errors_at b (named.at, listing named.name) ++ errors) (errors-listing a b e equations)

  errors-model : (a b : Known F) → a.state ≡ b.state → (model : ModelDecl) → errors_of a (model_uses model) ≡ errors_of b (model_uses model)
  errors-model a b e model =
      ap (λ (state : State). errors_at (known_in a state) (model.named.at, modelling model.named.name) ++ errors_of a (map (λ (equation : Named). (equation.at, listing equation.name)) model.equations)) e ∙ ap (λ (errors : List CompileError). errors_at b (model.named.at, modelling model.named.name) ++ errors) (errors-listing a b e model.equations)

  model_errors-same : (a b : Known F) → a.state ≡ b.state → (models : List ModelDecl) → model_errors a models ≡ model_errors b models
  model_errors-same a b e [] = refl
  model_errors-same a b e (model ∷ models) =
      ap (λ (errors : List CompileError). errors ++ model_errors (known_in a (declare_model a.state model.named.name)) models) (errors-model a b e model) ∙ ap (λ (errors : List CompileError). errors_of b (model_uses model) ++ errors) (model_errors-same (known_in a (declare_model a.state model.named.name)) (known_in b (declare_model b.state model.named.name)) (ap (λ (state : State). declare_model state model.named.name) e) models)

module _ {F : Type 0} (value : F → Number) where
  -- a check after models were checked, and declared without their equations
  abbrev pub models_checked : Checking → List ModelDecl → Checking
  models_checked c models =
      record c { first = sooner c.first (first_error (model_errors (known_of value c) models)); facts = with_model_names c.facts models }

  -- one model, and then others
  pub models-step : (c t u : Checking) (model : ModelDecl) (models : List ModelDecl) → t ≡ noted value c (model_uses model) → u ≡ with_facts t (with_model_name t.facts model.named.name) → models_checked u models ≡ models_checked c (model ∷ models)
  models-step c t u model models e f =
      ap (λ (u : Checking). models_checked u models) (f ∙ ap (λ (t : Checking). with_facts t (with_model_name t.facts model.named.name)) e) ∙ ap (λ (first : Option CompileError). record c { first = first; facts = with_model_names c.facts (model ∷ models) }) (sooner-assoc c.first (first_error (errors_of (known_of value c) (model_uses model))) (first_error (model_errors (known_of value declared) models)) ∙ ap (sooner c.first) (ap (λ (errors : List CompileError). sooner (first_error (errors_of (known_of value c) (model_uses model))) (first_error errors)) (model_errors-same (known_of value declared) (known_in (known_of value c) (declare_model c.facts.state model.named.name)) refl models) ∙ sym (first_of-append (errors_of (known_of value c) (model_uses model)) (model_errors (known_in (known_of value c) (declare_model c.facts.state model.named.name)) models))))
    where
      declared : Checking
      declared = with_facts c (with_model_name c.facts model.named.name)

-- a check after the equations of models were listed
abbrev pub models_listed : Bool → Checking → List ModelDecl → Checking
models_listed sound c models = with_facts c (with_models sound c.facts models)

-- one model, and then others
pub listed-step : (sound : Bool) (c u : Checking) (model : ModelDecl) (models : List ModelDecl) → u ≡ with_facts c (with_model c.facts model.named.name (equations_listed c.facts.equations sound model)) → models_listed sound u models ≡ models_listed sound c (model ∷ models)
listed-step sound c u model models f = ap (λ (u : Checking). models_listed sound u models) f
