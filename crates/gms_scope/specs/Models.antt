-- How the models that are declared are stored.
use Rattle.std.specs.Prelude.{◌≡◌, ◌≤◌, ℕ, Bool, false, List, [], ◌∷◌, length, map, take, slice_index_or}
use Rattle.std.specs.List.{list_any}
use Rattle.gms_scope.specs.declared.model.Equations.{Equations}
use Rattle.gms_scope.specs.declared.model.Equations.TheVariants.{All, Listed}
use Rattle.gms_scope.specs.declared.model.Model.{Model}
use Rattle.gms_scope.specs.declared.model.Models.{Models}
use Rattle.gms_scope.specs.Facts.{is_missing}
use Rattle.gms_scope.specs.Order.{order_of}

-- the equations of a model, where `declared` are all declared equations, in order: the first
-- `count` of these for `/all/`, otherwise the listed ones
abbrev pub equations_within : List ℕ → Equations → List ℕ
equations_within declared (All count) = take count declared
equations_within declared (Listed equations) = equations.items

-- the names of models, in order
abbrev pub model_names : List Model → List ℕ
model_names models = map (λ (model : Model). model.name) models

-- the model at an index of the list; past the last one a model without equations
abbrev pub model_at : List Model → ℕ → Model
model_at models place = slice_index_or models place (record { name = 0; equations = All 0; defined = 0 })

-- the model, with `count` as the number of its first equations that are known to be defined
abbrev pub recounted : Model → ℕ → Model
recounted model count = record { name = model.name; equations = model.equations; defined = count }

-- each model's name with its equations, where `declared` are all declared equations, in order
abbrev pub models_within : List ℕ → List Model → List (ℕ × List ℕ)
models_within declared models = map (λ (model : Model). (model.name, equations_within declared model.equations)) models

-- the name of each stored model with its equations
abbrev pub models_in : Models → List (ℕ × List ℕ)
models_in models = models_within models.equations.items models.models.items

-- a model of the first `count` declared equations has no more equations than are declared; of
-- listed equations nothing is required
abbrev pub AreEquationsDeclared : List ℕ → Equations → Type 0
AreEquationsDeclared declared (All count) = count ≤ length declared
AreEquationsDeclared declared (Listed equations) = Unit {0}

-- for each of these models that consists of the first n declared equations, n is at most the number
-- of declared equations; of a model that lists its equations nothing is required
abbrev pub AreAllThere : List ℕ → List Model → Type 0
AreAllThere declared [] = Unit {0}
AreAllThere declared (model ∷ models) = AreEquationsDeclared declared model.equations × AreAllThere declared models

-- `places` has for each name 1 plus the index of the first model of this name in the list of
-- models, or 0 if there is none. A model with `/all/` consists of the first n declared equations,
-- where n is at most the number of declared equations.
pub record AreModelsListed (models : Models) : Type 0 where
  pub places : (name : ℕ) → slice_index_or models.places.items name 0 ≡ order_of (model_names models.models.items) name
  pub there : AreAllThere models.equations.items models.models.items

-- The model has at least `model.defined` equations, and the first `model.defined` of its equations
-- are marked in `defined` as defined. `declared` are all declared equations, in order.
pub record IsCountedModel (defined : List Bool) (declared : List ℕ) (model : Model) : Type 0 where
  pub most : model.defined ≤ length (equations_within declared model.equations)
  pub known : list_any (is_missing defined) (take model.defined (equations_within declared model.equations)) ≡ false

-- each of these models has at least `model.defined` equations, and the first `model.defined` of its
-- equations are marked in `defined` as defined; `declared` are all declared equations, in order
abbrev pub AreCounted : List Bool → List ℕ → List Model → Type 0
AreCounted defined declared [] = Unit {0}
AreCounted defined declared (model ∷ models) =
    IsCountedModel defined declared model × AreCounted defined declared models

-- each stored model has at least n equations, where n is the model's field `defined`, and its first
-- n equations are marked in the list `defined` as defined
abbrev pub AreModelsCounted : List Bool → Models → Type 0
AreModelsCounted defined models = AreCounted defined models.equations.items models.models.items
