-- The rows of a model: one for each equation of the model and each element of the domain of its
-- definition (GAMS User's Guide, "Equations", "Model and Solve Statements").
use Rattle.std.specs.Prelude.{ℕ, Bool, true, false, not, ◌==◌, List, [], ◌∷◌, ◌++◌, map, flat_map, filter, Option, Some, None, option_map, Ok, if◌then◌else◌}
use Rattle.gms_labels.specs.declared.place.Place.{Place}
use Rattle.gq_number.specs.Number.{Number}
use Rattle.gms_ast.specs.declared.word.Named.{Named}
use Rattle.gms_ast.specs.declared.declaration.DeclKind.TheVariants as declaring
use Rattle.gms_ast.specs.declared.declaration.Decl.{Decl}
use Rattle.gms_ast.specs.declared.declaration.ModelDecl.{ModelDecl}
use Rattle.gms_ast.specs.declared.program.Side.{Side}
use Rattle.gms_ast.specs.declared.program.Side.TheVariants as side
use Rattle.gms_ast.specs.declared.program.Act.{Act}
use Rattle.gms_ast.specs.declared.program.Act.TheVariants.{Declare, Model, Define}
use Rattle.gms_ast.specs.declared.program.Stmt.{Stmt}
use Rattle.gms_ast.specs.TreeView.{tree_of, index_tree, indices_of}
use Rattle.gms_ast.specs.Trees as tree
use Rattle.gms_store.specs.State.{State}
use Rattle.gms_eval.specs.Nodes.{in_order}
use Rattle.gms_eval.specs.Bindings.{Pairs, controlled}
use Rattle.gms_eval.specs.Faults.{Answer, ◌and_then◌}
use Rattle.gms_eval.specs.References.{tuple_of}
use Rattle.gms_eval.specs.Value.{labels, domain, control_over}
use Rattle.lp_core.specs.declared.program.Sense.{Sense}
use Rattle.lp_core.specs.declared.program.Sense.TheVariants as sense
use Rattle.lp_form.specs.declared.key.Key.{Key}
use Rattle.gms_rows.specs.Forms.{Form, sum_of_forms}
use Rattle.gms_rows.specs.Affine.{affine}

-- ---- equations

-- these numbers, without repetition, in the order of their first occurrences
abbrev pub distinct_numbers : List ℕ → List ℕ
distinct_numbers [] = []
distinct_numbers (n ∷ ns) = n ∷ filter (λ m. not (m == n)) (distinct_numbers ns)

-- The definition of an equation: its two sides, how they compare, and for which elements. The
-- places are those of the statement and of the two sides in the source.
pub record Definition (F : Type 0) : Type 0 where
  pub equation : ℕ
  -- the place of its statement
  pub at : Place
  pub indices : tree.Indices F
  pub condition : Option (tree.Tree F)
  pub left_at : Place
  pub left : tree.Tree F
  pub side : Side
  pub right_at : Place
  pub right : tree.Tree F

-- the equations of a model that is declared: for `/all/` those in `declared`, which are declared
-- before it, else those that it lists, without repetition
abbrev pub listed_equations : List ℕ → ModelDecl → List ℕ
listed_equations declared model = if model.all then declared else distinct_numbers (map (λ (equation : Named). equation.name) model.equations)

-- the equations of the first of these models that has this name: for `/all/` those in `declared`,
-- which are declared before the models, else those that the model lists. None if no model has the
-- name
abbrev pub found : List ℕ → ℕ → List ModelDecl → Option (List ℕ)
found declared name [] = None
found declared name (model ∷ models) = if model.named.name == name then Some (listed_equations declared model) else found declared name models

module _ {F : Type 0} where
  -- the equations that a statement declares, in order
  abbrev pub equations_declared_by : Act F → List ℕ
  equations_declared_by (Declare declaring.Equation items) = map (λ (item : Decl F). item.named.name) items
  equations_declared_by act = []

  -- whether one of these indices has a lag
  abbrev pub has_lag : tree.Indices F → Bool
  has_lag tree.no_index = false
  has_lag (tree.label label rest) = has_lag rest
  has_lag (tree.set set rest) = has_lag rest
  has_lag (tree.lagged set op at amount rest) = true

  -- the definition that a statement at this place makes, as a list of one; empty if it makes none.
  -- A definition with a lag among its indices, which no accepted program has, counts as none
  abbrev pub defined_at : Place → Act F → List (Definition F)
  defined_at at (Define equation indices condition left_at left side right_at right) =
      if has_lag (indices_of (map index_tree indices)) then [] else record {
        equation = equation.name;
        at = at;
        indices = indices_of (map index_tree indices);
        condition = option_map tree_of condition;
        left_at = left_at;
        left = tree_of left;
        side = side;
        right_at = right_at;
        right = tree_of right;
      } ∷ []
  defined_at at act = []

  -- the definitions of a program, in order
  abbrev pub definitions : List (Stmt F) → List (Definition F)
  definitions statements = flat_map (λ (s : Stmt F). defined_at s.at s.act) statements

  -- the models that a statement declares
  abbrev pub models_of : Act F → List ModelDecl
  models_of (Model models) = models
  models_of act = []

  -- the equations of a model, by its first declaration in these statements, where `declared` has
  -- the equations that are declared before the statements; empty if they do not declare the model
  abbrev pub equations_from : List ℕ → ℕ → List (Stmt F) → List ℕ
  equations_from declared name [] = []
  equations_from declared name (s ∷ statements) =
      elim (found (distinct_numbers declared) name (models_of s.act)) [
        | Some equations ↦ equations
        | None ↦ equations_from (declared ++ equations_declared_by s.act) name statements
      ]

  -- the distinct equations of the model `name`, by the first declaration of the model: for `/all/`
  -- the equations that are declared before it, in the order of their declarations, else those that
  -- it lists, in the order of the list; none if no statement declares the model
  abbrev pub equations_of : List (Stmt F) → ℕ → List ℕ
  equations_of statements name = equations_from [] name statements

  -- the first definition of an equation, as a list of one; empty if it has none
  abbrev pub definition_of : List (Definition F) → ℕ → List (Definition F)
  definition_of [] name = []
  definition_of (d ∷ ds) name = if d.equation == name then d ∷ [] else definition_of ds name

  -- ---- rows

  -- the sets among indices, in order
  abbrev pub sets_among : tree.Indices F → List ℕ
  sets_among tree.no_index = []
  sets_among (tree.label label rest) = sets_among rest
  sets_among (tree.set set rest) = set ∷ sets_among rest
  sets_among (tree.lagged set op at amount rest) = set ∷ sets_among rest

-- how the sum of a row and its right side compare, by how the two sides of the equation do
abbrev pub sense_of : Side → Sense
sense_of side.E = sense.E
sense_of side.L = sense.L
sense_of side.G = sense.G
sense_of side.N = sense.N

-- A row of a model: its key, that is, the equation and the tuple; how its sides compare; and the
-- form of the left side less the right one.
pub record FormRow : Type 0 where
  pub key : Key
  pub sense : Sense
  pub form : Form

-- the rows of this list, without the entries that are None
abbrev pub present_rows : List (Option FormRow) → List FormRow
present_rows [] = []
present_rows (None ∷ rest) = present_rows rest
present_rows (Some row ∷ rest) = row ∷ present_rows rest

module _ {F : Type 0} (number_of : F → Number) (limit : ℕ) (state : State) where
  -- the form of a definition's row under a binding of sets to labels: the left side less the right
  -- one; a fault of the subtraction has the place of the right side
  abbrev pub row_form : Definition F → Pairs → Answer Form
  row_form d binding =
      affine number_of limit state d.left_at binding d.left and_then λ left.
      affine number_of limit state d.right_at binding d.right and_then λ right.
      sum_of_forms limit d.right_at binding true left right

  -- the row of a definition under a binding of sets to labels; None if an index has no label, for
  -- example because its lag goes past an end of its set, or if there are more than 10 indices; or
  -- the first fault
  abbrev pub row_under : Definition F → Pairs → Answer (Option FormRow)
  row_under d binding =
      in_order (labels number_of limit state binding d.indices) and_then λ those.
      elim (tuple_of those) [
        | None ↦ Ok None
        | Some t ↦ row_form d binding and_then λ form. Ok (Some (record { key = record { symbol = d.equation; tuple = t }; sense = sense_of d.side; form = form }))
      ]

  -- the rows of a definition, one for each element of its domain at which the indices have a tuple;
  -- or the first fault. The domain is the elements of the definition's sets for which its
  -- condition, if any, holds.
  abbrev pub rows_of_definition : Definition F → Answer (List FormRow)
  rows_of_definition d =
      let sets = distinct_numbers (sets_among d.indices) in
      domain number_of limit state [] d.at (control_over sets d.condition) and_then λ elements.
      in_order (map (λ element. row_under d (controlled [] sets element)) elements) and_then λ rows. Ok (present_rows rows)

  -- the rows of a model, equation by equation, or the first fault
  abbrev pub rows_of_model : List (Stmt F) → ℕ → Answer (List FormRow)
  rows_of_model statements model =
      in_order (map rows_of_definition (flat_map (definition_of (definitions statements)) (equations_of statements model))) and_then λ rows. Ok (flat_map (λ some. some) rows)
