-- The views of statements determine the definitions of equations and the equations of models.
use Rattle.std.proofs.Common.{◌≡◌, ℕ, List, [], ◌∷◌, ◌++◌, map, Option, Some, None, option_map, refl, sym, ap, ap₂, ◌∙◌, subst}
use Rattle.std.specs.Prelude.{flat_map, if◌then◌else◌}
use Rattle.gq_number.specs.Number.{Number}
use Rattle.gq_frac.specs.declared.frac.Frac.{Frac}
use Rattle.gq_frac.specs.Frac.{frac_value}
use Rattle.gms_labels.specs.declared.place.Place.{Place}
use Rattle.gms_ast.specs.declared.declaration.Decl.{Decl}
use Rattle.gms_ast.specs.declared.declaration.ModelDecl.{ModelDecl}
use Rattle.gms_ast.specs.declared.program.Act.{Act as ActNode, out-Act, roll-Act, roll-out-Act}
use Rattle.gms_ast.specs.declared.program.Act.TheOpen.{Act-F}
use Rattle.gms_ast.specs.declared.program.Act.TheVariants.{Declare, rolls-Declare, rolls-Alias, rolls-Assign, rolls-Define, rolls-Model, rolls-Solve, rolls-Display, rolls-Loop, rolls-Options, rolls-Abort}
use Rattle.gms_ast.specs.declared.program.Side.{Side}
use Rattle.gms_ast.specs.declared.program.Stmt.{Stmt}
use Rattle.gms_ast.specs.Numbers.{in_numbers, indices_in_numbers}
use Rattle.gms_ast.specs.StatementTrees.{Act, defines}
use Rattle.gms_ast.specs.StatementView.{shown_tree}
use Rattle.gms_ast.specs.TreeView.{tree_of}
use Rattle.gms_ast.specs.Trees.{Tree, Indices}
use Rattle.gms_check.specs.StatementUses.{index_list}
use Rattle.gms_rows.specs.ModelPoints.{definitions_of_model}
use Rattle.gms_rows.specs.Rows.{Definition, equations_declared_by, defined_at, definitions, definition_of, distinct_numbers, equations_from, equations_of, found, has_lag, models_of}
use Rattle.gms_save.proofs.FromNumbers.{condition_back, declarations_back, indices_back, tree_back, value_of}
use Rattle.gms_save.proofs.SeenActs.{Layer, declaration, shown, shown_layer, shows}
use Rattle.gms_save.proofs.SeenPrograms.{Seen, seen}

-- ---- definitions

-- a definition, by its parts
abbrev definition_with : Place → ℕ → Place → Side → Place → Indices Frac → Option (Tree Frac) → Tree Frac × Tree Frac → List (Definition Frac)
definition_with at equation left_at side right_at indices condition sides =
    if has_lag indices then [] else record { equation = equation; at = at; indices = indices; condition = condition; left_at = left_at; left = sides.0; side = side; right_at = right_at; right = sides.1 } ∷ []

-- what an act defines, by what it shows
abbrev defined_by : Place → Act Number → List (Definition Frac)
defined_by at (defines equation indices condition sides) =
    definition_with at equation.name sides.left_at sides.side sides.right_at (indices_in_numbers value_of indices) (option_map (in_numbers value_of) condition) (in_numbers value_of sides.left, in_numbers value_of sides.right)
defined_by at act = []

layer-defined : (at : Place) (x : Layer) → defined_by at (shown_layer x) ≡ defined_at at (roll-Act Frac x)
layer-defined at (Act-F.Declare kind items) = ap (defined_at at) (sym (rolls-Declare kind items))
layer-defined at (Act-F.Alias first second) = ap (defined_at at) (sym (rolls-Alias first second))
layer-defined at (Act-F.Assign target condition right_at right) = ap (defined_at at) (sym (rolls-Assign target condition right_at right))
layer-defined at (Act-F.Define equation indices condition left_at left side right_at right) =
    let of : Indices Frac → Option (Tree Frac) → Tree Frac × Tree Frac → List (Definition Frac) = definition_with at equation.name left_at side right_at in
    let sides : (in_numbers value_of (in_numbers frac_value (tree_of left)), in_numbers value_of (in_numbers frac_value (tree_of right))) ≡ (tree_of left, tree_of right) = ap₂ (λ (a b : Tree Frac). (a, b)) (tree_back (tree_of left)) (tree_back (tree_of right)) in
    ap (λ (is : Indices Frac). of is (option_map (in_numbers value_of) (option_map (shown_tree frac_value) condition)) (in_numbers value_of (in_numbers frac_value (tree_of left)), in_numbers value_of (in_numbers frac_value (tree_of right)))) (indices_back (index_list indices))
    ∙ ap₂ (λ (c : Option (Tree Frac)) (s : Tree Frac × Tree Frac). of (index_list indices) c s) (condition_back condition) sides
    ∙ ap (defined_at at) (sym (rolls-Define equation indices condition left_at left side right_at right))
layer-defined at (Act-F.Model models) = ap (defined_at at) (sym (rolls-Model models))
layer-defined at (Act-F.Solve model word objective maximize) = ap (defined_at at) (sym (rolls-Solve model word objective maximize))
layer-defined at (Act-F.Display items) = ap (defined_at at) (sym (rolls-Display items))
layer-defined at (Act-F.Loop control body) = ap (defined_at at) (sym (rolls-Loop control body))
layer-defined at (Act-F.Options options) = ap (defined_at at) (sym (rolls-Options options))
layer-defined at (Act-F.Abort condition items) = ap (defined_at at) (sym (rolls-Abort condition items))

same-defined : (at : Place) (act : ActNode Frac) → defined_by at (shown act) ≡ defined_at at act
same-defined at act =
    subst (λ (a : ActNode Frac). defined_by at (shown a) ≡ defined_at at a) (roll-out-Act Frac act) (ap (defined_by at) (shows (out-Act Frac act)) ∙ layer-defined at (out-Act Frac act))

definitions-are : (xs : List (Stmt Frac)) → definitions xs ≡ flat_map (λ (v : Seen). defined_by v.0 v.1) (map seen xs)
definitions-are [] = refl
definitions-are (x ∷ xs) = ap₂ (λ (ds es : List (Definition Frac)). ds ++ es) (sym (same-defined x.at x.act)) (definitions-are xs)

-- ---- models

-- what an act declares as models and as equations
abbrev pub Listed : Type 0
Listed = List ModelDecl × List ℕ

abbrev listing : ActNode Frac → Listed
listing act = (models_of act, equations_declared_by act)

layer-listing : (x : Layer) → listing (declaration (shown_layer x)) ≡ listing (roll-Act Frac x)
layer-listing (Act-F.Declare kind items) =
    ap (λ (xs : List (Decl Frac)). listing (Declare kind xs)) (declarations_back items) ∙ ap listing (sym (rolls-Declare kind items))
layer-listing (Act-F.Alias first second) = ap listing (sym (rolls-Alias first second))
layer-listing (Act-F.Assign target condition right_at right) = ap listing (sym (rolls-Assign target condition right_at right))
layer-listing (Act-F.Define equation indices condition left_at left side right_at right) =
    ap listing (sym (rolls-Define equation indices condition left_at left side right_at right))
layer-listing (Act-F.Model models) = ap listing (sym (rolls-Model models))
layer-listing (Act-F.Solve model word objective maximize) = ap listing (sym (rolls-Solve model word objective maximize))
layer-listing (Act-F.Display items) = ap listing (sym (rolls-Display items))
layer-listing (Act-F.Loop control body) = ap listing (sym (rolls-Loop control body))
layer-listing (Act-F.Options options) = ap listing (sym (rolls-Options options))
layer-listing (Act-F.Abort condition items) = ap listing (sym (rolls-Abort condition items))

same-listing : (act : ActNode Frac) → listing (declaration (shown act)) ≡ listing act
same-listing act =
    subst (λ (a : ActNode Frac). listing (declaration (shown a)) ≡ listing a) (roll-out-Act Frac act) (ap (λ (v : Act Number). listing (declaration v)) (shows (out-Act Frac act)) ∙ layer-listing (out-Act Frac act))

-- the equations of a model, by what statements show
abbrev equations_by : List ℕ → ℕ → List Seen → List ℕ
equations_by declared name [] = []
equations_by declared name (v ∷ vs) =
    elim (found (distinct_numbers declared) name (listing (declaration v.1)).0) [
      | Some equations ↦ equations
      | None ↦ equations_by (declared ++ (listing (declaration v.1)).1) name vs
    ]

equations-are : (declared : List ℕ) (name : ℕ) (xs : List (Stmt Frac)) → equations_from declared name xs ≡ equations_by declared name (map seen xs)
equations-are declared name [] = refl
equations-are declared name (x ∷ xs) =
    let either : Listed → List ℕ → List ℕ = λ those following. elim (found (distinct_numbers declared) name those.0) [ Some equations ↦ equations | None ↦ following ] in
    ap (λ (those : Listed). either those (equations_from (declared ++ those.1) name xs)) (sym (same-listing x.act))
    ∙ ap (either (listing (declaration (shown x.act)))) (equations-are (declared ++ (listing (declaration (shown x.act))).1) name xs)

-- ---- statements with equal views

-- they have the same equations of each model
pub same-equations : (xs ys : List (Stmt Frac)) → map seen xs ≡ map seen ys → (model : ℕ) → equations_of xs model ≡ equations_of ys model
same-equations xs ys alike model = equations-are [] model xs ∙ ap (equations_by [] model) alike ∙ sym (equations-are [] model ys)

-- and the same definitions of them
pub same-definitions : (xs ys : List (Stmt Frac)) → map seen xs ≡ map seen ys → (model : ℕ) → definitions_of_model xs model ≡ definitions_of_model ys model
same-definitions xs ys alike model =
    ap₂ (λ (ds : List (Definition Frac)) (es : List ℕ). flat_map (definition_of ds) es) (definitions-are xs ∙ ap (flat_map (λ (v : Seen). defined_by v.0 v.1)) alike ∙ sym (definitions-are ys)) (same-equations xs ys alike model)
