-- What the statements use, part by part, except for declarations of names and of models (GAMS
-- User's Guide, "Data Manipulation", "Equations", "Model and Solve Statements", "Display",
-- "Programming Flow Control Features").
use Rattle.std.specs.Prelude.{ℕ, List, [], ◌∷◌, ◌++◌, map, flat_map, Option, option_map, if◌then◌else◌}
use Rattle.gms_labels.specs.declared.place.Place.{Place}
use Rattle.gms_ast.specs.declared.expression.Expr.{Expr}
use Rattle.gms_ast.specs.declared.expression.Index.{Index}
use Rattle.gms_ast.specs.declared.word.Word.{Word}
use Rattle.gms_ast.specs.declared.program.Show.{Show}
use Rattle.gms_ast.specs.declared.program.Show.TheVariants as show
use Rattle.gms_ast.specs.declared.program.Setting.{Setting}
use Rattle.gms_ast.specs.declared.program.Setting.TheVariants as setting
use Rattle.gms_ast.specs.declared.program.Right.TheVariants.{Value}
use Rattle.gms_ast.specs.declared.program.Stmt.{Stmt}
use Rattle.gms_ast.specs.declared.program.Act.TheOpen.{Act-F, Stmt-F}
use Rattle.gms_ast.specs.declared.program.Act.TheFolds.{fold-Stmt}
use Rattle.gms_ast.specs.Trees.{Indices}
use Rattle.gms_ast.specs.TreeView.{indices_of, tree_of, index_tree, control_tree}
use Rattle.gms_store.specs.State.{State, symbol_at}
use Rattle.gms_store.specs.Declarations.{is_set}
use Rattle.gms_check.specs.declared.contexts.Context.{Context}
use Rattle.gms_check.specs.Contexts.{as_number, as_side, as_members}
use Rattle.gms_check.specs.Uses.{Uses, assigning, defining, first_alias, second_alias, solving, method, optimizing, showing, option_word, option_value, sets_of_control, index_sets, uses, control_uses, shift_uses, condition_uses}

-- the context of the right side of an assignment to a name: that of members for a set, that of a
-- number for any other name
abbrev pub right_context : State → ℕ → Context
right_context state name = if is_set (symbol_at state name).content then as_members else as_number

-- the uses of a statement, that is, what it uses, each with its place, by the state after the
-- declarations before it and the sets that are controlled around it
abbrev pub UsesOfStatement : Type 0 → Type 0
UsesOfStatement F = State → List ℕ → Uses F

-- the uses of an act, that is, what it uses, each with its place, by the state after the
-- declarations before it, the place of its statement, and the sets that are controlled around it
abbrev pub UsesOfAct : Type 0 → Type 0
UsesOfAct F = State → Place → List ℕ → Uses F

module _ {F : Type 0} where
  -- the indices of a reference or a left side, as the list of indices that an expression's tree has
  abbrev pub index_list : List (Index F) → Indices F
  index_list indices = indices_of (map index_tree indices)

  -- the use of a symbol among the items of `display` or `abort`; none for a text
  abbrev pub show_uses : Show → Uses F
  show_uses (show.Text word) = []
  show_uses (show.Symbol named suffix) = (named.at, showing named.name suffix) ∷ []

  -- the place of the value of an option
  abbrev pub setting_place : Setting F → Place
  setting_place (setting.Number at value) = at
  setting_place (setting.Name word) = word.at

  -- the uses of an option: its word, and its value
  abbrev pub option_uses : Word × Setting F → Uses F
  option_uses (word, setting) = (word.at, option_word word.text) ∷ (setting_place setting, option_value word.text setting) ∷ []

  -- the sets that are controlled in a statement with these indices on the left: those that loops
  -- control, and those among the indices
  abbrev pub with_left : List ℕ → List (Index F) → List ℕ
  with_left controlled indices = controlled ++ index_sets (index_list indices)

  -- the uses in a left side with these indices, in a statement at the place `at`: those of the
  -- amounts of its lags, and those in the condition after it; the sets `controlled` are controlled
  -- there
  abbrev pub left_uses : Place → List ℕ → List (Index F) → Option (Expr F) → Uses F
  left_uses at controlled indices condition =
      shift_uses controlled (index_list indices) ++ condition_uses at controlled (option_map tree_of condition)

  -- the uses of an act, in which each statement of a loop's body is replaced by the function that
  -- gives its uses; none of a declaration or a model statement
  abbrev pub act_uses_step : Act-F F (UsesOfAct F) (UsesOfStatement F) → UsesOfAct F
  act_uses_step (Act-F.Declare kind items) state at controlled = []
  act_uses_step (Act-F.Alias first second) state at controlled =
      (first.at, first_alias first.name second.name) ∷ (second.at, second_alias first.name second.name) ∷ []
  act_uses_step (Act-F.Assign target condition right_at (Value right)) state at controlled =
      (target.at, assigning target.name target.suffix (index_list target.indices)) ∷ (left_uses at (with_left controlled target.indices) target.indices condition ++ uses (right_context state target.name) right_at (with_left controlled target.indices) (tree_of right))
  act_uses_step (Act-F.Define equation indices condition left_at left side right_at right) state at controlled =
      (equation.at, defining equation.name (index_list indices)) ∷ (left_uses at (with_left controlled indices) indices condition ++ (uses as_side left_at (with_left controlled indices) (tree_of left) ++ uses as_side right_at (with_left controlled indices) (tree_of right)))
  act_uses_step (Act-F.Model models) state at controlled = []
  act_uses_step (Act-F.Solve model word objective maximize) state at controlled =
      (model.at, solving model.name) ∷ (word.at, method word.text) ∷ (objective.at, optimizing objective.name) ∷ []
  act_uses_step (Act-F.Display items) state at controlled = flat_map show_uses items
  act_uses_step (Act-F.Loop control body) state at controlled =
      control_uses at controlled (control_tree control) ++ flat_map (λ statement. statement state (controlled ++ sets_of_control (control_tree control))) body.items
  act_uses_step (Act-F.Options settings) state at controlled = flat_map option_uses settings
  act_uses_step (Act-F.Abort condition items) state at controlled =
      condition_uses at controlled (option_map tree_of condition) ++ flat_map show_uses items

  -- the uses of a statement: the uses of its act at the statement's place. In the argument the act
  -- is replaced by the function that gives its uses
  abbrev pub statement_uses_step : Stmt-F F (UsesOfAct F) (UsesOfStatement F) → UsesOfStatement F
  statement_uses_step statement state controlled = statement.act state statement.at controlled

  -- the uses of a statement, and of the statements of its body if it is a loop
  abbrev pub statement_uses : Stmt F → UsesOfStatement F
  statement_uses = fold-Stmt F (UsesOfAct F) (UsesOfStatement F) act_uses_step statement_uses_step
