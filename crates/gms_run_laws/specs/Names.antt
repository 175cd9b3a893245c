-- The names on which the meaning of an expression or a statement depends (GAMS User's Guide, "Data
-- Manipulations with Parameters", "Model and Solve Statements").
use Rattle.std.specs.Prelude.{◌≡◌, ℕ, Bool, true, List, [], ◌∷◌, ◌++◌, flat_map, Option, Some, None, option_map}
use Rattle.gms_ast.specs.declared.program.Act.TheOpen.{Act-F}
use Rattle.gms_ast.specs.declared.program.Act.TheFolds.{fold-Stmt}
use Rattle.gms_ast.specs.declared.program.Right.TheVariants.{Value}
use Rattle.gms_ast.specs.declared.program.Stmt.{Stmt}
use Rattle.gms_ast.specs.TreeView.{tree_of, control_tree}
use Rattle.gms_ast.specs.Trees as tree
use Rattle.gms_rows.specs.ModelPoints.{definitions_of_model}
use Rattle.gms_rows.specs.Rows.{Definition}
use Rattle.gms_exec.specs.Assignment.{target_of}
use Rattle.gms_exec.specs.Run.{World}

-- the test is true of each of these names
abbrev pub Each : (ℕ → Bool) → List ℕ → Type 0
Each test [] = Unit {0}
Each test (n ∷ ns) = (test n ≡ true) × Each test ns

abbrev mutual
  -- the names in an expression
  pub names_in_tree : {F : Type 0} → tree.Tree F → List ℕ
  names_in_tree (tree.number n) = []
  names_in_tree tree.plus_infinity = []
  names_in_tree tree.not_available = []
  names_in_tree tree.yes = []
  names_in_tree tree.no = []
  names_in_tree (tree.reference at name suffix indices) = name ∷ index_names indices
  names_in_tree (tree.place_in_set at set) = set ∷ []
  names_in_tree (tree.size_of_set at set) = set ∷ []
  names_in_tree (tree.call at function args) = part_names args
  names_in_tree (tree.fold_over at op control body) = control_names control ++ names_in_tree body
  names_in_tree (tree.negated operand) = names_in_tree operand
  names_in_tree (tree.sum parts) = part_names parts
  names_in_tree (tree.product parts) = part_names parts
  names_in_tree (tree.power parts) = part_names parts
  names_in_tree (tree.relation parts) = part_names parts
  names_in_tree (tree.not_so operand) = names_in_tree operand
  names_in_tree (tree.all_of parts) = part_names parts
  names_in_tree (tree.one_of parts) = part_names parts
  names_in_tree (tree.guarded operand guards) = names_in_tree operand ++ part_names guards

  -- the names in the operands or arguments of a node
  pub part_names : {F : Type 0} → tree.Parts F → List ℕ
  part_names tree.no_part = []
  part_names (tree.part mark part rest) = names_in_tree part ++ part_names rest

  -- the names among indices, and in the amounts of their lags
  pub index_names : {F : Type 0} → tree.Indices F → List ℕ
  index_names tree.no_index = []
  index_names (tree.label label rest) = index_names rest
  index_names (tree.set set rest) = set ∷ index_names rest
  index_names (tree.lagged set op at amount rest) = set ∷ (names_in_tree amount ++ index_names rest)

  -- the sets that a fold or a loop controls, and the names in its condition
  pub control_names : {F : Type 0} → tree.Control F → List ℕ
  control_names (tree.over sets) = sets
  control_names (tree.over_where sets condition) = sets ++ names_in_tree condition

-- the names in a condition, if there is one
abbrev pub condition_names : {F : Type 0} → Option (tree.Tree F) → List ℕ
condition_names None = []
condition_names (Some condition) = names_in_tree condition

-- the names in a definition: its equation, and those in its indices, its condition and its two
-- sides
abbrev pub definition_names : {F : Type 0} → Definition F → List ℕ
definition_names d = d.equation ∷ (index_names d.indices ++ (condition_names d.condition ++ (names_in_tree d.left ++ names_in_tree d.right)))

module _ {F : Type 0} (world : World F) where
  -- The names on which the state after an act depends. Each statement of a loop's body is replaced
  -- by the list of its names. The names are those in an assignment; a solve's model and objective,
  -- and those in the model's definitions; those in a loop's control and body; none for other acts.
  abbrev pub names_step : Act-F F (List ℕ) (List ℕ) → List ℕ
  names_step (Act-F.Assign target condition right_at (Value right)) =
      target.name ∷ (index_names (target_of target).indices ++ (condition_names (option_map tree_of condition) ++ names_in_tree (tree_of right)))
  names_step (Act-F.Solve model method objective maximize) =
      model.name ∷ (objective.name ∷ flat_map definition_names (definitions_of_model world.program.statements.items model.name))
  names_step (Act-F.Loop control body) = control_names (control_tree control) ++ flat_map (λ names. names) body.items
  names_step act = []

  -- the names on which the state after a statement depends, also in the body of a loop: those in an
  -- assignment or in the control of a loop; the model and the objective of a solve, and the names
  -- in the definitions of the model
  abbrev pub statement_names : Stmt F → List ℕ
  statement_names = fold-Stmt F (List ℕ) (List ℕ) names_step (λ statement. statement.act)

module _ {F : Type 0} where
  -- the models that an act solves, where each statement of a loop's body is replaced by the models
  -- that it solves; none for an act that is neither a solve nor a loop
  abbrev pub solved_step : Act-F F (List ℕ) (List ℕ) → List ℕ
  solved_step (Act-F.Solve model method objective maximize) = model.name ∷ []
  solved_step (Act-F.Loop control body) = flat_map (λ models. models) body.items
  solved_step act = []

  -- the models that a statement solves, also in the body of a loop
  abbrev pub models_solved : Stmt F → List ℕ
  models_solved = fold-Stmt F (List ℕ) (List ℕ) solved_step (λ statement. statement.act)
