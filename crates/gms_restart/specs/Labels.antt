-- The labels that occur in the indices of a program (GAMS User's Guide, "Set Definition", "Data
-- Entry: Parameters, Scalars and Tables").
use Rattle.std.specs.Prelude.{◌≡◌, ℕ, nat_lt, true, List, [], ◌∷◌, ◌++◌, length, map, flat_map, Option, Some, None, option_map}
use Rattle.gq_number.specs.Number.{Number}
use Rattle.gms_ast.specs.declared.program.Act.TheOpen.{Act-F}
use Rattle.gms_ast.specs.declared.program.Act.TheFolds.{fold-Stmt}
use Rattle.gms_ast.specs.declared.program.Program.{Program}
use Rattle.gms_ast.specs.declared.program.Right.TheVariants.{Value}
use Rattle.gms_ast.specs.declared.program.Stmt.{Stmt}
use Rattle.gms_ast.specs.TreeView.{tree_of, control_tree, index_tree, indices_of}
use Rattle.gms_ast.specs.Trees as tree
use Rattle.gms_tuple.specs.TupleSet.{has}
use Rattle.gms_store.specs.State.{State, given_in, symbol_at}
use Rattle.gms_check.specs.Loaded.{loaded}
use Rattle.gms_exec.specs.Assignment.{target_of}
use Rattle.gms_run_laws.specs.Names.{Each}

abbrev mutual
  -- the labels among the indices of all references in an expression, also in the amounts of lags
  pub tree_labels : {F : Type 0} → tree.Tree F → List ℕ
  tree_labels (tree.number n) = []
  tree_labels tree.plus_infinity = []
  tree_labels tree.not_available = []
  tree_labels tree.yes = []
  tree_labels tree.no = []
  tree_labels (tree.reference at name suffix indices) = index_labels indices
  tree_labels (tree.place_in_set at set) = []
  tree_labels (tree.size_of_set at set) = []
  tree_labels (tree.call at function args) = part_labels args
  tree_labels (tree.fold_over at op control body) = control_labels control ++ tree_labels body
  tree_labels (tree.negated operand) = tree_labels operand
  tree_labels (tree.sum parts) = part_labels parts
  tree_labels (tree.product parts) = part_labels parts
  tree_labels (tree.power parts) = part_labels parts
  tree_labels (tree.relation parts) = part_labels parts
  tree_labels (tree.not_so operand) = tree_labels operand
  tree_labels (tree.all_of parts) = part_labels parts
  tree_labels (tree.one_of parts) = part_labels parts
  tree_labels (tree.guarded operand guards) = tree_labels operand ++ part_labels guards

  -- the labels in the operands or arguments of a node
  pub part_labels : {F : Type 0} → tree.Parts F → List ℕ
  part_labels tree.no_part = []
  part_labels (tree.part mark part rest) = tree_labels part ++ part_labels rest

  -- the labels among indices, and in the amounts of their lags
  pub index_labels : {F : Type 0} → tree.Indices F → List ℕ
  index_labels tree.no_index = []
  index_labels (tree.label label rest) = label ∷ index_labels rest
  index_labels (tree.set set rest) = index_labels rest
  index_labels (tree.lagged set op at amount rest) = tree_labels amount ++ index_labels rest

  -- the labels in the condition of a control
  pub control_labels : {F : Type 0} → tree.Control F → List ℕ
  control_labels (tree.over sets) = []
  control_labels (tree.over_where sets condition) = tree_labels condition

-- the labels in a condition; none if there is no condition
abbrev pub condition_labels : {F : Type 0} → Option (tree.Tree F) → List ℕ
condition_labels None = []
condition_labels (Some condition) = tree_labels condition

module _ {F : Type 0} where
  -- the labels in the indices, the condition and the expressions of an assignment or a definition,
  -- and in the condition and the body of a loop, where each statement of the body is replaced by
  -- its labels; none for any other act
  abbrev pub labels_step : Act-F F (List ℕ) (List ℕ) → List ℕ
  labels_step (Act-F.Assign target condition right_at (Value right)) =
      index_labels (target_of target).indices ++ (condition_labels (option_map tree_of condition) ++ tree_labels (tree_of right))
  labels_step (Act-F.Define equation indices condition left_at left side right_at right) =
      index_labels (indices_of (map index_tree indices)) ++ (condition_labels (option_map tree_of condition) ++ (tree_labels (tree_of left) ++ tree_labels (tree_of right)))
  labels_step (Act-F.Loop control body) = control_labels (control_tree control) ++ flat_map (λ labels. labels) body.items
  labels_step act = []

  -- the labels in the indices, the condition and the expressions of an assignment or a definition,
  -- and in the condition and the body of a loop; none for any other statement
  abbrev pub statement_labels : Stmt F → List ℕ
  statement_labels = fold-Stmt F (List ℕ) (List ℕ) labels_step (λ statement. statement.act)

-- The labels of these statements (`statement_labels`) and those in the data of the state have
-- numbers below `count`.
pub record HasItsLabels {F : Type 0} (count : ℕ) (statements : List (Stmt F)) (state : State) : Type 0 where
  pub written : Each (λ label. nat_lt label count) (flat_map statement_labels statements)
  pub given : (name : ℕ) (tuple : List ℕ) → has (given_in (symbol_at state name).content) tuple ≡ true → Each (λ label. nat_lt label count) tuple

-- the labels of a program's assignments, definitions and loops (`statement_labels`) and those in
-- the data of its declarations are in the program's table; `value` gives the number that a value of
-- `F` means
abbrev pub WritesItsLabels : {F : Type 0} → (F → Number) → Program F → Type 0
WritesItsLabels value program = HasItsLabels (length program.labels) program.statements.items (loaded value program)
