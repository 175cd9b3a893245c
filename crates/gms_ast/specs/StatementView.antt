-- The trees of the statements of a program: their view.
use Rattle.std.specs.Prelude.{List, [], ◌∷◌, map, option_map}
use Rattle.gq_extended.specs.declared.extended.Ext.{Ext}
use Rattle.gq_extended.specs.declared.extended.Ext.TheVariants.{Number, PlusInf, MinusInf, Na}
use Rattle.gms_ast.specs.declared.declaration.Decl.{Decl}
use Rattle.gms_ast.specs.declared.declaration.Item.{Item}
use Rattle.gms_ast.specs.declared.expression.Expr.{Expr}
use Rattle.gms_ast.specs.declared.expression.Index.{Index}
use Rattle.gms_ast.specs.declared.program.Setting.{Setting}
use Rattle.gms_ast.specs.declared.program.Setting.TheVariants as setting
use Rattle.gms_ast.specs.declared.program.Right.{Right}
use Rattle.gms_ast.specs.declared.program.Right.TheVariants as right
use Rattle.gms_ast.specs.declared.program.Target.{Target as TargetNode}
use Rattle.gms_ast.specs.declared.program.Stmt.{Stmt}
use Rattle.gms_ast.specs.declared.program.Act.TheOpen.{Act-F, Stmt-F}
use Rattle.gms_ast.specs.declared.program.Act.TheFolds.{fold-Stmt}
use Rattle.gms_ast.specs.Trees.{Tree, Indices}
use Rattle.gms_ast.specs.TreeView.{tree_of, index_tree, indices_of, control_tree}
use Rattle.gms_ast.specs.Numbers.{in_numbers, indices_in_numbers, control_in_numbers}
use Rattle.gms_ast.specs.StatementTrees.{Act, declares, aliases, assigns, defines, declares_models, solves, displays, loops, sets_options, aborts, Statements, no_statement, statement, Target}

-- The values of a program's statements as the numbers that they mean, by `value`.
module _ {F N : Type 0} (value : F → N) where
  -- an extended value over F as one over N
  abbrev pub extended_in : Ext F → Ext N
  extended_in (Number v) = Number (value v)
  extended_in PlusInf = PlusInf
  extended_in MinusInf = MinusInf
  extended_in Na = Na

  -- an item of data; a number v that is its value is replaced by `value v`
  abbrev pub item_in : Item F → Item N
  item_in item = record { at = item.at; parts = item.parts; value = option_map extended_in item.value; bad_range = item.bad_range }

  -- a declared name; each number v that is the value of one of its items is replaced by `value v`
  abbrev pub declared_in : Decl F → Decl N
  declared_in declared = record { named = declared.named; domain = declared.domain; items = map item_in declared.items }

  -- the setting of an option; a number v is replaced by `value v`, and a word stays
  abbrev pub setting_in : Setting F → Setting N
  setting_in (setting.Number at v) = setting.Number at (value v)
  setting_in (setting.Name word) = setting.Name word

  -- the tree of an expression, with each number v in it replaced by `value v`
  abbrev pub shown_tree : Expr F → Tree N
  shown_tree e = in_numbers value (tree_of e)

  -- the indices of a reference, with each number v in their lags replaced by `value v`
  abbrev pub shown_indices : List (Index F) → Indices N
  shown_indices indices = indices_in_numbers value (indices_of (map index_tree indices))

  -- the left side of an assignment, with each number v in its lags replaced by `value v`
  abbrev pub shown_target : TargetNode F → Target N
  shown_target target = record { at = target.at; name = target.name; suffix = target.suffix; indices = shown_indices target.indices }

  -- the tree of the right side of an assignment, with each number v in it replaced by `value v`
  abbrev pub shown_right : Right F → Tree N
  shown_right (right.Value e) = shown_tree e

  -- the sequence of statements that begins with the statement of the first function in the list:
  -- each function adds its statement before those of the functions after it
  abbrev pub statements_in_order : List (Statements N → Statements N) → Statements N
  statements_in_order [] = no_statement
  statements_in_order (put ∷ puts) = put (statements_in_order puts)

  -- the view, as an `Act N`, of what a statement does; each number v is replaced by `value v`. In
  -- the argument each statement of a loop's body is a function that puts the view of this statement
  -- before the statements after it
  abbrev pub act_view_step : Act-F F (Act N) (Statements N → Statements N) → Act N
  act_view_step (Act-F.Declare kind items) = declares kind (map declared_in items)
  act_view_step (Act-F.Alias first second) = aliases first second
  act_view_step (Act-F.Assign target condition right_at right_side) =
      assigns (shown_target target) (option_map shown_tree condition) right_at (shown_right right_side)
  act_view_step (Act-F.Define equation indices condition left_at left_side side right_at right_side) =
      defines equation (shown_indices indices) (option_map shown_tree condition) (record { left_at = left_at; left = shown_tree left_side; side = side; right_at = right_at; right = shown_tree right_side })
  act_view_step (Act-F.Model models) = declares_models models
  act_view_step (Act-F.Solve model method objective maximize) = solves model method objective maximize
  act_view_step (Act-F.Display items) = displays items
  act_view_step (Act-F.Loop control body) = loops (control_in_numbers value (control_tree control)) (statements_in_order body.items)
  act_view_step (Act-F.Options settings) = sets_options (map (λ pair. (pair.0, setting_in pair.1)) settings)
  act_view_step (Act-F.Abort condition items) = aborts (option_map shown_tree condition) items

  -- the view of one statement before the statements `others`; `node` has the statement's place and
  -- the view of what it does
  abbrev pub statement_view_step : Stmt-F F (Act N) (Statements N → Statements N) → Statements N → Statements N
  statement_view_step node others = statement node.at node.act others

  -- a statement, put before other statements; each number v of F in the statement is replaced by
  -- `value v`, the number of N that v means
  abbrev pub statement_view : Stmt F → Statements N → Statements N
  statement_view = fold-Stmt F (Act N) (Statements N → Statements N) act_view_step statement_view_step

  -- the statements of a program, in order; each number v of F in them is replaced by `value v`, the
  -- number of N that v means
  abbrev pub statements_view : List (Stmt F) → Statements N
  statements_view statements = statements_in_order (map statement_view statements)
