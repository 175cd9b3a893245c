-- The places in the source that a statement and the expressions in it have (GAMS User's Guide,
-- "GAMS Output", compilation errors; "GAMS Programs").
use Rattle.std.specs.Prelude.{◌≡◌, ℕ, Bool, List, Contains, Option, Some, Vec}
use Rattle.std.specs.declared.alloc.Global.{Global}
use Rattle.gms_labels.specs.declared.place.Place.{Place}
use Rattle.gms_ast.specs.declared.declaration.Decl.{Decl}
use Rattle.gms_ast.specs.declared.declaration.DeclKind.{DeclKind}
use Rattle.gms_ast.specs.declared.declaration.Item.{Item}
use Rattle.gms_ast.specs.declared.declaration.ModelDecl.{ModelDecl}
use Rattle.gms_ast.specs.declared.expression.Control.{Control as ControlNode}
use Rattle.gms_ast.specs.declared.expression.Expr.{Expr}
use Rattle.gms_ast.specs.declared.expression.FoldOp.{FoldOp}
use Rattle.gms_ast.specs.declared.expression.Function.{Function}
use Rattle.gms_ast.specs.declared.expression.Index.{Index}
use Rattle.gms_ast.specs.declared.expression.LagOp.{LagOp}
use Rattle.gms_ast.specs.declared.expression.Suffix.{Suffix}
use Rattle.gms_ast.specs.declared.program.Act.{Loop}
use Rattle.gms_ast.specs.declared.program.Act.TheVariants.{Abort, Alias, Assign, Declare, Define, Display, Model, Options, Solve}
use Rattle.gms_ast.specs.declared.program.Right.TheVariants.{Value}
use Rattle.gms_ast.specs.declared.program.Setting.{Setting}
use Rattle.gms_ast.specs.declared.program.Setting.TheVariants as setting
use Rattle.gms_ast.specs.declared.program.Show.{Show}
use Rattle.gms_ast.specs.declared.program.Show.TheVariants as show
use Rattle.gms_ast.specs.declared.program.Side.{Side}
use Rattle.gms_ast.specs.declared.program.Stmt.{Stmt}
use Rattle.gms_ast.specs.declared.program.Target.{Target}
use Rattle.gms_ast.specs.declared.word.Named.{Named}
use Rattle.gms_ast.specs.declared.word.Word.{Word}
use Rattle.gms_ast.specs.Trees.{Control, Indices, Mark, Parts, Tree, all_of, call, fold_over, guarded, label, lagged, one_of, part, place_in_set, placed, power, product, reference, relation, set, signed, size_of_set, sum}
use Rattle.gms_store.specs.State.{State}
use Rattle.gms_check.specs.StatementUses.{index_list}
use Rattle.gms_laws.specs.Occurrences.{IsExpressionOf, Occurs, Role, ExpressionStep}

-- ---- in an expression

module _ {F : Type 0} where
  -- one of these operands of a sum, a product or a power has this place
  pub data IsOperandAt (at : Place) : Parts F → Type 0 where
    signed_at : {subtracts : Bool} {tree : Tree F} {rest : Parts F} → IsOperandAt at (part (signed at subtracts) tree rest)
    placed_at : {tree : Tree F} {rest : Parts F} → IsOperandAt at (part (placed at) tree rest)
    later_operand : {mark : Mark} {tree : Tree F} {rest : Parts F} → IsOperandAt at rest → IsOperandAt at (part mark tree rest)

  -- the amount of a lag of one of these indices has this place
  pub data IsAmountAt (at : Place) : Indices F → Type 0 where
    first_at : {name : ℕ} {op : LagOp} {amount : Tree F} {rest : Indices F} → IsAmountAt at (lagged name op at amount rest)
    at_after_label : {n : ℕ} {rest : Indices F} → IsAmountAt at rest → IsAmountAt at (label n rest)
    at_after_set : {name : ℕ} {rest : Indices F} → IsAmountAt at rest → IsAmountAt at (set name rest)
    at_after_lag : {name : ℕ} {op : LagOp} {other : Place} {amount : Tree F} {rest : Indices F} → IsAmountAt at rest → IsAmountAt at (lagged name op other amount rest)

  -- an expression has these operands, arguments or conditions
  pub data HasParts (parts : Parts F) : Tree F → Type 0 where
    parts_of_sum : HasParts parts (sum parts)
    parts_of_product : HasParts parts (product parts)
    parts_of_power : HasParts parts (power parts)
    parts_of_call : {at : Place} {function : Function} → HasParts parts (call at function parts)
    parts_of_relation : HasParts parts (relation parts)
    parts_of_and : HasParts parts (all_of parts)
    parts_of_or : HasParts parts (one_of parts)
    parts_of_dollar : {operand : Tree F} → HasParts parts (guarded operand parts)

  -- the place is one that an expression itself has: that of a reference, of the amount of a lag in
  -- it, of an `ord`, a `card`, a call or a fold, or of one of its operands
  pub data IsOwnPlace (at : Place) : Tree F → Type 0 where
    reference_at : {name : ℕ} {suffix : Suffix} {indices : Indices F} → IsOwnPlace at (reference at name suffix indices)
    amount_at : {other : Place} {name : ℕ} {suffix : Suffix} {indices : Indices F} → IsAmountAt at indices → IsOwnPlace at (reference other name suffix indices)
    ord_at : {name : ℕ} → IsOwnPlace at (place_in_set at name)
    card_at : {name : ℕ} → IsOwnPlace at (size_of_set at name)
    call_at : {function : Function} {args : Parts F} → IsOwnPlace at (call at function args)
    fold_at : {op : FoldOp} {control : Control F} {body : Tree F} → IsOwnPlace at (fold_over at op control body)
    operand_at : {parts : Parts F} {tree : Tree F} → HasParts parts tree → IsOperandAt at parts → IsOwnPlace at tree

  -- The place is one that an expression which occurs in `root` has.
  pub record IsPlaceIn (at : Place) (root : Tree F) : Type 0 where
    pub steps : List ExpressionStep
    pub tree : Tree F
    pub occurs : Occurs tree steps root
    pub own : IsOwnPlace at tree

-- ---- in a statement

-- the value of an option has this place
pub data IsSettingAt {F : Type 0} (at : Place) : Setting F → Type 0 where
  number_at : {value : F} → IsSettingAt at (setting.Number at value)
  name_at : {word : Word} → at ≡ word.at → IsSettingAt at (setting.Name word)

-- a symbol among the items of a display or an abort has this place
pub data IsShownAt (at : Place) : List Show → Type 0 where
  shown_at : {items : List Show} {named : Named} {suffix : Suffix} → Contains items (show.Symbol named suffix) → at ≡ named.at → IsShownAt at items

-- a declared model, or an equation that it lists, has this place
pub data IsModelAt (at : Place) (model : ModelDecl) : Type 0 where
  model_at : at ≡ model.named.at → IsModelAt at model
  listed_at : {equation : Named} → Contains model.equations equation → at ≡ equation.at → IsModelAt at model

module _ {F : Type 0} where
  -- a declared name, a set of its domain, or an item of its data has this place
  pub data IsDeclaredAt (at : Place) (item : Decl F) : Type 0 where
    name_declared_at : at ≡ item.named.at → IsDeclaredAt at item
    domain_at : {named : Named} → Contains item.domain (Some named) → at ≡ named.at → IsDeclaredAt at item
    datum_at : {datum : Item F} → Contains item.items datum → at ≡ datum.at → IsDeclaredAt at item

  -- The place is one of a statement: the statement's own, that of a name, a word, a side or an
  -- amount of a lag in it, that of an expression in it, or one of a statement in its body.
  pub data IsPlaceOf (at : Place) : Stmt F → Type 0 where
    its_own : {statement : Stmt F} → at ≡ statement.at → IsPlaceOf at statement
    of_expression : {statement : Stmt F} {state : State} {role : Role} {root : Tree F} → IsExpressionOf state statement.act role root → IsPlaceIn at root → IsPlaceOf at statement
    -- of an assignment: its left side, its right side, an amount of a lag on the left
    target_at : {statement : Stmt F} {target : Target F} {condition : Option (Expr F)} {right_at : Place} {right : Expr F} → statement.act ≡ Assign target condition right_at (Value right) → at ≡ target.at → IsPlaceOf at statement
    assigned_at : {statement : Stmt F} {target : Target F} {condition : Option (Expr F)} {right_at : Place} {right : Expr F} → statement.act ≡ Assign target condition right_at (Value right) → at ≡ right_at → IsPlaceOf at statement
    left_amount_at : {statement : Stmt F} {target : Target F} {condition : Option (Expr F)} {right_at : Place} {right : Expr F} → statement.act ≡ Assign target condition right_at (Value right) → IsAmountAt at (index_list target.indices) → IsPlaceOf at statement
    -- of a definition: the equation, the two sides, an amount of a lag on the left
    equation_at : {statement : Stmt F} {equation : Named} {indices : List (Index F)} {condition : Option (Expr F)} {left_at : Place} {left : Expr F} {side : Side} {right_at : Place} {right : Expr F} →
        statement.act ≡ Define equation indices condition left_at left side right_at right → at ≡ equation.at → IsPlaceOf at statement
    left_side_at : {statement : Stmt F} {equation : Named} {indices : List (Index F)} {condition : Option (Expr F)} {left_at : Place} {left : Expr F} {side : Side} {right_at : Place} {right : Expr F} →
        statement.act ≡ Define equation indices condition left_at left side right_at right → at ≡ left_at → IsPlaceOf at statement
    right_side_at : {statement : Stmt F} {equation : Named} {indices : List (Index F)} {condition : Option (Expr F)} {left_at : Place} {left : Expr F} {side : Side} {right_at : Place} {right : Expr F} →
        statement.act ≡ Define equation indices condition left_at left side right_at right → at ≡ right_at → IsPlaceOf at statement
    index_amount_at : {statement : Stmt F} {equation : Named} {indices : List (Index F)} {condition : Option (Expr F)} {left_at : Place} {left : Expr F} {side : Side} {right_at : Place} {right : Expr F} →
        statement.act ≡ Define equation indices condition left_at left side right_at right → IsAmountAt at (index_list indices) → IsPlaceOf at statement
    -- of an alias, a solve, a display, an abort, an option
    first_name_at : {statement : Stmt F} {first second : Named} → statement.act ≡ Alias first second → at ≡ first.at → IsPlaceOf at statement
    second_name_at : {statement : Stmt F} {first second : Named} → statement.act ≡ Alias first second → at ≡ second.at → IsPlaceOf at statement
    solved_at : {statement : Stmt F} {model : Named} {word : Word} {objective : Named} {maximize : Bool} → statement.act ≡ Solve model word objective maximize → at ≡ model.at → IsPlaceOf at statement
    method_at : {statement : Stmt F} {model : Named} {word : Word} {objective : Named} {maximize : Bool} → statement.act ≡ Solve model word objective maximize → at ≡ word.at → IsPlaceOf at statement
    objective_at : {statement : Stmt F} {model : Named} {word : Word} {objective : Named} {maximize : Bool} → statement.act ≡ Solve model word objective maximize → at ≡ objective.at → IsPlaceOf at statement
    displayed_at : {statement : Stmt F} {items : List Show} → statement.act ≡ Display items → IsShownAt at items → IsPlaceOf at statement
    aborted_at : {statement : Stmt F} {condition : Option (Expr F)} {items : List Show} → statement.act ≡ Abort condition items → IsShownAt at items → IsPlaceOf at statement
    option_at : {statement : Stmt F} {settings : List (Word × Setting F)} {one : Word × Setting F} → statement.act ≡ Options settings → Contains settings one → at ≡ one.0.at → IsPlaceOf at statement
    option_value_at : {statement : Stmt F} {settings : List (Word × Setting F)} {one : Word × Setting F} → statement.act ≡ Options settings → Contains settings one → IsSettingAt at one.1 → IsPlaceOf at statement
    -- of a declaration, and of a model statement
    declared_at : {statement : Stmt F} {kind : DeclKind} {items : List (Decl F)} {item : Decl F} → statement.act ≡ Declare kind items → Contains items item → IsDeclaredAt at item → IsPlaceOf at statement
    model_declared_at : {statement : Stmt F} {models : List ModelDecl} {model : ModelDecl} → statement.act ≡ Model models → Contains models model → IsModelAt at model → IsPlaceOf at statement
    -- of a loop: a place of a statement in its body
    in_loop : {statement : Stmt F} (control : ControlNode F) (body : Vec (Stmt F) Global) (next : Stmt F) → statement.act ≡ Loop control body → Contains body.items next → IsPlaceOf at next → IsPlaceOf at statement
