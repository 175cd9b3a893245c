-- Where subexpressions occur in the expressions of a program, by the path from an expression down
-- to them (GAMS User's Guide, "Data Manipulation", "Equations", "Conditional Expressions,
-- Assignments and Equations", "Dynamic Sets").
use Rattle.std.specs.Prelude.{◌≡◌, ◌++◌, ℕ, true, false, List, [], ◌∷◌, All, Option, Some, Vec, length}
use Rattle.std.specs.declared.alloc.Global.{Global}
use Rattle.gms_labels.specs.declared.place.Place.{Place}
use Rattle.gq_number.specs.Number.{Number}
use Rattle.gms_ast.specs.declared.expression.Control.{Control as ControlNode}
use Rattle.gms_ast.specs.declared.expression.Expr.{Expr}
use Rattle.gms_ast.specs.declared.expression.FoldOp.{FoldOp}
use Rattle.gms_ast.specs.declared.expression.Function.{Function}
use Rattle.gms_ast.specs.declared.expression.Index.{Index}
use Rattle.gms_ast.specs.declared.expression.LagOp.{LagOp}
use Rattle.gms_ast.specs.declared.expression.Suffix.{Suffix}
use Rattle.gms_ast.specs.declared.program.Act.{Act, Loop}
use Rattle.gms_ast.specs.declared.program.Act.TheVariants.{Abort, Assign, Define}
use Rattle.gms_ast.specs.declared.program.Program.{Program}
use Rattle.gms_ast.specs.declared.program.Right.TheVariants.{Value}
use Rattle.gms_ast.specs.declared.program.Show.{Show}
use Rattle.gms_ast.specs.declared.program.Side.{Side}
use Rattle.gms_ast.specs.declared.program.Stmt.{Stmt}
use Rattle.gms_ast.specs.declared.program.Target.{Target}
use Rattle.gms_ast.specs.declared.word.Named.{Named}
use Rattle.gms_ast.specs.Trees.{Control, Indices, Mark, Parts, Tree, all_of, call, fold_over, guarded, label, lagged, negated, not_so, one_of, over_where, part, power, product, reference, relation, set, sum}
use Rattle.gms_ast.specs.TreeView.{control_tree, tree_of}
use Rattle.gms_store.specs.State.{State, symbol_at}
use Rattle.gms_store.specs.Declarations.{is_set}
use Rattle.gms_check.specs.Checked.{FollowsIn}
use Rattle.gms_check.specs.LeftSides.{IsNestedIn}
use Rattle.gms_check.specs.Loaded.{sound}
use Rattle.gms_check.specs.Past.{state_after}
use Rattle.gms_check.specs.StatementUses.{index_list}

-- ---- in an expression

-- A step of a path: from an expression to one of its operands, arguments or conditions.
pub data ExpressionStep : Type 0 where
  -- to the operand of a sign
  signed_operand : ExpressionStep
  -- to an operand of a sum or a difference, of a product or a quotient, of a power
  term : ExpressionStep
  factor : ExpressionStep
  power_operand : ExpressionStep
  -- to an argument of a function
  argument : ExpressionStep
  -- to the condition of a fold, and to its body
  fold_condition : ExpressionStep
  fold_body : ExpressionStep
  relation_operand : ExpressionStep
  not_operand : ExpressionStep
  and_operand : ExpressionStep
  -- to an operand of `or` or `xor`
  or_operand : ExpressionStep
  -- to the left operand of `$`, and to its condition
  dollar_operand : ExpressionStep
  dollar_condition : ExpressionStep
  -- to the amount of a lag among the indices of a reference
  lag_amount : ExpressionStep

module _ {F : Type 0} where
  -- the expression is one of these operands, arguments or conditions of a node
  pub data IsPartOf (tree : Tree F) : Parts F → Type 0 where
    first_part : {mark : Mark} {rest : Parts F} → IsPartOf tree (part mark tree rest)
    later_part : {mark : Mark} {other : Tree F} {rest : Parts F} → IsPartOf tree rest → IsPartOf tree (part mark other rest)

  -- the expression is the amount of a lag of one of these indices
  pub data IsAmountIn (amount : Tree F) : Indices F → Type 0 where
    first_amount : {name : ℕ} {op : LagOp} {at : Place} {rest : Indices F} → IsAmountIn amount (lagged name op at amount rest)
    after_label : {n : ℕ} {rest : Indices F} → IsAmountIn amount rest → IsAmountIn amount (label n rest)
    after_set : {name : ℕ} {rest : Indices F} → IsAmountIn amount rest → IsAmountIn amount (set name rest)
    after_lag : {name : ℕ} {op : LagOp} {at : Place} {other : Tree F} {rest : Indices F} → IsAmountIn amount rest → IsAmountIn amount (lagged name op at other rest)

  -- The expression `tree` occurs in an expression, at the end of this path, whose steps go from the
  -- outermost inwards.
  pub data Occurs (tree : Tree F) : List ExpressionStep → Tree F → Type 0 where
    itself : Occurs tree [] tree
    in_signed : {steps : List ExpressionStep} {operand : Tree F} → Occurs tree steps operand → Occurs tree (signed_operand ∷ steps) (negated operand)
    in_sum : {steps : List ExpressionStep} {next : Tree F} {parts : Parts F} → IsPartOf next parts → Occurs tree steps next → Occurs tree (term ∷ steps) (sum parts)
    in_product : {steps : List ExpressionStep} {next : Tree F} {parts : Parts F} → IsPartOf next parts → Occurs tree steps next → Occurs tree (factor ∷ steps) (product parts)
    in_power : {steps : List ExpressionStep} {next : Tree F} {parts : Parts F} → IsPartOf next parts → Occurs tree steps next → Occurs tree (power_operand ∷ steps) (power parts)
    in_call : {steps : List ExpressionStep} {at : Place} {function : Function} {next : Tree F} {args : Parts F} →
        IsPartOf next args → Occurs tree steps next → Occurs tree (argument ∷ steps) (call at function args)
    in_fold_condition : {steps : List ExpressionStep} {at : Place} {op : FoldOp} {sets : List ℕ} {condition body : Tree F} →
        Occurs tree steps condition → Occurs tree (fold_condition ∷ steps) (fold_over at op (over_where sets condition) body)
    in_fold_body : {steps : List ExpressionStep} {at : Place} {op : FoldOp} {control : Control F} {body : Tree F} →
        Occurs tree steps body → Occurs tree (fold_body ∷ steps) (fold_over at op control body)
    in_relation : {steps : List ExpressionStep} {next : Tree F} {parts : Parts F} → IsPartOf next parts → Occurs tree steps next → Occurs tree (relation_operand ∷ steps) (relation parts)
    in_not : {steps : List ExpressionStep} {operand : Tree F} → Occurs tree steps operand → Occurs tree (not_operand ∷ steps) (not_so operand)
    in_and : {steps : List ExpressionStep} {next : Tree F} {parts : Parts F} → IsPartOf next parts → Occurs tree steps next → Occurs tree (and_operand ∷ steps) (all_of parts)
    in_or : {steps : List ExpressionStep} {next : Tree F} {parts : Parts F} → IsPartOf next parts → Occurs tree steps next → Occurs tree (or_operand ∷ steps) (one_of parts)
    in_dollar : {steps : List ExpressionStep} {operand : Tree F} {guards : Parts F} → Occurs tree steps operand → Occurs tree (dollar_operand ∷ steps) (guarded operand guards)
    in_dollar_condition : {steps : List ExpressionStep} {next operand : Tree F} {guards : Parts F} →
        IsPartOf next guards → Occurs tree steps next → Occurs tree (dollar_condition ∷ steps) (guarded operand guards)
    in_lag : {steps : List ExpressionStep} {at : Place} {name : ℕ} {suffix : Suffix} {next : Tree F} {indices : Indices F} →
        IsAmountIn next indices → Occurs tree steps next → Occurs tree (lag_amount ∷ steps) (reference at name suffix indices)

-- ---- in a statement

-- The role of an expression in its statement.
pub data Role : Type 0 where
  -- the amount of a lag on the left of an assignment or a definition
  left_amount : Role
  -- the condition of an assignment, a definition, a loop or an abort
  condition_of : Role
  -- a side of a definition
  side_of : Role
  -- the right side of an assignment to a set, and of another assignment
  set_right : Role
  value_right : Role

module _ {F : Type 0} (state : State) where
  -- An expression of the act, with its role. Whether an assigned name is a set in `state`
  -- determines the role of the right side.
  pub data IsExpressionOf (act : Act F) : Role → Tree F → Type 0 where
    amount_in_assignment : {amount : Tree F} (target : Target F) (condition : Option (Expr F)) (right_at : Place) (right : Expr F) →
        act ≡ Assign target condition right_at (Value right) → IsAmountIn amount (index_list target.indices) → IsExpressionOf act left_amount amount
    amount_in_definition : {amount : Tree F} (equation : Named) (indices : List (Index F)) (condition : Option (Expr F)) (left_at : Place) (left : Expr F) (side : Side) (right_at : Place) (right : Expr F) →
        act ≡ Define equation indices condition left_at left side right_at right → IsAmountIn amount (index_list indices) → IsExpressionOf act left_amount amount
    condition_of_assignment : (target : Target F) (condition : Expr F) (right_at : Place) (right : Expr F) →
        act ≡ Assign target (Some condition) right_at (Value right) → IsExpressionOf act condition_of (tree_of condition)
    condition_of_definition : (equation : Named) (indices : List (Index F)) (condition : Expr F) (left_at : Place) (left : Expr F) (side : Side) (right_at : Place) (right : Expr F) →
        act ≡ Define equation indices (Some condition) left_at left side right_at right → IsExpressionOf act condition_of (tree_of condition)
    condition_of_loop : {sets : List ℕ} {condition : Tree F} (control : ControlNode F) (body : Vec (Stmt F) Global) →
        act ≡ Loop control body → control_tree control ≡ over_where sets condition → IsExpressionOf act condition_of condition
    condition_of_abort : (condition : Expr F) (items : List Show) →
        act ≡ Abort (Some condition) items → IsExpressionOf act condition_of (tree_of condition)
    left_side : (equation : Named) (indices : List (Index F)) (condition : Option (Expr F)) (left_at : Place) (left : Expr F) (side : Side) (right_at : Place) (right : Expr F) →
        act ≡ Define equation indices condition left_at left side right_at right → IsExpressionOf act side_of (tree_of left)
    right_side : (equation : Named) (indices : List (Index F)) (condition : Option (Expr F)) (left_at : Place) (left : Expr F) (side : Side) (right_at : Place) (right : Expr F) →
        act ≡ Define equation indices condition left_at left side right_at right → IsExpressionOf act side_of (tree_of right)
    right_of_set : (target : Target F) (condition : Option (Expr F)) (right_at : Place) (right : Expr F) →
        act ≡ Assign target condition right_at (Value right) → is_set (symbol_at state target.name).content ≡ true → IsExpressionOf act set_right (tree_of right)
    right_of_value : (target : Target F) (condition : Option (Expr F)) (right_at : Place) (right : Expr F) →
        act ≡ Assign target condition right_at (Value right) → is_set (symbol_at state target.name).content ≡ false → IsExpressionOf act value_right (tree_of right)

-- the state after the declarations, with their data, of the statements `before` of a program, each
-- taken to have no error
abbrev pub declared_before : {F : Type 0} → (F → Number) → Program F → List (Stmt F) → State
declared_before value program before = state_after value (length program.names) (sound before)

-- The expression `tree` occurs in the statement of the program that follows the statements
-- `before`, or in the body of a loop there: at the end of the path `steps` in an expression with
-- this role.
pub record OccursIn {F : Type 0} (value : F → Number) (program : Program F) (before : List (Stmt F)) (role : Role) (steps : List ExpressionStep) (tree : Tree F) : Type 0 where
  pub outer : Stmt F
  pub is_placed : FollowsIn program before outer
  pub depth : ℕ
  pub inner : Stmt F
  pub inside : IsNestedIn depth inner outer
  pub root : Tree F
  pub expression : IsExpressionOf (declared_before value program before) inner.act role root
  pub occurs : Occurs tree steps root

-- ---- where variables and sets may occur

-- the step is one of arithmetic: not to a condition, an operand of a relation or of logic, or an
-- amount of a lag
pub data IsArithmetic : ExpressionStep → Type 0 where
  of_sign : IsArithmetic signed_operand
  of_sum : IsArithmetic term
  of_product : IsArithmetic factor
  of_power : IsArithmetic power_operand
  of_function : IsArithmetic argument
  of_fold : IsArithmetic fold_body
  of_dollar : IsArithmetic dollar_operand

-- the step is to a part of an expression that may be a set: to an operand or the condition of `$`,
-- to an operand of `not`, `and`, `or` or `xor`, or to the condition of a fold
pub data IsToSet : ExpressionStep → Type 0 where
  operand_of_dollar : IsToSet dollar_operand
  condition_of_dollar : IsToSet dollar_condition
  operand_of_not : IsToSet not_operand
  operand_of_and : IsToSet and_operand
  operand_of_or : IsToSet or_operand
  condition_of_fold : IsToSet fold_condition

-- the step is one within the right side of an assignment to a set: to an operand of a sign, a sum,
-- a product, a power or `not`, or to the left operand of `$`
pub data IsOfMembers : ExpressionStep → Type 0 where
  members_signed : IsOfMembers signed_operand
  members_added : IsOfMembers term
  members_common : IsOfMembers factor
  members_raised : IsOfMembers power_operand
  members_denied : IsOfMembers not_operand
  members_where : IsOfMembers dollar_operand

-- A variable without suffix may occur at the end of this path in an expression with this role: in a
-- side of a definition, by steps of arithmetic.
pub data MayHaveVariable : Role → List ExpressionStep → Type 0 where
  in_side : {steps : List ExpressionStep} → All IsArithmetic steps → MayHaveVariable side_of steps

-- A set may occur at the end of this path in an expression with this role: if the last step is to
-- an operand or the condition of `$`, to an operand of `not`, `and`, `or` or `xor`, or to the
-- condition of a fold (`IsToSet`); as a whole condition; or on the right side of an assignment to a
-- set, if each step is to an operand of a sign, a sum, a product, a power or `not`, or to the left
-- operand of `$` (`IsOfMembers`).
pub data MayHaveSet : Role → List ExpressionStep → Type 0 where
  as_operand : {role : Role} {last : ExpressionStep} (steps : List ExpressionStep) → IsToSet last → MayHaveSet role (steps ++ last ∷ [])
  alone : MayHaveSet condition_of []
  among_members : {steps : List ExpressionStep} → All IsOfMembers steps → MayHaveSet set_right steps
