-- Where references occur in a program, and which sets are controlled there: those of the loops
-- around a statement, those of the left side of an assignment or a definition, and those of each
-- fold around the reference (GAMS User's Guide, "Data Manipulations with Parameters", indexed
-- operations; "Programming Flow Control Features", loops).
use Rattle.std.specs.Prelude.{◌≡◌, ◌++◌, ◌∷◌, ℕ, zero, suc, true, List, Option, Some, Vec}
use Rattle.std.specs.declared.alloc.Global.{Global}
use Rattle.gms_labels.specs.declared.place.Place.{Place}
use Rattle.gms_ast.specs.declared.expression.Control.{Control as ControlNode}
use Rattle.gms_ast.specs.declared.expression.Expr.{Expr}
use Rattle.gms_ast.specs.declared.expression.FoldOp.{FoldOp}
use Rattle.gms_ast.specs.declared.expression.Function.{Function}
use Rattle.gms_ast.specs.declared.expression.Index.{Index}
use Rattle.gms_ast.specs.declared.expression.LagOp.{LagOp}
use Rattle.gms_ast.specs.declared.expression.Suffix.{Suffix}
use Rattle.gms_ast.specs.declared.program.Act.{Act, Loop}
use Rattle.gms_ast.specs.declared.program.Act.TheVariants.{Assign, Define, Abort}
use Rattle.gms_ast.specs.declared.program.Right.TheVariants.{Value}
use Rattle.gms_ast.specs.declared.program.Show.{Show}
use Rattle.gms_ast.specs.declared.program.Side.{Side}
use Rattle.gms_ast.specs.declared.program.Stmt.{Stmt}
use Rattle.gms_ast.specs.declared.program.Target.{Target}
use Rattle.gms_ast.specs.declared.word.Named.{Named}
use Rattle.gms_ast.specs.TreeView.{tree_of, control_tree}
use Rattle.gms_ast.specs.Trees.{Mark, Tree, reference, place_in_set, call, fold_over, negated, sum, product, power, relation, not_so, all_of, one_of, guarded, Parts, part, Indices, label, set, lagged, Control, over_where}
use Rattle.gms_scope.specs.Names.{is_index_set}
use Rattle.gms_check.specs.declared.contexts.Context.{Context}
use Rattle.gms_check.specs.Checked.{IsReading}
use Rattle.gms_check.specs.Controls.{is_ordered}
use Rattle.gms_check.specs.Past.{Known, is_among}
use Rattle.gms_check.specs.StatementUses.{index_list, with_left}
use Rattle.gms_check.specs.Uses.{sets_of_control}

-- ---- in an expression

-- What may use the controlled sets of its place: a reference or `ord`.
pub data Asking (F : Type 0) : Type 0 where
  -- a reference: a name, a suffix and indices
  reads : ℕ → Suffix → Indices F → Asking F
  -- `ord` of a set, that is, the position in it of its current label
  orders : ℕ → Asking F

mutual
  -- A reference or `ord` occurs in an expression. The sets `around` are controlled where the
  -- expression is, and the sets `within` where the reference or `ord` is.
  pub data InTree {F : Type 0} (within : List ℕ) : Asking F → List ℕ → Tree F → Type 0 where
    -- the expression is the reference, or the `ord`
    a_reference : {at : Place} {name : ℕ} {suffix : Suffix} {indices : Indices F} →
        InTree within (reads name suffix indices) within (reference at name suffix indices)
    an_ord : {at : Place} {name : ℕ} → InTree within (orders name) within (place_in_set at name)
    -- in the amount of a lag among the indices of a reference
    in_amount : {what : Asking F} {around : List ℕ} {at : Place} {name : ℕ} {suffix : Suffix} {indices : Indices F} →
        InIndices within what around indices → InTree within what around (reference at name suffix indices)
    in_argument : {what : Asking F} {around : List ℕ} {at : Place} {function : Function} {args : Parts F} →
        InParts within what around args → InTree within what around (call at function args)
    -- in the condition of a fold, and in its body: there the sets of the fold are controlled too
    in_condition : {what : Asking F} {around : List ℕ} {at : Place} {op : FoldOp} {control : Control F} {body : Tree F} →
        InControl within what around control → InTree within what around (fold_over at op control body)
    in_body : {what : Asking F} {around : List ℕ} {at : Place} {op : FoldOp} {control : Control F} {body : Tree F} →
        InTree within what (around ++ sets_of_control control) body → InTree within what around (fold_over at op control body)
    in_negated : {what : Asking F} {around : List ℕ} {operand : Tree F} →
        InTree within what around operand → InTree within what around (negated operand)
    in_sum : {what : Asking F} {around : List ℕ} {parts : Parts F} → InParts within what around parts → InTree within what around (sum parts)
    in_product : {what : Asking F} {around : List ℕ} {parts : Parts F} →
        InParts within what around parts → InTree within what around (product parts)
    in_power : {what : Asking F} {around : List ℕ} {parts : Parts F} → InParts within what around parts → InTree within what around (power parts)
    in_relation : {what : Asking F} {around : List ℕ} {parts : Parts F} →
        InParts within what around parts → InTree within what around (relation parts)
    in_not : {what : Asking F} {around : List ℕ} {operand : Tree F} →
        InTree within what around operand → InTree within what around (not_so operand)
    in_and : {what : Asking F} {around : List ℕ} {parts : Parts F} → InParts within what around parts → InTree within what around (all_of parts)
    in_or : {what : Asking F} {around : List ℕ} {parts : Parts F} → InParts within what around parts → InTree within what around (one_of parts)
    in_guarded : {what : Asking F} {around : List ℕ} {operand : Tree F} {guards : Parts F} →
        InTree within what around operand → InTree within what around (guarded operand guards)
    in_guard : {what : Asking F} {around : List ℕ} {operand : Tree F} {guards : Parts F} →
        InParts within what around guards → InTree within what around (guarded operand guards)

  -- A reference or `ord` occurs in one of the operands, arguments or conditions of a node. The sets
  -- `around` are controlled where the node is, and the sets `within` where the reference or `ord`
  -- is.
  pub data InParts {F : Type 0} (within : List ℕ) : Asking F → List ℕ → Parts F → Type 0 where
    in_part : {what : Asking F} {around : List ℕ} {mark : Mark} {tree : Tree F} {rest : Parts F} →
        InTree within what around tree → InParts within what around (part mark tree rest)
    in_later_part : {what : Asking F} {around : List ℕ} {mark : Mark} {tree : Tree F} {rest : Parts F} →
        InParts within what around rest → InParts within what around (part mark tree rest)

  -- A reference or `ord` occurs in the amount of a lag among indices. The sets `around` are
  -- controlled where the indices are, and the sets `within` where the reference or `ord` is.
  pub data InIndices {F : Type 0} (within : List ℕ) : Asking F → List ℕ → Indices F → Type 0 where
    in_lag : {what : Asking F} {around : List ℕ} {name : ℕ} {op : LagOp} {at : Place} {amount : Tree F} {rest : Indices F} →
        InTree within what around amount → InIndices within what around (lagged name op at amount rest)
    after_label : {what : Asking F} {around : List ℕ} {n : ℕ} {rest : Indices F} →
        InIndices within what around rest → InIndices within what around (label n rest)
    after_set : {what : Asking F} {around : List ℕ} {name : ℕ} {rest : Indices F} →
        InIndices within what around rest → InIndices within what around (set name rest)
    after_lag : {what : Asking F} {around : List ℕ} {name : ℕ} {op : LagOp} {at : Place} {amount : Tree F} {rest : Indices F} →
        InIndices within what around rest → InIndices within what around (lagged name op at amount rest)

  -- A reference or `ord` occurs in the condition of a control. The sets `around` are controlled
  -- where the control is, in its condition also those of the control, and the sets `within` where
  -- the reference or `ord` is.
  pub data InControl {F : Type 0} (within : List ℕ) : Asking F → List ℕ → Control F → Type 0 where
    in_where : {what : Asking F} {around sets : List ℕ} {condition : Tree F} →
        InTree within what (around ++ sets) condition → InControl within what around (over_where sets condition)

-- ---- in a statement

module _ {F : Type 0} where
  -- The reference or `ord` `what` occurs in an act, inside loops that control the sets `loops`.
  -- Where it occurs the sets `within` are controlled.
  pub data InAct (within : List ℕ) (what : Asking F) (loops : List ℕ) (act : Act F) : Type 0 where
    -- in the amount of a lag on the left of an assignment, in its condition, and in its right side:
    -- there the sets on the left are controlled too
    on_the_left : (target : Target F) (condition : Option (Expr F)) (right_at : Place) (right : Expr F) → act ≡ Assign target condition right_at (Value right) →
        InIndices within what (with_left loops target.indices) (index_list target.indices) → InAct within what loops act
    in_left_condition : (target : Target F) (condition : Expr F) (right_at : Place) (right : Expr F) → act ≡ Assign target (Some condition) right_at (Value right) →
        InTree within what (with_left loops target.indices) (tree_of condition) → InAct within what loops act
    on_the_right : (target : Target F) (condition : Option (Expr F)) (right_at : Place) (right : Expr F) → act ≡ Assign target condition right_at (Value right) →
        InTree within what (with_left loops target.indices) (tree_of right) → InAct within what loops act
    -- in the condition of a definition, and in its two sides: there the sets on the left are
    -- controlled too
    in_definition_condition : (equation : Named) (indices : List (Index F)) (condition : Expr F) (left_at : Place) (left : Expr F) (side : Side) (right_at : Place) (right : Expr F) →
        act ≡ Define equation indices (Some condition) left_at left side right_at right →
        InTree within what (with_left loops indices) (tree_of condition) → InAct within what loops act
    in_left_side : (equation : Named) (indices : List (Index F)) (condition : Option (Expr F)) (left_at : Place) (left : Expr F) (side : Side) (right_at : Place) (right : Expr F) →
        act ≡ Define equation indices condition left_at left side right_at right →
        InTree within what (with_left loops indices) (tree_of left) → InAct within what loops act
    in_right_side : (equation : Named) (indices : List (Index F)) (condition : Option (Expr F)) (left_at : Place) (left : Expr F) (side : Side) (right_at : Place) (right : Expr F) →
        act ≡ Define equation indices condition left_at left side right_at right →
        InTree within what (with_left loops indices) (tree_of right) → InAct within what loops act
    -- in the condition of a loop, and in that of an abort
    in_loop_condition : (control : ControlNode F) (body : Vec (Stmt F) Global) → act ≡ Loop control body →
        InControl within what loops (control_tree control) → InAct within what loops act
    in_abort_condition : (condition : Expr F) (items : List Show) → act ≡ Abort (Some condition) items →
        InTree within what loops (tree_of condition) → InAct within what loops act

  -- The statement `outer` is a loop, and the statement `next` in its body has the property `Inner`
  -- with the sets `loops` and those of the loop controlled.
  pub record IsInLoop (Inner : List ℕ → Stmt F → Type 0) (loops : List ℕ) (outer : Stmt F) : Type 0 where
    pub control : ControlNode F
    pub body : Vec (Stmt F) Global
    pub loop : outer.act ≡ Loop control body
    pub before : List (Stmt F)
    pub next : Stmt F
    pub rest : List (Stmt F)
    pub occurs : body.items ≡ before ++ next ∷ rest
    pub holds : Inner (loops ++ sets_of_control (control_tree control)) next

  -- a reference or `ord` occurs in the statement itself if `depth` is 0, otherwise in the body of
  -- the innermost of exactly `depth` nested loops, the outermost being the statement. The sets
  -- `loops` are controlled around the statement, and the sets `within` where the reference or `ord`
  -- occurs
  abbrev pub InStatement : ℕ → List ℕ → Asking F → List ℕ → Stmt F → Type 0
  InStatement zero within what loops statement = InAct within what loops statement.act
  InStatement (suc depth) within what loops statement = IsInLoop (InStatement depth within what) loops statement

  -- ---- its meaning

  -- a reference has no error in some context where the sets `within` are controlled; the set of an
  -- `ord` is one-dimensional, controlled and ordered
  abbrev pub IsMeant : Known F → List ℕ → Asking F → Type 0
  IsMeant known within (reads name suffix indices) = (context : Context) × IsReading known context within name suffix indices
  IsMeant known within (orders name) = (is_index_set known.state name ≡ true) × (is_among within name ≡ true) × (is_ordered known name ≡ true)
