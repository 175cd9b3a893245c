-- Where variables occur, and which operations of an equation are not linear (GAMS User's Guide,
-- "Equations"; "Model and Solve Statements", linear programs).
use Rattle.std.specs.Prelude.{ℕ, Bool, true, false, not, ◌&&◌, ◌||◌}
use Rattle.std.specs.List.{list_any}
use Rattle.gms_ast.specs.declared.expression.Suffix.{Suffix}
use Rattle.gms_ast.specs.declared.expression.Suffix.TheVariants as suffix
use Rattle.gms_ast.specs.declared.expression.FoldOp.TheVariants.{Sum}
use Rattle.gms_ast.specs.declared.expression.FoldOp.{FoldOp}
use Rattle.gms_ast.specs.Trees.{Tree, reference, call, fold_over, negated, sum, product, power, guarded, Parts, no_part, part}
use Rattle.gms_store.specs.State.{symbol_at}
use Rattle.gms_check.specs.Uses.{Use, reading, showing, calling, folding, stepping, multiplies, divides, raises}
use Rattle.gms_check.specs.Past.{Known}
use Rattle.gms_check.specs.Names.{is_variable}

-- whether a fold is `sum`
abbrev pub is_sum : FoldOp → Bool
is_sum Sum = true
is_sum op = false

module _ {F : Type 0} where
  -- whether a name with this suffix is an unknown: a variable without suffix
  abbrev pub is_variable_by : Known F → ℕ → Suffix → Bool
  is_variable_by known name suffix.None = is_variable (symbol_at known.state name).content
  is_variable_by known name suffix = false

abbrev mutual
  -- whether an expression has a variable without suffix, apart from those in conditions, relations,
  -- operands of logic and amounts of lags
  pub has_variable : {F : Type 0} → Known F → Tree F → Bool
  has_variable known (reference at name suffix indices) = is_variable_by known name suffix
  has_variable known (call at function args) = have_variable known args
  has_variable known (fold_over at op control body) = has_variable known body
  has_variable known (negated operand) = has_variable known operand
  has_variable known (sum parts) = have_variable known parts
  has_variable known (product parts) = have_variable known parts
  has_variable known (power parts) = have_variable known parts
  has_variable known (guarded operand guards) = has_variable known operand
  has_variable known tree = false

  -- whether one of these operands or arguments has a variable without suffix, in the sense of
  -- `has_variable`
  pub have_variable : {F : Type 0} → Known F → Parts F → Bool
  have_variable known no_part = false
  have_variable known (part mark tree rest) = has_variable known tree || have_variable known rest

module _ {F : Type 0} where
  -- Nonlinear: an operation of an equation is not linear in the variables: a product of two
  -- operands with variables, a division by an operand with variables, a power with variables in its
  -- base or exponent, or a function, `prod`, `smin` or `smax` of an expression with variables
  abbrev pub nonlinear : Known F → Use F → Bool
  nonlinear known (stepping context multiplies earlier right) =
      context.variables && (list_any (has_variable known) earlier && has_variable known right)
  nonlinear known (stepping context divides earlier right) = context.variables && has_variable known right
  nonlinear known (stepping context raises earlier right) =
      context.variables && (list_any (has_variable known) earlier || has_variable known right)
  nonlinear known (calling context function args) = context.variables && have_variable known args
  nonlinear known (folding context op body) = context.variables && (not (is_sum op) && has_variable known body)
  nonlinear known used = false

  -- Endogenous: a variable without suffix is displayed, or occurs in a context that admits no
  -- variables
  abbrev pub endogenous : Known F → Use F → Bool
  endogenous known (reading context controlled name suffix indices) = not context.variables && is_variable_by known name suffix
  endogenous known (showing name suffix) = is_variable_by known name suffix
  endogenous known used = false
