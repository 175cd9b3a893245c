-- The tree of an expression of a program: its view.
use Rattle.std.specs.Prelude.{ℕ, List, [], ◌∷◌, map, Bool, Option, Some, None, Box}
use Rattle.std.specs.declared.alloc.Global.{Global}
use Rattle.gms_labels.specs.declared.place.Place.{Place}
use Rattle.gms_ast.specs.declared.expression.LagOp.{LagOp}
use Rattle.gms_ast.specs.declared.expression.Expr.{Expr}
use Rattle.gms_ast.specs.declared.expression.Index.{Index}
use Rattle.gms_ast.specs.declared.expression.Control.{Control as ControlNode}
use Rattle.gms_ast.specs.declared.expression.Expr.TheOpen.{Expr-F, Index-F, Control-F}
use Rattle.gms_ast.specs.declared.expression.Expr.TheFolds.{fold-Expr, fold-Index, fold-Control}
use Rattle.gms_ast.specs.Trees.{Mark, plain, placed, signed, related, chosen, Tree, number, plus_infinity, not_available, yes, no, reference, place_in_set, size_of_set, call, fold_over, negated, sum, product, power, relation, not_so, all_of, one_of, guarded, Parts, no_part, part, Indices, no_index, label, set, lagged, Control, over, over_where}

module _ {F : Type 0} where
  -- the parts of a node, in order, from a list of their marks and trees; a mark is what the node
  -- records of a part besides its tree, as whether it is subtracted
  abbrev pub parts_of : List (Mark × Tree F) → Parts F
  parts_of [] = no_part
  parts_of (p ∷ ps) = part p.0 p.1 (parts_of ps)

  -- the parts of a node, in order, from their trees; the node records nothing else of them
  abbrev pub plain_parts : List (Tree F) → Parts F
  plain_parts trees = parts_of (map (λ tree. (plain, tree)) trees)

  -- the parts of a sum or a product, in order. Each has the place in the source where it begins, a
  -- flag, and its tree; the flag is whether a sum subtracts it or a product divides by it
  abbrev pub signed_parts : List (Place × Bool × Tree F) → Parts F
  signed_parts parts = parts_of (map (λ p. (signed p.0 p.1, p.2)) parts)

  -- the indices that begin with the index of the first function in the list: each function adds its
  -- index before those of the functions after it
  abbrev pub indices_of : List (Indices F → Indices F) → Indices F
  indices_of [] = no_index
  indices_of (put ∷ puts) = put (indices_of puts)

  -- an index by the set whose name has the number `name`, with its lag if it has one, followed by
  -- the indices `rest`. A lag is its operator, the place in the source of its amount, and the tree
  -- of this amount
  abbrev pub set_index : ℕ → Option (LagOp × Place × Box (Tree F) Global) → Indices F → Indices F
  set_index name None rest = set name rest
  set_index name (Some lag) rest = lagged name lag.0 lag.1 lag.2.value rest

  -- the control of a fold or loop: the sets over which it goes, by the numbers of their names, and
  -- the condition on their elements, if there is one
  abbrev pub control_of : List ℕ → Option (Box (Tree F) Global) → Control F
  control_of sets None = over sets
  control_of sets (Some condition) = over_where sets condition.value

  -- the tree of one node of an expression, given the trees of its parts
  abbrev pub tree_step : Expr-F F (Tree F) (Indices F → Indices F) (Control F) → Tree F
  tree_step (Expr-F.Number n) = number n
  tree_step Expr-F.PlusInf = plus_infinity
  tree_step Expr-F.Na = not_available
  tree_step Expr-F.Yes = yes
  tree_step Expr-F.No = no
  tree_step (Expr-F.Ref at name suffix indices) = reference at name suffix (indices_of indices.items)
  tree_step (Expr-F.Ord at name) = place_in_set at name
  tree_step (Expr-F.Card at name) = size_of_set at name
  tree_step (Expr-F.Call at function args) = call at function (plain_parts args.items)
  tree_step (Expr-F.Fold at op control body) = fold_over at op control body.value
  tree_step (Expr-F.Neg operand) = negated operand.value
  tree_step (Expr-F.Plus parts) = sum (signed_parts parts.items)
  tree_step (Expr-F.Times parts) = product (signed_parts parts.items)
  tree_step (Expr-F.Power parts) = power (parts_of (map (λ p. (placed p.0, p.1)) parts.items))
  tree_step (Expr-F.Relate parts) = relation (parts_of (map (λ p. (related p.0, p.1)) parts.items))
  tree_step (Expr-F.Not operand) = not_so operand.value
  tree_step (Expr-F.And parts) = all_of (plain_parts parts.items)
  tree_step (Expr-F.Or parts) = one_of (parts_of (map (λ p. (chosen p.0, p.1)) parts.items))
  tree_step (Expr-F.Guard operand guards) = guarded operand.value (plain_parts guards.items)

  -- one index put before others, given the tree of its lag's amount
  abbrev pub index_step : Index-F F (Tree F) (Indices F → Indices F) (Control F) → Indices F → Indices F
  index_step (Index-F.Label n) = label n
  index_step (Index-F.Set name lag) = set_index name lag

  -- the control of one fold or loop, given the tree of its condition
  abbrev pub control_step : Control-F F (Tree F) (Indices F → Indices F) (Control F) → Control F
  control_step control = control_of control.sets control.condition

  -- the tree of an expression
  abbrev pub tree_of : Expr F → Tree F
  tree_of = fold-Expr F (Tree F) (Indices F → Indices F) (Control F) tree_step index_step control_step

  -- the view of an index, put before the views of other indices
  abbrev pub index_tree : Index F → Indices F → Indices F
  index_tree = fold-Index F (Tree F) (Indices F → Indices F) (Control F) tree_step index_step control_step

  -- the view of the control of a fold or loop: its sets, and its condition if there is one
  abbrev pub control_tree : ControlNode F → Control F
  control_tree = fold-Control F (Tree F) (Indices F → Indices F) (Control F) tree_step index_step control_step
