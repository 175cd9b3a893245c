-- The value of each kind of node of the program, by those of its parts.
use Rattle.std.proofs.Common.{◌≡◌, ℕ, Bool, map, Ok, Vec, Box, not, if◌then◌else◌, sym, ap, ◌∙◌}
use Rattle.std.specs.declared.alloc.Global.{Global}
use Rattle.gms_labels.specs.declared.place.Place.{Place}
use Rattle.gq_number.specs.Number.{Number}
use Rattle.gq_extended.specs.Extended.{Extended, negated}
use Rattle.gms_ast.specs.declared.expression.Suffix.{Suffix}
use Rattle.gms_ast.specs.declared.expression.FoldOp.{FoldOp}
use Rattle.gms_ast.specs.declared.expression.Function.{Function}
use Rattle.gms_ast.specs.declared.expression.RelOp.{RelOp}
use Rattle.gms_ast.specs.declared.expression.Index.{Index}
use Rattle.gms_ast.specs.declared.expression.Control.{Control as ControlNode}
use Rattle.gms_ast.specs.declared.expression.Expr.{Expr, Ref, Call, Fold, Neg, Plus, Times, Power, Relate, Not, And, Or, Guard}
use Rattle.gms_ast.specs.Trees as tree
use Rattle.gms_ast.specs.TreeView.{tree_of, control_tree}
use Rattle.gms_ast.proofs.TreeEquations.{tree_of-Ref, tree_of-Call, tree_of-Fold, tree_of-Neg, tree_of-Plus, tree_of-Times, tree_of-Power, tree_of-Relate, tree_of-Not, tree_of-And, tree_of-Or, tree_of-Guard}
use Rattle.gms_store.specs.State.{State}
use Rattle.gms_eval.specs.Nodes.{chain, sum_step, product_step, power_step, relation_step, all_step, one_step, in_order, called, folded, each_holds, is_so, truth}
use Rattle.gms_eval.specs.Bindings.{Pairs, controlled}
use Rattle.gms_eval.specs.Faults.{Answer, nothing, ◌and_then◌}
use Rattle.gms_eval.specs.References.{tuple_of, entry_or_zero}
use Rattle.gms_eval.specs.Value.{value, domain, sets_of, label_answer}
use Rattle.gms_eval.proofs.Answering.{and_then_assoc}
use Rattle.gms_eval.proofs.TreeValues.{values-parts_of, unmarked-parts_of, labels-indices_of}

module _ {F : Type 0} (v : F → Number) (limit : ℕ) (state : State) (b : Pairs) where
  -- the value of an expression
  abbrev pub of_expr : Expr F → Answer Extended
  of_expr e = value v limit state b (tree_of e)

  pub value-Ref : (at : Place) (name : ℕ) (suffix : Suffix) (indices : Vec (Index F) Global) → of_expr (Ref at name suffix indices) ≡ ((in_order (map (label_answer v limit state b) indices.items) and_then λ those. Ok (tuple_of those)) and_then entry_or_zero limit state b at name suffix)
  value-Ref at name suffix indices =
      ap (value v limit state b) (tree_of-Ref at name suffix indices)
      ∙ ap (λ labels. in_order labels and_then λ those. entry_or_zero limit state b at name suffix (tuple_of those)) (labels-indices_of v limit state b indices.items)
      ∙ sym (and_then_assoc (in_order (map (label_answer v limit state b) indices.items)) (λ those. Ok (tuple_of those)) (entry_or_zero limit state b at name suffix))

  pub value-Call : (at : Place) (function : Function) (args : Vec (Expr F) Global) → of_expr (Call at function args) ≡ (in_order (map of_expr args.items) and_then λ xs. called limit b at function xs)
  value-Call at function args =
      ap (value v limit state b) (tree_of-Call at function args)
      ∙ ap (λ answers. in_order answers and_then λ xs. called limit b at function xs) (unmarked-parts_of v limit state b (λ _. tree.plain) tree_of args.items)

  pub value-Fold : (at : Place) (op : FoldOp) (control : ControlNode F) (body : Box (Expr F) Global) → of_expr (Fold at op control body) ≡ (domain v limit state b at (control_tree control) and_then λ those. folded limit b op at (map (λ element. (tree.plain, value v limit state (controlled b (sets_of (control_tree control)) element) (tree_of body.value))) those))
  value-Fold at op control body = ap (value v limit state b) (tree_of-Fold at op control body)

  pub value-Neg : (operand : Box (Expr F) Global) → of_expr (Neg operand) ≡ (of_expr operand.value and_then λ x. Ok (negated x))
  value-Neg operand = ap (value v limit state b) (tree_of-Neg operand)

  pub value-Not : (operand : Box (Expr F) Global) → of_expr (Not operand) ≡ (of_expr operand.value and_then λ x. Ok (truth (not (is_so x))))
  value-Not operand = ap (value v limit state b) (tree_of-Not operand)

  pub value-Plus : (parts : Vec (Place × Bool × Expr F) Global) → of_expr (Plus parts) ≡ chain (sum_step limit b) (map (λ p. (tree.signed p.0 p.1, of_expr p.2)) parts.items)
  value-Plus parts =
      ap (value v limit state b) (tree_of-Plus parts)
      ∙ ap (chain (sum_step limit b)) (values-parts_of v limit state b (λ (p : Place × Bool × Expr F). tree.signed p.0 p.1) (λ p. tree_of p.2) parts.items)

  pub value-Times : (parts : Vec (Place × Bool × Expr F) Global) → of_expr (Times parts) ≡ chain (product_step limit b) (map (λ p. (tree.signed p.0 p.1, of_expr p.2)) parts.items)
  value-Times parts =
      ap (value v limit state b) (tree_of-Times parts)
      ∙ ap (chain (product_step limit b)) (values-parts_of v limit state b (λ (p : Place × Bool × Expr F). tree.signed p.0 p.1) (λ p. tree_of p.2) parts.items)

  pub value-Power : (parts : Vec (Place × Expr F) Global) → of_expr (Power parts) ≡ chain (power_step limit b) (map (λ p. (tree.placed p.0, of_expr p.1)) parts.items)
  value-Power parts =
      ap (value v limit state b) (tree_of-Power parts)
      ∙ ap (chain (power_step limit b)) (values-parts_of v limit state b (λ (p : Place × Expr F). tree.placed p.0) (λ p. tree_of p.1) parts.items)

  pub value-Relate : (parts : Vec (RelOp × Expr F) Global) → of_expr (Relate parts) ≡ chain relation_step (map (λ p. (tree.related p.0, of_expr p.1)) parts.items)
  value-Relate parts =
      ap (value v limit state b) (tree_of-Relate parts)
      ∙ ap (chain relation_step) (values-parts_of v limit state b (λ (p : RelOp × Expr F). tree.related p.0) (λ p. tree_of p.1) parts.items)

  pub value-And : (parts : Vec (Expr F) Global) → of_expr (And parts) ≡ chain all_step (map (λ p. (tree.plain, of_expr p)) parts.items)
  value-And parts =
      ap (value v limit state b) (tree_of-And parts)
      ∙ ap (chain all_step) (values-parts_of v limit state b (λ _. tree.plain) tree_of parts.items)

  pub value-Or : (parts : Vec (Bool × Expr F) Global) → of_expr (Or parts) ≡ chain one_step (map (λ p. (tree.chosen p.0, of_expr p.1)) parts.items)
  value-Or parts =
      ap (value v limit state b) (tree_of-Or parts)
      ∙ ap (chain one_step) (values-parts_of v limit state b (λ (p : Bool × Expr F). tree.chosen p.0) (λ p. tree_of p.1) parts.items)

  pub value-Guard : (operand : Box (Expr F) Global) (guards : Vec (Expr F) Global) → of_expr (Guard operand guards) ≡ (each_holds (map of_expr guards.items) and_then λ hold. if hold then of_expr operand.value else Ok nothing)
  value-Guard operand guards =
      ap (value v limit state b) (tree_of-Guard operand guards)
      ∙ ap (λ answers. each_holds answers and_then λ hold. if hold then of_expr operand.value else Ok nothing) (unmarked-parts_of v limit state b (λ _. tree.plain) tree_of guards.items)
