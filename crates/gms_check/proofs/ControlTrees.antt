-- The tree that a control of the program shows.
use Rattle.std.proofs.Common.{◌≡◌, ℕ, List, Option, Some, None, Box, refl}
use Rattle.std.specs.declared.alloc.Global.{Global}
use Rattle.gms_ast.specs.declared.expression.Expr.{Expr}
use Rattle.gms_ast.specs.declared.expression.Expr.TheFolds.{fold_out-Control}
use Rattle.gms_ast.specs.declared.expression.Control.{Control as ControlNode, out-Control}
use Rattle.gms_ast.specs.Trees.{Tree, Indices, Control, over, over_where}
use Rattle.gms_ast.specs.TreeView.{control_of, tree_step, index_step, control_step, tree_of, control_tree}
use Rattle.gms_check.specs.Uses.{sets_of_control}

sets-control_of : {F : Type 0} (sets : List ℕ) (condition : Option (Box (Tree F) Global)) → sets_of_control (control_of sets condition) ≡ sets
sets-control_of sets None = refl
sets-control_of sets (Some condition) = refl

module _ {F : Type 0} (control : ControlNode F) where
  -- its sets
  pub tree-sets : sets_of_control (control_tree control) ≡ (out-Control F control).sets
  tree-sets =
      rw (fold_out-Control F (Tree F) (Indices F → Indices F) (Control F) tree_step index_step control_step control) (sets-control_of _ _)

  -- without a condition
  pub tree-alone : (out-Control F control).condition ≡ None → control_tree control ≡ over (out-Control F control).sets
  tree-alone e =
      rw (fold_out-Control F (Tree F) (Indices F → Indices F) (Control F) tree_step index_step control_step control, e)

  -- and with one
  pub tree-where : (condition : Box (Expr F) Global) → (out-Control F control).condition ≡ Some condition → control_tree control ≡ over_where (out-Control F control).sets (tree_of condition.value)
  tree-where condition e =
      rw (fold_out-Control F (Tree F) (Indices F → Indices F) (Control F) tree_step index_step control_step control, e)
