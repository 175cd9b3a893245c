-- The trees of expressions without parts.
use Rattle.std.proofs.Common.{◌≡◌, ℕ, sym, ap, ◌∙◌}
use Rattle.gms_labels.specs.declared.place.Place.{Place}
use Rattle.gms_ast.specs.declared.expression.Expr.{Number, Ord, Card}
use Rattle.gms_ast.specs.declared.expression.Expr.TheOpen.{Expr-F}
use Rattle.gms_ast.specs.declared.expression.Expr.TheFolds.{fold-roll-Expr}
use Rattle.gms_ast.specs.declared.expression.Expr.TheVariants.{rolls-Number, rolls-Ord, rolls-Card}
use Rattle.gms_ast.specs.Trees.{Tree, Indices, Control, number, place_in_set, size_of_set}
use Rattle.gms_ast.specs.TreeView.{tree_step, index_step, control_step, tree_of}

module _ {F : Type 0} where
  pub tree_of-Number : (v : F) → tree_of (Number v) ≡ number v
  tree_of-Number v = ap tree_of (sym (rolls-Number v)) ∙ fold-roll-Expr F (Tree F) (Indices F → Indices F) (Control F) tree_step index_step control_step (Expr-F.Number v)

  pub tree_of-Ord : (at : Place) (name : ℕ) → tree_of {F = F} (Ord at name) ≡ place_in_set at name
  tree_of-Ord at name = ap (tree_of {F = F}) (sym (rolls-Ord at name)) ∙ fold-roll-Expr F (Tree F) (Indices F → Indices F) (Control F) tree_step index_step control_step (Expr-F.Ord at name)

  pub tree_of-Card : (at : Place) (name : ℕ) → tree_of {F = F} (Card at name) ≡ size_of_set at name
  tree_of-Card at name = ap (tree_of {F = F}) (sym (rolls-Card at name)) ∙ fold-roll-Expr F (Tree F) (Indices F → Indices F) (Control F) tree_step index_step control_step (Expr-F.Card at name)
