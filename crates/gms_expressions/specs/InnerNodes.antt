-- The view of an expression of a program.
use Rattle.std.specs.Prelude.{Bool, List, map}
use Rattle.gq_number.specs.Number.{Number}
use Rattle.gms_labels.specs.declared.place.Place.{Place}
use Rattle.gms_ast.specs.declared.expression.Expr.{Expr}
use Rattle.gms_ast.specs.declared.expression.RelOp.{RelOp}
use Rattle.gms_ast.specs.Trees.{Mark, plain, placed, signed, related, chosen, Tree as Syntax}
use Rattle.gms_ast.specs.TreeView.{tree_of}
use Rattle.gms_ast.specs.Numbers.{in_numbers}

module _ {F : Type 0} (value : F → Number) where
  -- the tree over numbers of an expression
  abbrev pub view : Expr F → Syntax Number
  view e = in_numbers value (tree_of e)

  -- the trees of expressions, each with its mark
  abbrev pub plain_views : List (Expr F) → List (Mark × Syntax Number)
  plain_views parts = map (λ e. (plain, view e)) parts

  abbrev pub placed_views : List (Place × Expr F) → List (Mark × Syntax Number)
  placed_views parts = map (λ p. (placed p.0, view p.1)) parts

  abbrev pub signed_views : List (Place × Bool × Expr F) → List (Mark × Syntax Number)
  signed_views parts = map (λ p. (signed p.0 p.1, view p.2)) parts

  abbrev pub related_views : List (RelOp × Expr F) → List (Mark × Syntax Number)
  related_views parts = map (λ p. (related p.0, view p.1)) parts

  abbrev pub chosen_views : List (Bool × Expr F) → List (Mark × Syntax Number)
  chosen_views parts = map (λ p. (chosen p.0, view p.1)) parts
