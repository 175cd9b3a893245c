-- The parts of a node of a program: their view as the parts of a tree.
use Rattle.std.specs.Prelude.{Bool, false, not, ◌&&◌, ◌||◌, List, [], ◌∷◌, map}
use Rattle.gms_labels.specs.declared.place.Place.{Place}
use Rattle.gms_ast.specs.declared.expression.Expr.{Expr}
use Rattle.gms_ast.specs.declared.expression.RelOp.{RelOp}
use Rattle.gms_ast.specs.Trees.{Parts, plain, placed, signed, related, chosen}
use Rattle.gms_ast.specs.TreeView.{parts_of, tree_of}
use Rattle.gms_check.specs.declared.contexts.Context.{Context}
use Rattle.gms_check.specs.declared.error.ErrorKind.{ErrorKind}
use Rattle.gms_check.specs.declared.error.ErrorKind.TheVariants.{WrongKind, Nonlinear}
use Rattle.gms_check.specs.declared.expression.Operation.{Operation}
use Rattle.gms_check.specs.declared.expression.Operation.TheVariants.{Multiplies, Divides, Raises}

-- the place around parts that all have places
abbrev pub in_no_place : Place
in_no_place = record { line = 0; column = 0 }

module _ {F : Type 0} where
  -- parts without marks
  abbrev pub plain_list : List (Expr F) → Parts F
  plain_list parts = parts_of (map (λ p. (plain, tree_of p)) parts)

  -- parts of a sum or a product
  abbrev pub signed_list : List (Place × Bool × Expr F) → Parts F
  signed_list parts = parts_of (map (λ (p : Place × Bool × Expr F). (signed p.0 p.1, tree_of p.2)) parts)

  -- parts of a power
  abbrev pub placed_list : List (Place × Expr F) → Parts F
  placed_list parts = parts_of (map (λ (p : Place × Expr F). (placed p.0, tree_of p.1)) parts)

  -- parts of relations
  abbrev pub related_list : List (RelOp × Expr F) → Parts F
  related_list parts = parts_of (map (λ (p : RelOp × Expr F). (related p.0, tree_of p.1)) parts)

  -- parts of a choice
  abbrev pub chosen_list : List (Bool × Expr F) → Parts F
  chosen_list parts = parts_of (map (λ (p : Bool × Expr F). (chosen p.0, tree_of p.1)) parts)

-- whether the operands of a step are wrong by their kind
abbrev pub step_wrong : Context → Operation → Bool
step_wrong context Multiplies = false
step_wrong context Divides = not context.numbers
step_wrong context Raises = not context.numbers

-- whether a step is not linear, by whether the operands before it and the right one have variables
abbrev pub step_curved : Operation → Bool → Bool → Bool
step_curved Multiplies earlier right = earlier && right
step_curved Divides earlier right = right
step_curved Raises earlier right = earlier || right

-- the possible errors of a step, by whether the operands before it and the right one have variables
abbrev pub step_faults : Context → Operation → Bool → Bool → List (Bool × ErrorKind)
step_faults context Multiplies earlier right = (false, WrongKind) ∷ (context.variables && (earlier && right), Nonlinear) ∷ []
step_faults context Divides earlier right = (not context.numbers, WrongKind) ∷ (context.variables && right, Nonlinear) ∷ []
step_faults context Raises earlier right = (not context.numbers, WrongKind) ∷ (context.variables && (earlier || right), Nonlinear) ∷ []
