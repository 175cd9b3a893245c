-- In the tree of each expression of a program the parts of sums and products have their signs.
use Rattle.std.proofs.Common.{◌≡◌, Bool, true, List, [], ◌∷◌, map, refl, sym, subst}
use Rattle.gms_labels.specs.declared.place.Place.{Place}
use Rattle.gms_ast.specs.declared.expression.Control.{Control as ControlNode}
use Rattle.gms_ast.specs.declared.expression.Expr.{Expr, roll-Expr, map-Expr}
use Rattle.gms_ast.specs.declared.expression.Expr.TheFolds.{fold-roll-Expr, ind-Expr}
use Rattle.gms_ast.specs.declared.expression.Expr.TheOpen.{Expr-F}
use Rattle.gms_ast.specs.declared.expression.Index.{Index}
use Rattle.gms_ast.specs.Trees.{Tree, Indices, Control}
use Rattle.gms_ast.specs.Trees as tree
use Rattle.gms_ast.specs.TreeView.{signed_parts, tree_of, index_tree, control_tree, tree_step, index_step, control_step}
use Rattle.gms_rows.specs.PointValues.{is_signed}

module _ {F : Type 0} where
  abbrev mutual
    -- the parts of sums and products have their signs, where variables may stand
    pub IsMarked : Tree F → Type 0
    IsMarked (tree.fold_over at op control body) = IsMarked body
    IsMarked (tree.negated operand) = IsMarked operand
    IsMarked (tree.sum parts) = AreMarked parts
    IsMarked (tree.product parts) = AreMarked parts
    IsMarked (tree.guarded operand guards) = IsMarked operand
    IsMarked other = Unit {0}

    pub AreMarked : tree.Parts F → Type 0
    AreMarked tree.no_part = Unit {0}
    AreMarked (tree.part mark e rest) = (is_signed mark ≡ true) × (IsMarked e × AreMarked rest)

-- nothing is asked
abbrev Whatever : {A : Type 0} → A → Type 0
Whatever a = Unit {0}

module _ (F : Type 0) where
  abbrev Q : Expr F → Type 0
  Q e = IsMarked (tree_of e)

  -- parts whose trees are all marked
  signed-marked : (parts : List (Place × Bool × ((e : Expr F) × Q e))) → AreMarked (signed_parts (map {B = Place × Bool × Tree F} (λ p. (p.0, p.1, tree_of p.2)) (map {B = Place × Bool × Expr F} (λ p. (p.0, p.1, p.2.0)) parts)))
  signed-marked [] = tt
  signed-marked (p ∷ parts) = (refl, (p.2.1, signed-marked parts))

  abbrev Layer : Type 0
  Layer = Expr-F F ((e : Expr F) × Q e) ((i : Index F) × Whatever i) ((c : ControlNode F) × Whatever c)

  abbrev plain_layer : Layer → Expr-F F (Expr F) (Index F) (ControlNode F)
  plain_layer y =
      map-Expr F ((e : Expr F) × Q e) ((i : Index F) × Whatever i) ((c : ControlNode F) × Whatever c) (Expr F) (Index F) (ControlNode F) (λ e. e.0) (λ i. i.0) (λ c. c.0) y

  rolled : (x : Expr-F F (Expr F) (Index F) (ControlNode F)) → IsMarked (tree_step (map-Expr F (Expr F) (Index F) (ControlNode F) (Tree F) (Indices F → Indices F) (Control F) tree_of index_tree control_tree x)) → Q (roll-Expr F x)
  rolled x marked = subst IsMarked (sym (fold-roll-Expr F (Tree F) (Indices F → Indices F) (Control F) tree_step index_step control_step x)) marked

  by_layer : (y : Layer) → Q (roll-Expr F (plain_layer y))
  by_layer (Expr-F.Number n) = rolled (plain_layer (Expr-F.Number n)) tt
  by_layer Expr-F.PlusInf = rolled (plain_layer Expr-F.PlusInf) tt
  by_layer Expr-F.Na = rolled (plain_layer Expr-F.Na) tt
  by_layer Expr-F.Yes = rolled (plain_layer Expr-F.Yes) tt
  by_layer Expr-F.No = rolled (plain_layer Expr-F.No) tt
  by_layer (Expr-F.Ref at name suffix indices) = rolled (plain_layer (Expr-F.Ref at name suffix indices)) tt
  by_layer (Expr-F.Ord at name) = rolled (plain_layer (Expr-F.Ord at name)) tt
  by_layer (Expr-F.Card at name) = rolled (plain_layer (Expr-F.Card at name)) tt
  by_layer (Expr-F.Call at function args) = rolled (plain_layer (Expr-F.Call at function args)) tt
  by_layer (Expr-F.Fold at op control body) = rolled (plain_layer (Expr-F.Fold at op control body)) body.value.1
  by_layer (Expr-F.Neg operand) = rolled (plain_layer (Expr-F.Neg operand)) operand.value.1
  by_layer (Expr-F.Plus parts) = rolled (plain_layer (Expr-F.Plus parts)) (signed-marked parts.items)
  by_layer (Expr-F.Times parts) = rolled (plain_layer (Expr-F.Times parts)) (signed-marked parts.items)
  by_layer (Expr-F.Power parts) = rolled (plain_layer (Expr-F.Power parts)) tt
  by_layer (Expr-F.Relate parts) = rolled (plain_layer (Expr-F.Relate parts)) tt
  by_layer (Expr-F.Not operand) = rolled (plain_layer (Expr-F.Not operand)) tt
  by_layer (Expr-F.And parts) = rolled (plain_layer (Expr-F.And parts)) tt
  by_layer (Expr-F.Or parts) = rolled (plain_layer (Expr-F.Or parts)) tt
  by_layer (Expr-F.Guard operand guards) = rolled (plain_layer (Expr-F.Guard operand guards)) operand.value.1

  every-tree : (e : Expr F) → Q e
  every-tree =
      ind-Expr F Q (λ i. Whatever i) (λ c. Whatever c)
      (λ x y is. subst (λ z. Q (roll-Expr F z)) is (by_layer y))
      (λ x y is. tt)
      (λ x y is. tt)

-- the tree of an expression is marked
pub tree-marked : {F : Type 0} (e : Expr F) → IsMarked (tree_of e)
tree-marked {F} e = every-tree F e
