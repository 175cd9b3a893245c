-- The tree of each kind of expression, by the trees of its parts.
use Rattle.std.proofs.Common.{◌≡◌, ℕ, List, [], ◌∷◌, map, Bool, Vec, Box, refl, sym, ap, ◌∙◌}
use Rattle.std.specs.declared.alloc.Global.{Global}
use Rattle.gms_labels.specs.declared.place.Place.{Place}
use Rattle.gms_ast.specs.declared.expression.Suffix.{Suffix}
use Rattle.gms_ast.specs.declared.expression.FoldOp.{FoldOp}
use Rattle.gms_ast.specs.declared.expression.Function.{Function}
use Rattle.gms_ast.specs.declared.expression.RelOp.{RelOp}
use Rattle.gms_ast.specs.declared.expression.Index.{Index}
use Rattle.gms_ast.specs.declared.expression.Control.{Control as ControlNode}
use Rattle.gms_ast.specs.declared.expression.Expr.{Expr, Ref, Call, Fold, Neg, Plus, Times, Power, Relate, Not, And, Or, Guard}
use Rattle.gms_ast.specs.declared.expression.Expr.TheOpen.{Expr-F}
use Rattle.gms_ast.specs.declared.expression.Expr.TheFolds.{fold-roll-Expr}
use Rattle.gms_ast.specs.declared.expression.Expr.TheVariants.{rolls-Ref, rolls-Call, rolls-Fold, rolls-Neg, rolls-Plus, rolls-Times, rolls-Power, rolls-Relate, rolls-Not, rolls-And, rolls-Or, rolls-Guard}
use Rattle.gms_ast.specs.Trees.{plain, placed, signed, related, chosen, Tree, reference, call, fold_over, negated, sum, product, power, relation, not_so, all_of, one_of, guarded, Indices, Control}
use Rattle.gms_ast.specs.TreeView.{parts_of, indices_of, tree_step, index_step, control_step, tree_of, index_tree, control_tree}

-- two functions of the elements of a list, one after the other
map-map : {X Y Z : Type 0} (f : X → Y) (g : Y → Z) (xs : List X) → map g (map f xs) ≡ map (λ x. g (f x)) xs
map-map f g [] = refl
map-map f g (x ∷ xs) = ap (λ ys. g (f x) ∷ ys) (map-map f g xs)

module _ {F : Type 0} where
  pub tree_of-Ref : (at : Place) (name : ℕ) (suffix : Suffix) (indices : Vec (Index F) Global) → tree_of (Ref at name suffix indices) ≡ reference at name suffix (indices_of (map index_tree indices.items))
  tree_of-Ref at name suffix indices = ap tree_of (sym (rolls-Ref at name suffix indices)) ∙ fold-roll-Expr F (Tree F) (Indices F → Indices F) (Control F) tree_step index_step control_step (Expr-F.Ref at name suffix indices)

  pub tree_of-Call : (at : Place) (function : Function) (args : Vec (Expr F) Global) → tree_of (Call at function args) ≡ call at function (parts_of (map (λ p. (plain, tree_of p)) args.items))
  tree_of-Call at function args = ap tree_of (sym (rolls-Call at function args)) ∙ fold-roll-Expr F (Tree F) (Indices F → Indices F) (Control F) tree_step index_step control_step (Expr-F.Call at function args) ∙ ap (λ ps. call at function (parts_of ps)) (map-map _ (λ tree. (plain, tree)) args.items)

  pub tree_of-Fold : (at : Place) (op : FoldOp) (control : ControlNode F) (body : Box (Expr F) Global) → tree_of (Fold at op control body) ≡ fold_over at op (control_tree control) (tree_of body.value)
  tree_of-Fold at op control body = ap tree_of (sym (rolls-Fold at op control body)) ∙ fold-roll-Expr F (Tree F) (Indices F → Indices F) (Control F) tree_step index_step control_step (Expr-F.Fold at op control body)

  pub tree_of-Neg : (operand : Box (Expr F) Global) → tree_of (Neg operand) ≡ negated (tree_of operand.value)
  tree_of-Neg operand = ap tree_of (sym (rolls-Neg operand)) ∙ fold-roll-Expr F (Tree F) (Indices F → Indices F) (Control F) tree_step index_step control_step (Expr-F.Neg operand)

  pub tree_of-Not : (operand : Box (Expr F) Global) → tree_of (Not operand) ≡ not_so (tree_of operand.value)
  tree_of-Not operand = ap tree_of (sym (rolls-Not operand)) ∙ fold-roll-Expr F (Tree F) (Indices F → Indices F) (Control F) tree_step index_step control_step (Expr-F.Not operand)

  pub tree_of-Guard : (operand : Box (Expr F) Global) (guards : Vec (Expr F) Global) → tree_of (Guard operand guards) ≡ guarded (tree_of operand.value) (parts_of (map (λ p. (plain, tree_of p)) guards.items))
  tree_of-Guard operand guards = ap tree_of (sym (rolls-Guard operand guards)) ∙ fold-roll-Expr F (Tree F) (Indices F → Indices F) (Control F) tree_step index_step control_step (Expr-F.Guard operand guards) ∙ ap (λ ps. guarded (tree_of operand.value) (parts_of ps)) (map-map _ (λ tree. (plain, tree)) guards.items)

  pub tree_of-And : (parts : Vec (Expr F) Global) → tree_of (And parts) ≡ all_of (parts_of (map (λ p. (plain, tree_of p)) parts.items))
  tree_of-And parts = ap tree_of (sym (rolls-And parts)) ∙ fold-roll-Expr F (Tree F) (Indices F → Indices F) (Control F) tree_step index_step control_step (Expr-F.And parts) ∙ ap (λ ps. all_of (parts_of ps)) (map-map _ (λ tree. (plain, tree)) parts.items)

  pub tree_of-Plus : (parts : Vec (Place × Bool × Expr F) Global) → tree_of (Plus parts) ≡ sum (parts_of (map (λ p. (signed p.0 p.1, tree_of p.2)) parts.items))
  tree_of-Plus parts = ap tree_of (sym (rolls-Plus parts)) ∙ fold-roll-Expr F (Tree F) (Indices F → Indices F) (Control F) tree_step index_step control_step (Expr-F.Plus parts) ∙ ap (λ ps. sum (parts_of ps)) (map-map _ (λ p. (signed p.0 p.1, p.2)) parts.items)

  pub tree_of-Times : (parts : Vec (Place × Bool × Expr F) Global) → tree_of (Times parts) ≡ product (parts_of (map (λ p. (signed p.0 p.1, tree_of p.2)) parts.items))
  tree_of-Times parts = ap tree_of (sym (rolls-Times parts)) ∙ fold-roll-Expr F (Tree F) (Indices F → Indices F) (Control F) tree_step index_step control_step (Expr-F.Times parts) ∙ ap (λ ps. product (parts_of ps)) (map-map _ (λ p. (signed p.0 p.1, p.2)) parts.items)

  pub tree_of-Power : (parts : Vec (Place × Expr F) Global) → tree_of (Power parts) ≡ power (parts_of (map (λ p. (placed p.0, tree_of p.1)) parts.items))
  tree_of-Power parts = ap tree_of (sym (rolls-Power parts)) ∙ fold-roll-Expr F (Tree F) (Indices F → Indices F) (Control F) tree_step index_step control_step (Expr-F.Power parts) ∙ ap (λ ps. power (parts_of ps)) (map-map _ (λ p. (placed p.0, p.1)) parts.items)

  pub tree_of-Relate : (parts : Vec (RelOp × Expr F) Global) → tree_of (Relate parts) ≡ relation (parts_of (map (λ p. (related p.0, tree_of p.1)) parts.items))
  tree_of-Relate parts = ap tree_of (sym (rolls-Relate parts)) ∙ fold-roll-Expr F (Tree F) (Indices F → Indices F) (Control F) tree_step index_step control_step (Expr-F.Relate parts) ∙ ap (λ ps. relation (parts_of ps)) (map-map _ (λ p. (related p.0, p.1)) parts.items)

  pub tree_of-Or : (parts : Vec (Bool × Expr F) Global) → tree_of (Or parts) ≡ one_of (parts_of (map (λ p. (chosen p.0, tree_of p.1)) parts.items))
  tree_of-Or parts = ap tree_of (sym (rolls-Or parts)) ∙ fold-roll-Expr F (Tree F) (Indices F → Indices F) (Control F) tree_step index_step control_step (Expr-F.Or parts) ∙ ap (λ ps. one_of (parts_of ps)) (map-map _ (λ p. (chosen p.0, p.1)) parts.items)
