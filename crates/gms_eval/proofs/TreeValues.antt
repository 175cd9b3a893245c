-- The answers of the parts and of the indices of a node of the program.
use Rattle.std.proofs.Common.{◌≡◌, ℕ, List, [], ◌∷◌, map, Some, None, refl, ap, ◌∙◌}
use Rattle.gq_number.specs.Number.{Number}
use Rattle.gms_ast.specs.declared.expression.Index.{Index}
use Rattle.gms_ast.specs.declared.expression.Expr.TheOpen.{Index-F}
use Rattle.gms_ast.specs.declared.expression.Expr.TheFolds.{fold_out-Index}
use Rattle.gms_ast.specs.Trees.{Mark, Tree, Indices, no_index, Control}
use Rattle.gms_ast.specs.TreeView.{parts_of, indices_of, tree_step, index_step, control_step, index_tree}
use Rattle.gms_store.specs.State.{State}
use Rattle.gms_eval.specs.Nodes.{unmarked}
use Rattle.gms_eval.specs.Bindings.{Pairs}
use Rattle.gms_eval.specs.Value.{value, values, labels, first_label, label_answer}

module _ {F : Type 0} (v : F → Number) (limit : ℕ) (state : State) (b : Pairs) where
  -- the answers of parts are those of their trees
  pub values-parts_of : {X : Type 0} (mark : X → Mark) (tree : X → Tree F) (xs : List X) → values v limit state b (parts_of (map (λ x. (mark x, tree x)) xs)) ≡ map (λ x. (mark x, value v limit state b (tree x))) xs
  values-parts_of mark tree [] = refl
  values-parts_of mark tree (x ∷ xs) =
      ap (λ parts. (mark x, value v limit state b (tree x)) ∷ parts) (values-parts_of mark tree xs)

  -- and so without their marks
  pub unmarked-parts_of : {X : Type 0} (mark : X → Mark) (tree : X → Tree F) (xs : List X) → unmarked (values v limit state b (parts_of (map (λ x. (mark x, tree x)) xs))) ≡ map (λ x. value v limit state b (tree x)) xs
  unmarked-parts_of mark tree [] = refl
  unmarked-parts_of mark tree (x ∷ xs) =
      ap (λ answers. value v limit state b (tree x) ∷ answers) (unmarked-parts_of mark tree xs)

  step-labels : (index : Index-F F (Tree F) (Indices F → Indices F) (Control F)) (rest : Indices F) → labels v limit state b (index_step index rest) ≡ first_label v limit state b (index_step index no_index) ∷ labels v limit state b rest
  step-labels (Index-F.Label n) rest = refl
  step-labels (Index-F.Set name None) rest = refl
  step-labels (Index-F.Set name (Some lag)) rest = refl

  labels-index : (index : Index F) (rest : Indices F) → labels v limit state b (index_tree index rest) ≡ label_answer v limit state b index ∷ labels v limit state b rest
  labels-index index rest =
      rw (fold_out-Index F (Tree F) (Indices F → Indices F) (Control F) tree_step index_step control_step index) (step-labels _ rest)

  -- the labels of indices are those of each
  pub labels-indices_of : (indices : List (Index F)) → labels v limit state b (indices_of (map index_tree indices)) ≡ map (label_answer v limit state b) indices
  labels-indices_of [] = refl
  labels-indices_of (index ∷ indices) =
      labels-index index (indices_of (map index_tree indices)) ∙ ap (λ answers. label_answer v limit state b index ∷ answers) (labels-indices_of indices)
