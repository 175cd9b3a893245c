-- Lags among indices, index by index.
use Rattle.std.proofs.Common.{◌≡◌, ℕ, ◌+◌, ◌<◌, ◌≤◌, true, false, ◌||◌, List, ◌∷◌, map, drop, length, get_or, Some, None, refl, sym, ap, ◌∙◌}
use Rattle.std.proofs.lemmas.List.{at_drop_more, at_drop_all}
use Rattle.gms_ast.specs.declared.expression.Expr.TheOpen.{Index-F}
use Rattle.gms_ast.specs.declared.expression.Expr.TheFolds.{fold_out-Index}
use Rattle.gms_ast.specs.declared.expression.Index.{Index}
use Rattle.gms_ast.specs.Trees as tree
use Rattle.gms_ast.specs.TreeView.{tree_step, index_step, control_step, index_tree, indices_of}
use Rattle.gms_rows.specs.Rows.{has_lag}

module _ {F : Type 0} where
  step-lag : (index : Index-F F (tree.Tree F) (tree.Indices F → tree.Indices F) (tree.Control F)) (rest : tree.Indices F) → has_lag (index_step index rest) ≡ (has_lag (index_step index tree.no_index) || has_lag rest)
  step-lag (Index-F.Label n) rest = refl
  step-lag (Index-F.Set name None) rest = refl
  step-lag (Index-F.Set name (Some lag)) rest = refl

  -- an index before others
  either : (index : Index F) (rest : tree.Indices F) → has_lag (index_tree index rest) ≡ (has_lag (index_tree index tree.no_index) || has_lag rest)
  either index rest =
      rw (fold_out-Index F (tree.Tree F) (tree.Indices F → tree.Indices F) (tree.Control F) tree_step index_step control_step index) (step-lag _ rest)

  module _ (indices : List (Index F)) (i : ℕ) (index : Index F) (here : i < length indices) (is : index ≡ get_or indices i index) where
    next : has_lag (indices_of (map index_tree (drop i indices))) ≡ (has_lag (index_tree index tree.no_index) || has_lag (indices_of (map index_tree (drop (i + 1) indices))))
    next =
        at_drop_more (λ those. has_lag (indices_of (map index_tree those))) indices i index here
        ∙ ap (λ (z : Index F). has_lag (indices_of (map index_tree (z ∷ drop (i + 1) indices)))) (sym is)
        ∙ either index (indices_of (map index_tree (drop (i + 1) indices)))

    -- a lag here
    pub lag-here : has_lag (index_tree index tree.no_index) ≡ true → has_lag (indices_of (map index_tree (drop i indices))) ≡ true
    lag-here e = next ∙ ap (λ b. b || has_lag (indices_of (map index_tree (drop (i + 1) indices)))) e

    -- none here
    pub lag-later : has_lag (index_tree index tree.no_index) ≡ false → has_lag (indices_of (map index_tree (drop i indices))) ≡ has_lag (indices_of (map index_tree (drop (i + 1) indices)))
    lag-later e = next ∙ ap (λ b. b || has_lag (indices_of (map index_tree (drop (i + 1) indices)))) e

  -- and none after the last one
  pub lag-nowhere : (indices : List (Index F)) (i : ℕ) → length indices ≤ i → has_lag (indices_of (map index_tree (drop i indices))) ≡ false
  lag-nowhere indices i all = at_drop_all (λ those. has_lag (indices_of (map index_tree those))) indices i all
