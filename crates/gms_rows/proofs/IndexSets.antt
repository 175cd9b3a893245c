-- The sets among the indices of a definition, and its rows element by element.
use Rattle.std.proofs.Common.{◌≡◌, ℕ, ◌+◌, ◌<◌, List, [], ◌∷◌, ◌++◌, map, take, length, get_or, Option, Some, None, Box, refl, sym, ap, ◌∙◌, append-nil}
use Rattle.std.specs.declared.alloc.Global.{Global}
use Rattle.std.specs.Prelude.{flat_map}
use Rattle.std.proofs.lemmas.List.{take_more}
use Rattle.std.proofs.lemmas.List.Concat.{flat_map-append}
use Rattle.gms_labels.specs.declared.place.Place.{Place}
use Rattle.gms_ast.specs.declared.expression.LagOp.{LagOp}
use Rattle.gms_ast.specs.declared.expression.Expr.{Expr}
use Rattle.gms_ast.specs.declared.expression.Expr.TheOpen.{Index-F}
use Rattle.gms_ast.specs.declared.expression.Expr.TheFolds.{fold_out-Index, fold-roll-Index}
use Rattle.gms_ast.specs.declared.expression.Index.{Index, Label, Set}
use Rattle.gms_ast.specs.declared.expression.Index.TheVariants.{rolls-Label, rolls-Set}
use Rattle.gms_ast.specs.Trees as tree
use Rattle.gms_ast.specs.TreeView.{tree_step, index_step, control_step, index_tree, indices_of, set_index}
use Rattle.gms_rows.specs.Rows.{distinct_numbers, sets_among}
use Rattle.gms_rows.specs.InnerContracts.{with_once}
use Rattle.gms_rows.proofs.Naming.{distinct_numbers-push}

module _ {F : Type 0} where
  -- the sets of an index
  abbrev pub set_names : Index F → List ℕ
  set_names index = sets_among (index_tree index tree.no_index)

  step-sets : (index : Index-F F (tree.Tree F) (tree.Indices F → tree.Indices F) (tree.Control F)) (rest : tree.Indices F) → sets_among (index_step index rest) ≡ sets_among (index_step index tree.no_index) ++ sets_among rest
  step-sets (Index-F.Label n) rest = refl
  step-sets (Index-F.Set name None) rest = refl
  step-sets (Index-F.Set name (Some lag)) rest = refl

  sets-index : (index : Index F) (rest : tree.Indices F) → sets_among (index_tree index rest) ≡ set_names index ++ sets_among rest
  sets-index index rest =
      rw (fold_out-Index F (tree.Tree F) (tree.Indices F → tree.Indices F) (tree.Control F) tree_step index_step control_step index) (step-sets _ rest)

  sets-indices : (indices : List (Index F)) → sets_among (indices_of (map index_tree indices)) ≡ flat_map set_names indices
  sets-indices [] = refl
  sets-indices (index ∷ indices) =
      sets-index index (indices_of (map index_tree indices)) ∙ ap (λ names. set_names index ++ names) (sets-indices indices)

  -- one more index
  pub sets-more : (indices : List (Index F)) (i : ℕ) (index : Index F) → i < length indices → index ≡ get_or indices i index → sets_among (indices_of (map index_tree (take (i + 1) indices))) ≡ sets_among (indices_of (map index_tree (take i indices))) ++ set_names index
  sets-more indices i index here is =
      sets-indices (take (i + 1) indices)
      ∙ ap (flat_map set_names) (take_more indices i index here ∙ ap (λ x. take i indices ++ x ∷ []) (sym is))
      ∙ flat_map-append set_names (take i indices) (index ∷ [])
      ∙ ap (λ names. flat_map set_names (take i indices) ++ names) (append-nil (set_names index))
      ∙ ap (λ names. names ++ set_names index) (sym (sets-indices (take i indices)))

  sets-set_index : (name : ℕ) (lag : Option (LagOp × Place × Box (tree.Tree F) Global)) → sets_among (set_index name lag tree.no_index) ≡ name ∷ []
  sets-set_index name None = refl
  sets-set_index name (Some lag) = refl

  pub names-Set : (name : ℕ) (lag : Option (LagOp × Place × Box (Expr F) Global)) → set_names (Set name lag) ≡ name ∷ []
  names-Set name lag =
      ap set_names (sym (rolls-Set name lag)) ∙ ap (λ f. sets_among (f tree.no_index)) (fold-roll-Index F (tree.Tree F) (tree.Indices F → tree.Indices F) (tree.Control F) tree_step index_step control_step (Index-F.Set name lag)) ∙ sets-set_index name _

  -- one more set, without repetition
  pub once-Set : (indices : List (Index F)) (i : ℕ) (index : Index F) (name : ℕ) → i < length indices → index ≡ get_or indices i index → set_names index ≡ name ∷ [] → distinct_numbers (sets_among (indices_of (map index_tree (take (i + 1) indices)))) ≡ with_once (distinct_numbers (sets_among (indices_of (map index_tree (take i indices))))) name
  once-Set indices i index name here is names =
      ap distinct_numbers (sets-more indices i index here is ∙ ap (λ those. sets_among (indices_of (map index_tree (take i indices))) ++ those) names)
      ∙ distinct_numbers-push (sets_among (indices_of (map index_tree (take i indices)))) name

  pub once-Label : (indices : List (Index F)) (i : ℕ) (index : Index F) → i < length indices → index ≡ get_or indices i index → set_names index ≡ [] → distinct_numbers (sets_among (indices_of (map index_tree (take (i + 1) indices)))) ≡ distinct_numbers (sets_among (indices_of (map index_tree (take i indices))))
  once-Label indices i index here is names =
      ap distinct_numbers (sets-more indices i index here is ∙ ap (λ those. sets_among (indices_of (map index_tree (take i indices))) ++ those) names ∙ append-nil (sets_among (indices_of (map index_tree (take i indices)))))

pub names-Label : (F : Type 0) (n : ℕ) → set_names {F = F} (Label n) ≡ []
names-Label F n =
    ap (set_names {F = F}) (sym (rolls-Label n)) ∙ ap (λ f. sets_among (f tree.no_index)) (fold-roll-Index F (tree.Tree F) (tree.Indices F → tree.Indices F) (tree.Control F) tree_step index_step control_step (Index-F.Label n))
