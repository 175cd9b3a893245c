-- What the amounts of lags use, index by index.
use Rattle.std.proofs.Common.{◌≡◌, ◌<◌, ◌+◌, ℕ, List, [], ◌∷◌, ◌++◌, take, length, get_or, Option, Some, None, Box, refl, sym, ap, ◌∙◌}
use Rattle.std.specs.declared.alloc.Global.{Global}
use Rattle.std.proofs.lemmas.List.{append-nil}
use Rattle.gq_number.specs.Number.{Number}
use Rattle.gms_labels.specs.declared.place.Place.{Place}
use Rattle.gms_ast.specs.declared.expression.Expr.{Expr}
use Rattle.gms_ast.specs.declared.expression.Expr.TheOpen.{Index-F}
use Rattle.gms_ast.specs.declared.expression.Expr.TheFolds.{fold_out-Index}
use Rattle.gms_ast.specs.declared.expression.Index.{Index, Label, Set}
use Rattle.gms_ast.specs.declared.expression.LagOp.{LagOp}
use Rattle.gms_ast.specs.Trees.{Tree, Control, Indices, no_index}
use Rattle.gms_ast.specs.TreeView.{tree_step, index_step, control_step, tree_of, index_tree}
use Rattle.gms_check.specs.InnerChecking.{Checking, noted}
use Rattle.gms_check.specs.Contexts.{as_number}
use Rattle.gms_check.specs.StatementUses.{index_list}
use Rattle.gms_check.specs.Uses.{Uses, amount_uses, shift_uses, shifting, uses}
use Rattle.gms_check.proofs.IndexLists.{IsGathered, gathered-more, index_tree-Label, index_tree-alone, index_tree-lagged}
use Rattle.gms_check.proofs.Noting.{noted-none, noted-then}

module _ {F : Type 0} {X : Type 0} (f : Indices F → List X) where
  -- what holds of each kind of index holds of each index
  by-kinds : ((index : Index-F F (Tree F) (Indices F → Indices F) (Control F)) (rest : Indices F) → f (index_step index rest) ≡ f (index_step index no_index) ++ f rest) → (index : Index F) (rest : Indices F) → f (index_tree index rest) ≡ f (index_tree index no_index) ++ f rest
  by-kinds each index rest = rw (fold_out-Index F (Tree F) (Indices F → Indices F) (Control F) tree_step index_step control_step index) (each _ rest)

module _ {F : Type 0} (controlled : List ℕ) where
  step-amounts : (index : Index-F F (Tree F) (Indices F → Indices F) (Control F)) (rest : Indices F) → amount_uses controlled (index_step index rest) ≡ amount_uses controlled (index_step index no_index) ++ amount_uses controlled rest
  step-amounts (Index-F.Label n) rest = refl
  step-amounts (Index-F.Set name None) rest = refl
  step-amounts (Index-F.Set name (Some lag)) rest = ap (λ (first : Uses F). first ++ amount_uses controlled rest) (sym (append-nil (uses as_number lag.1 controlled lag.2.value)))

  -- the amounts of lags
  pub amounts-gathered : IsGathered {F = F} (amount_uses controlled)
  amounts-gathered = (refl, by-kinds (amount_uses controlled) step-amounts)

  step-shifts : (index : Index-F F (Tree F) (Indices F → Indices F) (Control F)) (rest : Indices F) → shift_uses controlled (index_step index rest) ≡ shift_uses controlled (index_step index no_index) ++ shift_uses controlled rest
  step-shifts (Index-F.Label n) rest = refl
  step-shifts (Index-F.Set name None) rest = refl
  step-shifts (Index-F.Set name (Some lag)) rest = ap (λ (first : Uses F). (lag.1, shifting lag.2.value) ∷ (first ++ shift_uses controlled rest)) (sym (append-nil (uses as_number lag.1 controlled lag.2.value)))

  -- the amounts of lags on the left
  pub shifts-gathered : IsGathered {F = F} (shift_uses controlled)
  shifts-gathered = (refl, by-kinds (shift_uses controlled) step-shifts)

  module _ (value : F → Number) (gather : Indices F → Uses F) (gathered : IsGathered {F = F} gather) (xs : List (Index F)) (i : ℕ) (x : Index F) (c s t : Checking) (l : i < length xs) (is : x ≡ get_or xs i x) (e : s ≡ noted value c (gather (index_list (take i xs)))) where
    -- an index that uses something
    gathered-noted : (given : Uses F) → gather (index_tree x no_index) ≡ given → t ≡ noted value s given → t ≡ noted value c (gather (index_list (take (i + 1) xs)))
    gathered-noted given part step =
        noted-then value c s t (gather (index_list (take i xs))) given e step ∙ ap (noted value c) (ap (λ (more : Uses F). gather (index_list (take i xs)) ++ more) (sym part) ∙ sym (gathered-more gather gathered xs i x l is))

    -- an index that uses nothing
    gathered-silent : gather (index_tree x no_index) ≡ [] → t ≡ s → t ≡ noted value c (gather (index_list (take (i + 1) xs)))
    gathered-silent part step = gathered-noted [] part (step ∙ noted-none value s)

  module _ (value : F → Number) (xs : List (Index F)) (i : ℕ) (x : Index F) (c s t : Checking) (l : i < length xs) (is : x ≡ get_or xs i x) where
    -- a set with a lag
    pub amounts-lagged : (n : ℕ) (lag : LagOp × Place × Box (Expr F) Global) → s ≡ noted value c (amount_uses controlled (index_list (take i xs))) → x ≡ Set n (Some lag) → t ≡ noted value s (uses as_number lag.1 controlled (tree_of lag.2.value)) → t ≡ noted value c (amount_uses controlled (index_list (take (i + 1) xs)))
    amounts-lagged n lag e shape step =
        gathered-noted value (amount_uses controlled) amounts-gathered xs i x c s t l is e (uses as_number lag.1 controlled (tree_of lag.2.value)) (ap (λ y. amount_uses controlled (index_tree y no_index)) shape ∙ ap (amount_uses controlled) (index_tree-lagged n lag no_index) ∙ append-nil (uses as_number lag.1 controlled (tree_of lag.2.value))) step

    -- a set without a lag
    pub amounts-alone : (n : ℕ) (lag : Option (LagOp × Place × Box (Expr F) Global)) → s ≡ noted value c (amount_uses controlled (index_list (take i xs))) → x ≡ Set n lag → lag ≡ None → t ≡ s → t ≡ noted value c (amount_uses controlled (index_list (take (i + 1) xs)))
    amounts-alone n lag e shape none step =
        gathered-silent value (amount_uses controlled) amounts-gathered xs i x c s t l is e (ap (λ y. amount_uses controlled (index_tree y no_index)) (shape ∙ ap (λ lag. Set n lag) none) ∙ ap (amount_uses controlled) (index_tree-alone n no_index)) step

    -- a label
    pub amounts-label : (n : ℕ) → s ≡ noted value c (amount_uses controlled (index_list (take i xs))) → x ≡ Label n → t ≡ s → t ≡ noted value c (amount_uses controlled (index_list (take (i + 1) xs)))
    amounts-label n e shape step =
        gathered-silent value (amount_uses controlled) amounts-gathered xs i x c s t l is e (ap (λ y. amount_uses controlled (index_tree {F = F} y no_index)) shape ∙ ap (amount_uses controlled) (index_tree-Label n no_index)) step

    -- a set with a lag on the left
    pub shifts-lagged : (n : ℕ) (lag : LagOp × Place × Box (Expr F) Global) → s ≡ noted value c (shift_uses controlled (index_list (take i xs))) → x ≡ Set n (Some lag) → t ≡ noted value s ((lag.1, shifting (tree_of lag.2.value)) ∷ uses as_number lag.1 controlled (tree_of lag.2.value)) → t ≡ noted value c (shift_uses controlled (index_list (take (i + 1) xs)))
    shifts-lagged n lag e shape step =
        gathered-noted value (shift_uses controlled) shifts-gathered xs i x c s t l is e ((lag.1, shifting (tree_of lag.2.value)) ∷ uses as_number lag.1 controlled (tree_of lag.2.value)) (ap (λ y. shift_uses controlled (index_tree y no_index)) shape ∙ ap (shift_uses controlled) (index_tree-lagged n lag no_index) ∙ ap (λ (more : Uses F). (lag.1, shifting (tree_of lag.2.value)) ∷ more) (append-nil (uses as_number lag.1 controlled (tree_of lag.2.value)))) step

    -- a set without a lag on the left
    pub shifts-alone : (n : ℕ) (lag : Option (LagOp × Place × Box (Expr F) Global)) → s ≡ noted value c (shift_uses controlled (index_list (take i xs))) → x ≡ Set n lag → lag ≡ None → t ≡ s → t ≡ noted value c (shift_uses controlled (index_list (take (i + 1) xs)))
    shifts-alone n lag e shape none step =
        gathered-silent value (shift_uses controlled) shifts-gathered xs i x c s t l is e (ap (λ y. shift_uses controlled (index_tree y no_index)) (shape ∙ ap (λ lag. Set n lag) none) ∙ ap (shift_uses controlled) (index_tree-alone n no_index)) step

    -- a label on the left
    pub shifts-label : (n : ℕ) → s ≡ noted value c (shift_uses controlled (index_list (take i xs))) → x ≡ Label n → t ≡ s → t ≡ noted value c (shift_uses controlled (index_list (take (i + 1) xs)))
    shifts-label n e shape step =
        gathered-silent value (shift_uses controlled) shifts-gathered xs i x c s t l is e (ap (λ y. shift_uses controlled (index_tree {F = F} y no_index)) shape ∙ ap (shift_uses controlled) (index_tree-Label n no_index)) step
