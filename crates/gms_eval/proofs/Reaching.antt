-- The labels of a reference that are known outside, the sets that its tuples do not determine, and
-- how many elements a traversal by it visits.
use mathlib.Core.Bool.{and-false, and-true}
use Rattle.std.proofs.Common.{◌≡◌, ◌⊎◌, inl, inr, ℕ, zero, suc, ◌+◌, ◌-◌, ◌*◌, ◌<◌, ◌≤◌, Bool, true, false, ◌&&◌, ◌||◌, nat_le, ◌==◌, List, [], ◌∷◌, ◌++◌, map, take, drop, get_or, length, Option, Some, None, is_none, Box, if◌then◌else◌, refl, sym, ap, ◌∙◌, append-nil, append_assoc, mul-zero, zero-mul, mul-one, suc-mul, leb-true, arith}
use Rattle.std.specs.declared.alloc.Global.{Global}
use Rattle.std.proofs.lemmas.List.{at_drop_more, at_drop_all, take_more}
use Rattle.std.proofs.lemmas.List.Sums.{length-filter}
use Rattle.gms_labels.specs.declared.place.Place.{Place}
use Rattle.gms_ast.specs.declared.expression.LagOp.{LagOp}
use Rattle.gms_ast.specs.declared.expression.Expr.{Expr}
use Rattle.gms_ast.specs.declared.expression.Expr.TheOpen.{Index-F}
use Rattle.gms_ast.specs.declared.expression.Expr.TheFolds.{fold-roll-Index, fold_out-Index}
use Rattle.gms_ast.specs.declared.expression.Index.{Index, Label, Set}
use Rattle.gms_ast.specs.declared.expression.Index.TheVariants.{rolls-Label, rolls-Set}
use Rattle.gms_ast.specs.Trees as tree
use Rattle.gms_ast.specs.TreeView.{tree_step, index_step, control_step, tree_of, index_tree}
use Rattle.gms_tuple.specs.Products.{tuple_product}
use Rattle.gms_tuple.specs.TupleOrder.{begins_with}
use Rattle.gms_tuple.specs.TupleSet.{those_with, count_with}
use Rattle.gms_store.specs.State.{State, given_of}
use Rattle.gms_eval.specs.Bindings.{Pairs, label_of}
use Rattle.gms_eval.specs.Domain.{most_elements, elements, labels_of}
use Rattle.gms_eval.specs.InnerLeading.{indices_tree}
use Rattle.gms_eval.specs.Leaders.{before_others, without_lags, number_of_indices, leading_labels, is_plain_index, is_told, free_after, reach}
use Rattle.gms_eval.proofs.Sizes.{size_from, length-size_of, elements-few}

pub mul-le : (n a b : ℕ) → a ≤ b → n * a ≤ n * b
mul-le zero a b le = omega (arith, zero-mul a, zero-mul b)
mul-le (suc n) a b le = omega (arith, suc-mul n a, suc-mul n b, mul-le n a b le, le)

module _ {F : Type 0} where
  tree-Label : (n : ℕ) (rest : tree.Indices F) → index_tree (Label n) rest ≡ tree.label n rest
  tree-Label n rest =
      ap (λ i. index_tree {F = F} i rest) (sym (rolls-Label n)) ∙ ap (λ (f : tree.Indices F → tree.Indices F). f rest) (fold-roll-Index F (tree.Tree F) (tree.Indices F → tree.Indices F) (tree.Control F) tree_step index_step control_step (Index-F.Label n))

  tree-Set : (name : ℕ) (rest : tree.Indices F) → index_tree (Set name None) rest ≡ tree.set name rest
  tree-Set name rest =
      ap (λ i. index_tree {F = F} i rest) (sym (rolls-Set name None)) ∙ ap (λ (f : tree.Indices F → tree.Indices F). f rest) (fold-roll-Index F (tree.Tree F) (tree.Indices F → tree.Indices F) (tree.Control F) tree_step index_step control_step (Index-F.Set name None))

  tree-lagged : (name : ℕ) (lag : LagOp × Place × Box (Expr F) Global) (rest : tree.Indices F) → index_tree (Set name (Some lag)) rest ≡ tree.lagged name lag.0 lag.1 (tree_of lag.2.value) rest
  tree-lagged name lag rest =
      ap (λ i. index_tree {F = F} i rest) (sym (rolls-Set name (Some lag))) ∙ ap (λ (f : tree.Indices F → tree.Indices F). f rest) (fold-roll-Index F (tree.Tree F) (tree.Indices F → tree.Indices F) (tree.Control F) tree_step index_step control_step (Index-F.Set name (Some lag)))

  step-count : (index : Index-F F (tree.Tree F) (tree.Indices F → tree.Indices F) (tree.Control F)) (rest : tree.Indices F) → number_of_indices (index_step index rest) ≡ suc (number_of_indices rest)
  step-count (Index-F.Label n) rest = refl
  step-count (Index-F.Set name None) rest = refl
  step-count (Index-F.Set name (Some lag)) rest = refl

  count-index : (index : Index F) (rest : tree.Indices F) → number_of_indices (index_tree index rest) ≡ suc (number_of_indices rest)
  count-index index rest =
      rw (fold_out-Index F (tree.Tree F) (tree.Indices F → tree.Indices F) (tree.Control F) tree_step index_step control_step index) (step-count _ rest)

  -- a tree has as many indices as the reference
  pub count-indices : (indices : List (Index F)) → number_of_indices (indices_tree indices) ≡ length indices
  count-indices [] = refl
  count-indices (index ∷ indices) = count-index index (indices_tree indices) ∙ ap suc (count-indices indices)

  -- ---- labels known outside

  module _ (b : Pairs) (index : Index F) where
    pub beginning-Label : (n : ℕ) → index ≡ Label n → (rest : tree.Indices F) → leading_labels b (index_tree index rest) ≡ before_others (Some n) (leading_labels b rest)
    beginning-Label n is rest = ap (λ i. leading_labels b (index_tree i rest)) is ∙ ap (leading_labels b) (tree-Label n rest)

    pub beginning-Set : (name : ℕ) (label : Option ℕ) (lag : Option (LagOp × Place × Box (Expr F) Global)) → label ≡ label_of b name → index ≡ Set name lag → lag ≡ None → (rest : tree.Indices F) → leading_labels b (index_tree index rest) ≡ before_others label (leading_labels b rest)
    beginning-Set name label lag known is none rest =
        ap (λ i. leading_labels b (index_tree i rest)) (is ∙ ap (Set name) none)
        ∙ ap (leading_labels b) (tree-Set name rest)
        ∙ ap (λ o. before_others o (leading_labels b rest)) (sym known)

    pub beginning-lagged : (name : ℕ) (lag : Option (LagOp × Place × Box (Expr F) Global)) (some : LagOp × Place × Box (Expr F) Global) → index ≡ Set name lag → lag ≡ Some some → (rest : tree.Indices F) → leading_labels b (index_tree index rest) ≡ []
    beginning-lagged name lag some is there rest =
        ap (λ i. leading_labels b (index_tree i rest)) (is ∙ ap (Set name) there) ∙ ap (leading_labels b) (tree-lagged name some rest)

  module _ (b : Pairs) (indices : List (Index F)) (i : ℕ) where
    -- the prefix of the remaining indices
    abbrev pub prefix_from : List ℕ
    prefix_from = leading_labels b (indices_tree (drop i indices))

    beginning-at : (index : Index F) (label : Option ℕ) → i < length indices → index ≡ get_or indices i index → ((rest : tree.Indices F) → leading_labels b (index_tree index rest) ≡ before_others label (leading_labels b rest)) → leading_labels b (indices_tree (drop i indices)) ≡ before_others label (leading_labels b (indices_tree (drop (i + 1) indices)))
    beginning-at index label l at beginning =
        at_drop_more (λ those. leading_labels b (indices_tree those)) indices i index l
        ∙ ap (λ x. leading_labels b (index_tree x (indices_tree (drop (i + 1) indices)))) (sym at)
        ∙ beginning (indices_tree (drop (i + 1) indices))

    -- one label more
    pub beginning-more : (index : Index F) (label : ℕ) (prefix prefix' whole : List ℕ) → prefix' ≡ prefix ++ label ∷ [] → i < length indices → index ≡ get_or indices i index → ((rest : tree.Indices F) → leading_labels b (index_tree index rest) ≡ before_others (Some label) (leading_labels b rest)) → prefix ++ leading_labels b (indices_tree (drop i indices)) ≡ whole → prefix' ++ leading_labels b (indices_tree (drop (i + 1) indices)) ≡ whole
    beginning-more index label prefix prefix' whole is l at beginning known =
        ap (λ p. p ++ leading_labels b (indices_tree (drop (i + 1) indices))) is
        ∙ append_assoc prefix (label ∷ []) (leading_labels b (indices_tree (drop (i + 1) indices)))
        ∙ ap (λ t. prefix ++ t) (sym (beginning-at index (Some label) l at beginning))
        ∙ known

    -- no label more
    pub beginning-stop : (index : Index F) (prefix whole : List ℕ) → i < length indices → index ≡ get_or indices i index → ((rest : tree.Indices F) → leading_labels b (index_tree index rest) ≡ before_others None (leading_labels b rest)) → prefix ++ leading_labels b (indices_tree (drop i indices)) ≡ whole → prefix ≡ whole
    beginning-stop index prefix whole l at beginning known =
        sym (append-nil prefix) ∙ ap (λ t. prefix ++ t) (sym (beginning-at index None l at beginning)) ∙ known

    pub beginning-end : (prefix whole : List ℕ) → length indices ≤ i → prefix ++ leading_labels b (indices_tree (drop i indices)) ≡ whole → prefix ≡ whole
    beginning-end prefix whole all known =
        sym (append-nil prefix) ∙ ap (λ t. prefix ++ t) (sym (at_drop_all (λ those. leading_labels b (indices_tree those)) indices i all)) ∙ known

  -- ---- sets among indices

  module _ (set : ℕ) (index : Index F) where
    pub index-Label : (n : ℕ) → index ≡ Label n → (rest : tree.Indices F) → is_plain_index set (index_tree index rest) ≡ (false || is_plain_index set rest)
    index-Label n is rest = ap (λ i. is_plain_index set (index_tree i rest)) is ∙ ap (is_plain_index set) (tree-Label n rest)

    index-by : (name : ℕ) (lag : Option (LagOp × Place × Box (Expr F) Global)) → index ≡ Set name lag → (rest : tree.Indices F) → is_plain_index set (index_tree index rest) ≡ ((name == set && is_none lag) || is_plain_index set rest)
    index-by name None is rest =
        ap (λ i. is_plain_index set (index_tree i rest)) is
        ∙ ap (is_plain_index set) (tree-Set name rest)
        ∙ ap (λ t. t || is_plain_index set rest) (sym (and-true (name == set)))
    index-by name (Some lag) is rest =
        ap (λ i. is_plain_index set (index_tree i rest)) is
        ∙ ap (is_plain_index set) (tree-lagged name lag rest)
        ∙ ap (λ t. t || is_plain_index set rest) (sym (and-false (name == set)))

    pub index-Set : (name : ℕ) (lag : Option (LagOp × Place × Box (Expr F) Global)) (result : Bool) → index ≡ Set name lag → result ≡ (name == set && is_none lag) → (rest : tree.Indices F) → is_plain_index set (index_tree index rest) ≡ (result || is_plain_index set rest)
    index-Set name lag result is so rest = index-by name lag is rest ∙ ap (λ t. t || is_plain_index set rest) (sym so)

  module _ (set : ℕ) (indices : List (Index F)) (i : ℕ) where
    index-at : (index : Index F) (here : Bool) → i < length indices → index ≡ get_or indices i index → ((rest : tree.Indices F) → is_plain_index set (index_tree index rest) ≡ (here || is_plain_index set rest)) → is_plain_index set (indices_tree (drop i indices)) ≡ (here || is_plain_index set (indices_tree (drop (i + 1) indices)))
    index-at index here l at told =
        at_drop_more (λ those. is_plain_index set (indices_tree those)) indices i index l
        ∙ ap (λ x. is_plain_index set (index_tree x (indices_tree (drop (i + 1) indices)))) (sym at)
        ∙ told (indices_tree (drop (i + 1) indices))

    -- it is no index here
    pub index-more : (index : Index F) (here whole : Bool) → here ≡ false → i < length indices → index ≡ get_or indices i index → ((rest : tree.Indices F) → is_plain_index set (index_tree index rest) ≡ (here || is_plain_index set rest)) → is_plain_index set (indices_tree (drop i indices)) ≡ whole → is_plain_index set (indices_tree (drop (i + 1) indices)) ≡ whole
    index-more index here whole off l at told known =
        ap (λ t. t || is_plain_index set (indices_tree (drop (i + 1) indices))) (sym off) ∙ sym (index-at index here l at told) ∙ known

    -- it is one here
    pub index-here : (index : Index F) (here whole : Bool) → here ≡ true → i < length indices → index ≡ get_or indices i index → ((rest : tree.Indices F) → is_plain_index set (index_tree index rest) ≡ (here || is_plain_index set rest)) → is_plain_index set (indices_tree (drop i indices)) ≡ whole → true ≡ whole
    index-here index here whole on l at told known =
        ap (λ t. t || is_plain_index set (indices_tree (drop (i + 1) indices))) (sym on) ∙ sym (index-at index here l at told) ∙ known

    pub index-none : (whole : Bool) → length indices ≤ i → is_plain_index set (indices_tree (drop i indices)) ≡ whole → false ≡ whole
    index-none whole all known = sym (at_drop_all (λ those. is_plain_index set (indices_tree those)) indices i all) ∙ known

  -- ---- lags

  module _ (index : Index F) where
    pub lags-Label : (n : ℕ) → index ≡ Label n → (rest : tree.Indices F) → without_lags (index_tree index rest) ≡ (true && without_lags rest)
    lags-Label n is rest = ap (λ i. without_lags (index_tree i rest)) is ∙ ap without_lags (tree-Label n rest)

    lags-by : (name : ℕ) (lag : Option (LagOp × Place × Box (Expr F) Global)) → index ≡ Set name lag → (rest : tree.Indices F) → without_lags (index_tree index rest) ≡ (is_none lag && without_lags rest)
    lags-by name None is rest = ap (λ i. without_lags (index_tree i rest)) is ∙ ap without_lags (tree-Set name rest)
    lags-by name (Some lag) is rest =
        ap (λ i. without_lags (index_tree i rest)) is ∙ ap without_lags (tree-lagged name lag rest)

    pub lags-Set : (name : ℕ) (lag : Option (LagOp × Place × Box (Expr F) Global)) (result : Bool) → index ≡ Set name lag → result ≡ is_none lag → (rest : tree.Indices F) → without_lags (index_tree index rest) ≡ (result && without_lags rest)
    lags-Set name lag result is so rest = lags-by name lag is rest ∙ ap (λ t. t && without_lags rest) (sym so)

  module _ (indices : List (Index F)) (i : ℕ) where
    lags-at : (index : Index F) (here : Bool) → i < length indices → index ≡ get_or indices i index → ((rest : tree.Indices F) → without_lags (index_tree index rest) ≡ (here && without_lags rest)) → without_lags (indices_tree (drop i indices)) ≡ (here && without_lags (indices_tree (drop (i + 1) indices)))
    lags-at index here l at told =
        at_drop_more (λ those. without_lags (indices_tree those)) indices i index l
        ∙ ap (λ x. without_lags (index_tree x (indices_tree (drop (i + 1) indices)))) (sym at)
        ∙ told (indices_tree (drop (i + 1) indices))

    pub lags-more : (index : Index F) (here whole : Bool) → here ≡ true → i < length indices → index ≡ get_or indices i index → ((rest : tree.Indices F) → without_lags (index_tree index rest) ≡ (here && without_lags rest)) → without_lags (indices_tree (drop i indices)) ≡ whole → without_lags (indices_tree (drop (i + 1) indices)) ≡ whole
    lags-more index here whole on l at told known =
        ap (λ t. t && without_lags (indices_tree (drop (i + 1) indices))) (sym on) ∙ sym (lags-at index here l at told) ∙ known

    pub lags-here : (index : Index F) (here whole : Bool) → here ≡ false → i < length indices → index ≡ get_or indices i index → ((rest : tree.Indices F) → without_lags (index_tree index rest) ≡ (here && without_lags rest)) → without_lags (indices_tree (drop i indices)) ≡ whole → false ≡ whole
    lags-here index here whole off l at told known =
        ap (λ t. t && without_lags (indices_tree (drop (i + 1) indices))) (sym off) ∙ sym (lags-at index here l at told) ∙ known

    pub lags-none : (whole : Bool) → length indices ≤ i → without_lags (indices_tree (drop i indices)) ≡ whole → true ≡ whole
    lags-none whole all known = sym (at_drop_all (λ those. without_lags (indices_tree those)) indices i all) ∙ known

-- ---- free sets

module _ {F : Type 0} (b : Pairs) (indices : tree.Indices F) where
  module _ (sets : List ℕ) (i : ℕ) where
    free-at : i < length sets → free_after b indices (take i sets) (drop i sets) ≡ (if is_told b indices (take i sets) (get_or sets i 0) then free_after b indices (take (i + 1) sets) (drop (i + 1) sets) else get_or sets i 0 ∷ free_after b indices (take (i + 1) sets) (drop (i + 1) sets))
    free-at l =
        at_drop_more (free_after b indices (take i sets)) sets i 0 l
        ∙ ap (λ t. if is_told b indices (take i sets) (get_or sets i 0) then free_after b indices t (drop (i + 1) sets) else get_or sets i 0 ∷ free_after b indices t (drop (i + 1) sets)) (sym (take_more sets i 0 l))

    -- the tuple says what the next set stands for
    pub free-told : (free whole : List ℕ) (told : Bool) → told ≡ true → told ≡ is_told b indices (take i sets) (get_or sets i 0) → i < length sets → free ++ free_after b indices (take i sets) (drop i sets) ≡ whole → free ++ free_after b indices (take (i + 1) sets) (drop (i + 1) sets) ≡ whole
    free-told free whole told on is l known =
        ap (λ t. free ++ (if t then free_after b indices (take (i + 1) sets) (drop (i + 1) sets) else get_or sets i 0 ∷ free_after b indices (take (i + 1) sets) (drop (i + 1) sets))) (sym on ∙ is)
        ∙ ap (λ t. free ++ t) (sym (free-at l))
        ∙ known

    -- or nothing of it
    pub free-more : (free free' whole : List ℕ) (told : Bool) → free' ≡ free ++ get_or sets i 0 ∷ [] → told ≡ false → told ≡ is_told b indices (take i sets) (get_or sets i 0) → i < length sets → free ++ free_after b indices (take i sets) (drop i sets) ≡ whole → free' ++ free_after b indices (take (i + 1) sets) (drop (i + 1) sets) ≡ whole
    free-more free free' whole told more off is l known =
        ap (λ p. p ++ free_after b indices (take (i + 1) sets) (drop (i + 1) sets)) more
        ∙ append_assoc free (get_or sets i 0 ∷ []) (free_after b indices (take (i + 1) sets) (drop (i + 1) sets))
        ∙ ap (λ t. free ++ (if t then free_after b indices (take (i + 1) sets) (drop (i + 1) sets) else get_or sets i 0 ∷ free_after b indices (take (i + 1) sets) (drop (i + 1) sets))) (sym off ∙ is)
        ∙ ap (λ t. free ++ t) (sym (free-at l))
        ∙ known

    pub free-end : (free whole : List ℕ) → length sets ≤ i → free ++ free_after b indices (take i sets) (drop i sets) ≡ whole → free ≡ whole
    free-end free whole all known =
        sym (append-nil free) ∙ ap (λ t. free ++ t) (sym (at_drop_all (free_after b indices (take i sets)) sets i all)) ∙ known

  -- there are no more free sets than sets
  free-few : (before sets : List ℕ) → length (free_after b indices before sets) ≤ length sets
  free-few before [] = omega arith
  free-few before (name ∷ rest) = by (is_told b indices before name) (free-few (before ++ name ∷ []) rest)
    where
      by : (told : Bool) → length (free_after b indices (before ++ name ∷ []) rest) ≤ length rest → length (if told then free_after b indices (before ++ name ∷ []) rest else name ∷ free_after b indices (before ++ name ∷ []) rest) ≤ suc (length rest)
      by true le = omega (arith, le)
      by false le = omega (arith, le)

  module _ (list : ℕ → List ℕ) where
    -- a size is 0, or a positive number of free ones is at most it
    abbrev NoMore : ℕ → ℕ → Type 0
    NoMore size free = (size ≡ 0) ⊎ ((0 < free) × (free ≤ size))

    nothing-times : (n size : ℕ) → size ≡ 0 → n * size ≡ 0
    nothing-times n size none = ap (λ k. n * k) none ∙ mul-zero n

    told-more : (n size free : ℕ) → NoMore size free → NoMore (n * size) free
    told-more n size free (inl none) = inl (nothing-times n size none)
    told-more zero size free (inr some) = inl (zero-mul size)
    told-more (suc n) size free (inr some) = inr (some.0, omega (arith, suc-mul n size, some.1))

    free-both : (n size free : ℕ) → NoMore size free → NoMore (n * size) (n * free)
    free-both n size free (inl none) = inl (nothing-times n size none)
    free-both zero size free (inr some) = inl (zero-mul size)
    free-both (suc n) size free (inr some) =
        let below : n * free ≤ n * size = mul-le n free size some.1 in
        inr (omega (arith, suc-mul n free, some.0), omega (arith, suc-mul n free, suc-mul n size, some.1, below))

    pub free-size : (before sets : List ℕ) → NoMore (size_from list sets) (size_from list (free_after b indices before sets))
    free-size before [] = inr (omega arith, omega arith)
    free-size before (name ∷ rest) = by (is_told b indices before name) (free-size (before ++ name ∷ []) rest)
      where
        by : (told : Bool) → NoMore (size_from list rest) (size_from list (free_after b indices (before ++ name ∷ []) rest)) → NoMore (length (list name) * size_from list rest) (size_from list (if told then free_after b indices (before ++ name ∷ []) rest else name ∷ free_after b indices (before ++ name ∷ []) rest))
        by true h = told-more (length (list name)) (size_from list rest) (size_from list (free_after b indices (before ++ name ∷ []) rest)) h
        by false h = free-both (length (list name)) (size_from list rest) (size_from list (free_after b indices (before ++ name ∷ []) rest)) h

-- ---- how many elements a traversal visits

size-elements : (state : State) (sets : List ℕ) → length sets ≤ 10 → length (elements state sets) ≡ size_from (labels_of state) sets
size-elements state sets few = ap length (elements-few state sets few) ∙ length-size_of (map (labels_of state) sets)

-- of more than 10 sets there is no element
pub no-elements : (state : State) (sets : List ℕ) → 10 < length sets → length (elements state sets) ≡ 0
no-elements state sets many = by (nat_le (length sets) 10) refl
  where
    by : (b : Bool) → nat_le (length sets) 10 ≡ b → length (if b then tuple_product (map (labels_of state) sets) else []) ≡ 0
    by true e = absurd (let le : length sets ≤ 10 = leb-true (length sets) 10 e in omega (arith, le, many))
    by false e = refl

module _ {F : Type 0} (state : State) (b : Pairs) (sets : List ℕ) (name : ℕ) (indices : tree.Indices F) where
  -- the sets have no element, or the free ones have at least one and no more than they
  free-elements : length sets ≤ 10 → (length (elements state sets) ≡ 0) ⊎ ((0 < length (elements state (free_after b indices [] sets))) × (length (elements state (free_after b indices [] sets)) ≤ length (elements state sets)))
  free-elements few =
      let whole = size-elements state sets few in
      let few_free : length (free_after b indices [] sets) ≤ 10 = omega (arith, few, free-few b indices [] sets) in
      let free = size-elements state (free_after b indices [] sets) few_free in
      elim (free-size b indices (labels_of state) [] sets) [
        | inl none ↦ inl (whole ∙ none)
        | inr some ↦ inr (omega (arith, free, some.0), omega (arith, free, whole, some.1))
      ]

  -- at least `bound` stored tuples lead to at least `bound` elements
  pub reach-many : (bound count : ℕ) → length sets ≤ 10 → bound ≤ length (elements state sets) → bound ≤ count → count ≡ length (those_with (given_of state name) (leading_labels b indices)) → bound ≤ reach state b sets name indices
  reach-many bound count few below many is =
      elim (free-elements few) [
        | inl none ↦ omega (arith, below, none)
        | inr some ↦ let more : count * 1 ≤ count * length (elements state (free_after b indices [] sets)) = mul-le count 1 (length (elements state (free_after b indices [] sets))) some.0 in let same : reach state b sets name indices ≡ count * length (elements state (free_after b indices [] sets)) = ap (λ k. k * length (elements state (free_after b indices [] sets))) (sym is) in omega (arith, many, more, same, mul-one count)
      ]

  -- and so do free sets that have too many elements
  pub reach-wide : (bound free : ℕ) → length sets ≤ 10 → bound ≤ length (elements state sets) → length (elements state sets) ≤ most_elements → most_elements < free → free ≤ length (elements state (free_after b indices [] sets)) → bound ≤ reach state b sets name indices
  reach-wide bound free few below small wide is =
      elim (free-elements few) [
        | inl none ↦ omega (arith, below, none)
        | inr some ↦ absurd (omega (arith, small, wide, is, some.1))
      ]

  pub reach-none : (bound : ℕ) → 10 < length sets → bound ≤ length (elements state sets) → bound ≤ reach state b sets name indices
  reach-none bound many below = omega (arith, no-elements state sets many, below)

  -- how many elements the traversal visits
  pub reach-is : (count spread : ℕ) → count ≡ length (those_with (given_of state name) (leading_labels b indices)) → spread ≡ length (elements state (free_after b indices [] sets)) → count * spread ≡ reach state b sets name indices
  reach-is count spread is wide =
      ap (λ k. k * spread) is ∙ ap (λ k. length (those_with (given_of state name) (leading_labels b indices)) * k) wide

-- the stored tuples with a prefix are those of the span
pub span-count : (given : List (List ℕ)) (beginning : List ℕ) (from upto : ℕ) → upto ≡ from + count_with given beginning → upto - from ≡ length (those_with given beginning)
span-count given beginning from upto is = omega (arith, is, length-filter (λ member. begins_with member beginning) given)
