-- Indices of the program in sequence: what is gathered from each, and how they fit the positions of
-- a name.
use Rattle.std.proofs.Common.{◌≡◌, ◌<◌, ◌≤◌, ◌+◌, ℕ, Bool, true, false, not, ◌||◌, ◌==◌, List, [], ◌∷◌, ◌++◌, length, get_or, take, drop, Option, Some, None, Box, inl, inr, refl, sym, ap, ◌∙◌, append_assoc, arith}
use Rattle.std.specs.Prelude.{is_some}
use Rattle.std.specs.List.{slice_get}
use Rattle.std.specs.declared.alloc.Global.{Global}
use Rattle.std.proofs.lemmas.List.{append-nil, take_more, at_drop_more, drop_all}
use Rattle.std.proofs.lemmas.Bool.Decides.{nat_tests}
use Rattle.std.proofs.lemmas.Option.{get_or_from_slice_get, slice_get_within, slice_get_cases}
use Rattle.gms_labels.specs.declared.place.Place.{Place}
use Rattle.gms_ast.specs.declared.expression.Expr.{Expr}
use Rattle.gms_ast.specs.declared.expression.Expr.TheOpen.{Index-F}
use Rattle.gms_ast.specs.declared.expression.Expr.TheFolds.{fold-roll-Index, fold_out-Index}
use Rattle.gms_ast.specs.declared.expression.Index.{Index, Label, Set}
use Rattle.gms_ast.specs.declared.expression.Index.TheVariants.{rolls-Label, rolls-Set}
use Rattle.gms_ast.specs.declared.expression.LagOp.{LagOp}
use Rattle.gms_ast.specs.Trees.{Tree, Control, Indices, no_index, label, set, lagged}
use Rattle.gms_ast.specs.TreeView.{tree_step, index_step, control_step, tree_of, index_tree}
use Rattle.gms_store.specs.State.{State}
use Rattle.gms_scope.specs.Below.{set_fits_position, label_fits_position}
use Rattle.gms_check.specs.Controls.{lagged_sets}
use Rattle.gms_check.specs.Domains.{index_count}
use Rattle.gms_check.specs.Kinds.{has_no_indices}
use Rattle.gms_check.specs.IndexList.{have_unfit_label, have_unfit_set}
use Rattle.gms_check.specs.StatementUses.{index_list}
use Rattle.gms_check.specs.Uses.{index_sets}

-- ---- the kinds of index

module _ {F : Type 0} where
  pub index_tree-Label : (n : ℕ) (rest : Indices F) → index_tree {F = F} (Label n) rest ≡ label n rest
  index_tree-Label n rest = ap (λ i. index_tree {F = F} i rest) (sym (rolls-Label n)) ∙ ap (λ f. f rest) (fold-roll-Index F (Tree F) (Indices F → Indices F) (Control F) tree_step index_step control_step (Index-F.Label n))

  pub index_tree-alone : (n : ℕ) (rest : Indices F) → index_tree {F = F} (Set n None) rest ≡ set n rest
  index_tree-alone n rest = ap (λ i. index_tree {F = F} i rest) (sym (rolls-Set n None)) ∙ ap (λ f. f rest) (fold-roll-Index F (Tree F) (Indices F → Indices F) (Control F) tree_step index_step control_step (Index-F.Set n None))

  pub index_tree-lagged : (n : ℕ) (lag : LagOp × Place × Box (Expr F) Global) (rest : Indices F) → index_tree (Set n (Some lag)) rest ≡ lagged n lag.0 lag.1 (tree_of lag.2.value) rest
  index_tree-lagged n lag rest = ap (λ i. index_tree i rest) (sym (rolls-Set n (Some lag))) ∙ ap (λ f. f rest) (fold-roll-Index F (Tree F) (Indices F → Indices F) (Control F) tree_step index_step control_step (Index-F.Set n (Some lag)))

-- ---- what is gathered from each index

-- what is gathered is that of each index, in sequence
abbrev pub IsGathered : {F X : Type 0} → (Indices F → List X) → Type 0
IsGathered {F = F} f =
    (f no_index ≡ []) × ((index : Index F) (rest : Indices F) → f (index_tree index rest) ≡ f (index_tree index no_index) ++ f rest)

module _ {F X : Type 0} (f : Indices F → List X) (gathered : IsGathered f) where
  gathered-append : (xs : List (Index F)) (x : Index F) → f (index_list (xs ++ x ∷ [])) ≡ f (index_list xs) ++ f (index_tree x no_index)
  gathered-append [] x = ap (λ none. none ++ f (index_tree x no_index)) (sym gathered.0)
  gathered-append (y ∷ xs) x =
      gathered.1 y (index_list (xs ++ x ∷ [])) ∙ ap (λ rest. f (index_tree y no_index) ++ rest) (gathered-append xs x) ∙ sym (append_assoc (f (index_tree y no_index)) (f (index_list xs)) (f (index_tree x no_index))) ∙ ap (λ all. all ++ f (index_tree x no_index)) (sym (gathered.1 y (index_list xs)))

  -- one index more
  pub gathered-more : (xs : List (Index F)) (i : ℕ) (x : Index F) → i < length xs → x ≡ get_or xs i x → f (index_list (take (i + 1) xs)) ≡ f (index_list (take i xs)) ++ f (index_tree x no_index)
  gathered-more xs i x l is =
      ap (λ ys. f (index_list ys)) (take_more xs i x l ∙ ap (λ y. take i xs ++ y ∷ []) (sym is)) ∙ gathered-append (take i xs) x

  -- an index that gives something
  pub gathered-given : (xs : List (Index F)) (i : ℕ) (x : Index F) (old new given : List X) → i < length xs → x ≡ get_or xs i x → old ≡ f (index_list (take i xs)) → f (index_tree x no_index) ≡ given → new ≡ old ++ given → new ≡ f (index_list (take (i + 1) xs))
  gathered-given xs i x old new given l is e part step =
      step ∙ ap (λ ys. ys ++ given) e ∙ ap (λ ys. f (index_list (take i xs)) ++ ys) (sym part) ∙ sym (gathered-more xs i x l is)

  -- an index that gives nothing
  pub gathered-nothing : (xs : List (Index F)) (i : ℕ) (x : Index F) (old new : List X) → i < length xs → x ≡ get_or xs i x → old ≡ f (index_list (take i xs)) → f (index_tree x no_index) ≡ [] → new ≡ old → new ≡ f (index_list (take (i + 1) xs))
  gathered-nothing xs i x old new l is e part step =
      gathered-given xs i x old new [] l is e part (step ∙ sym (append-nil old))

module _ {F : Type 0} where
  step-sets : (index : Index-F F (Tree F) (Indices F → Indices F) (Control F)) (rest : Indices F) → index_sets (index_step index rest) ≡ index_sets (index_step index no_index) ++ index_sets rest
  step-sets (Index-F.Label n) rest = refl
  step-sets (Index-F.Set name None) rest = refl
  step-sets (Index-F.Set name (Some lag)) rest = refl

  -- the sets among indices
  pub sets-gathered : IsGathered {F = F} index_sets
  sets-gathered =
      (refl, λ index rest. rw (fold_out-Index F (Tree F) (Indices F → Indices F) (Control F) tree_step index_step control_step index) (step-sets _ rest))

  step-lagged : (index : Index-F F (Tree F) (Indices F → Indices F) (Control F)) (rest : Indices F) → lagged_sets (index_step index rest) ≡ lagged_sets (index_step index no_index) ++ lagged_sets rest
  step-lagged (Index-F.Label n) rest = refl
  step-lagged (Index-F.Set name None) rest = refl
  step-lagged (Index-F.Set name (Some lag)) rest = refl

  -- the sets among indices that have a lag
  pub lagged-gathered : IsGathered {F = F} lagged_sets
  lagged-gathered =
      (refl, λ index rest. rw (fold_out-Index F (Tree F) (Indices F → Indices F) (Control F) tree_step index_step control_step index) (step-lagged _ rest))

  pub sets-Label : (x : Index F) (n : ℕ) → x ≡ Label n → index_sets (index_tree x no_index) ≡ []
  sets-Label x n e = ap (λ i. index_sets (index_tree {F = F} i no_index)) e ∙ ap index_sets (index_tree-Label n no_index)

  pub sets-Set : (x : Index F) (n : ℕ) (lag : Option (LagOp × Place × Box (Expr F) Global)) → x ≡ Set n lag → index_sets (index_tree x no_index) ≡ n ∷ []
  sets-Set x n None e = ap (λ i. index_sets (index_tree {F = F} i no_index)) e ∙ ap index_sets (index_tree-alone n no_index)
  sets-Set x n (Some lag) e = ap (λ i. index_sets (index_tree i no_index)) e ∙ ap index_sets (index_tree-lagged n lag no_index)

  pub lagged-Label : (x : Index F) (n : ℕ) → x ≡ Label n → lagged_sets (index_tree x no_index) ≡ []
  lagged-Label x n e = ap (λ i. lagged_sets (index_tree {F = F} i no_index)) e ∙ ap lagged_sets (index_tree-Label n no_index)

  -- a set with a lag, or without
  pub lagged-given : (x : Index F) (n : ℕ) (lag : Option (LagOp × Place × Box (Expr F) Global)) → x ≡ Set n lag → is_some lag ≡ true → lagged_sets (index_tree x no_index) ≡ n ∷ []
  lagged-given x n None e there = absurd cc
  lagged-given x n (Some lag) e there = ap (λ i. lagged_sets (index_tree i no_index)) e ∙ ap lagged_sets (index_tree-lagged n lag no_index)

  pub lagged-nothing : (x : Index F) (n : ℕ) (lag : Option (LagOp × Place × Box (Expr F) Global)) → x ≡ Set n lag → is_some lag ≡ false → lagged_sets (index_tree x no_index) ≡ []
  lagged-nothing x n None e there = ap (λ i. lagged_sets (index_tree {F = F} i no_index)) e ∙ ap lagged_sets (index_tree-alone n no_index)
  lagged-nothing x n (Some lag) e there = absurd cc

  step-count : (index : Index-F F (Tree F) (Indices F → Indices F) (Control F)) (rest : Indices F) → index_count (index_step index rest) ≡ index_count rest + 1
  step-count (Index-F.Label n) rest = refl
  step-count (Index-F.Set name None) rest = refl
  step-count (Index-F.Set name (Some lag)) rest = refl

  -- how many indices there are
  pub count-indices : (xs : List (Index F)) → index_count (index_list xs) ≡ length xs
  count-indices [] = refl
  count-indices (x ∷ xs) =
      let more : index_count (index_tree x (index_list xs)) ≡ index_count (index_list xs) + 1 = rw (fold_out-Index F (Tree F) (Indices F → Indices F) (Control F) tree_step index_step control_step x) (step-count _ (index_list xs)) in
      let same = count-indices xs in
      more ∙ ap (λ n. n + 1) same ∙ omega arith

  step-bare : (index : Index-F F (Tree F) (Indices F → Indices F) (Control F)) (rest : Indices F) → has_no_indices (index_step index rest) ≡ false
  step-bare (Index-F.Label n) rest = refl
  step-bare (Index-F.Set name None) rest = refl
  step-bare (Index-F.Set name (Some lag)) rest = refl

  -- whether there are no indices
  pub bare-indices : (xs : List (Index F)) → (length xs == 0) ≡ has_no_indices (index_list xs)
  bare-indices [] = refl
  bare-indices (x ∷ xs) =
      let some : (length (x ∷ xs) == 0) ≡ false = grind (arith, nat_tests) in
      let tree : has_no_indices (index_tree x (index_list xs)) ≡ false = rw (fold_out-Index F (Tree F) (Indices F → Indices F) (Control F) tree_step index_step control_step x) (step-bare _ (index_list xs)) in
      some ∙ sym tree

-- ---- indices against positions

past : {X : Type 0} (xs : List X) (i : ℕ) → slice_get xs i ≡ None → length xs ≤ i
past xs i e = elim (slice_get_cases xs i).1 [
  | inl h ↦ absurd (let g = h.2 in cc)
  | inr h ↦ h.0
]

module _ {F : Type 0} where
  -- the remaining indices, at one that exists
  here : (xs : List (Index F)) (i : ℕ) (x : Index F) → i < length xs → x ≡ get_or xs i x → index_list (drop i xs) ≡ index_tree x (index_list (drop (i + 1) xs))
  here xs i x l is = at_drop_more index_list xs i x l ∙ ap (λ y. index_tree y (index_list (drop (i + 1) xs))) (sym is)

at-position : {X : Type 0} (xs : List X) (i : ℕ) (x : X) → slice_get xs i ≡ Some x → drop i xs ≡ x ∷ drop (i + 1) xs
at-position xs i x e = at_drop_more (λ ys. ys) xs i x (slice_get_within xs i x e) ∙ ap (λ y. y ∷ drop (i + 1) xs) (get_or_from_slice_get xs i x x e)

-- where there are no more indices
pub unfit-end : (F : Type 0) (state : State) (declared : List ℕ) (above : ℕ → Option ℕ) (name : ℕ) (domain : List (Option ℕ)) → have_unfit_set {F = F} state declared above name domain no_index ≡ false
unfit-end F state declared above name [] = refl
unfit-end F state declared above name (position ∷ domain) = refl

pub outside-end : (F : Type 0) (state : State) (declared : List ℕ) (name : ℕ) (domain : List (Option ℕ)) → have_unfit_label {F = F} state declared name domain no_index ≡ false
outside-end F state declared name [] = refl
outside-end F state declared name (position ∷ domain) = refl

-- a position that is not there
no-position : {X : Type 0} (xs : List X) (i : ℕ) → slice_get xs i ≡ None → (drop i xs ≡ []) × (drop (i + 1) xs ≡ [])
no-position xs i e = let p = past xs i e in (drop_all i xs p, drop_all (i + 1) xs (omega arith))

module _ {F : Type 0} (state : State) (declared : List ℕ) (above : ℕ → Option ℕ) (name : ℕ) where
  abbrev unfit : List (Option ℕ) → Indices F → Bool
  unfit = have_unfit_set state declared above name

  unfit-Set : (position : Option ℕ) (domain : List (Option ℕ)) (n : ℕ) (lag : Option (LagOp × Place × Box (Expr F) Global)) (rest : Indices F) → have_unfit_set state declared above name (position ∷ domain) (index_tree (Set n lag) rest) ≡ (not (set_fits_position state declared above name position n) || have_unfit_set state declared above name domain rest)
  unfit-Set position domain n None rest = ap (unfit (position ∷ domain)) (index_tree-alone n rest)
  unfit-Set position domain n (Some lag) rest = ap (unfit (position ∷ domain)) (index_tree-lagged n lag rest)

  unfit-Label : (position : Option ℕ) (domain : List (Option ℕ)) (n : ℕ) (rest : Indices F) → have_unfit_set state declared above name (position ∷ domain) (index_tree (Label n) rest) ≡ have_unfit_set state declared above name domain rest
  unfit-Label position domain n rest = ap (unfit (position ∷ domain)) (index_tree-Label n rest)

  module _ (domain : List (Option ℕ)) (xs : List (Index F)) (i : ℕ) (x : Index F) (l : i < length xs) (is : x ≡ get_or xs i x) where
    -- a position that is not there
    pub unfit-past : slice_get domain i ≡ None → have_unfit_set state declared above name (drop (i + 1) domain) (index_list (drop (i + 1) xs)) ≡ have_unfit_set state declared above name (drop i domain) (index_list (drop i xs))
    unfit-past e =
        let p = no-position domain i e in
        ap (λ ps. unfit ps (index_list (drop (i + 1) xs))) p.1 ∙ sym (ap (λ ps. unfit ps (index_list (drop i xs))) p.0)

    at : (position : Option ℕ) → slice_get domain i ≡ Some position → have_unfit_set state declared above name (drop i domain) (index_list (drop i xs)) ≡ have_unfit_set state declared above name (position ∷ drop (i + 1) domain) (index_tree x (index_list (drop (i + 1) xs)))
    at position e =
        ap (λ ps. unfit ps (index_list (drop i xs))) (at-position domain i position e) ∙ ap (unfit (position ∷ drop (i + 1) domain)) (here xs i x l is)

    -- a set at a position, which fits or does not
    pub unfit-at : (position : Option ℕ) (n : ℕ) (lag : Option (LagOp × Place × Box (Expr F) Global)) → slice_get domain i ≡ Some position → x ≡ Set n lag → have_unfit_set state declared above name (drop i domain) (index_list (drop i xs)) ≡ (not (set_fits_position state declared above name position n) || have_unfit_set state declared above name (drop (i + 1) domain) (index_list (drop (i + 1) xs)))
    unfit-at position n lag e s =
        at position e ∙ ap (λ y. unfit (position ∷ drop (i + 1) domain) (index_tree y (index_list (drop (i + 1) xs)))) s ∙ unfit-Set position (drop (i + 1) domain) n lag (index_list (drop (i + 1) xs))

    -- a label
    pub unfit-label : (n : ℕ) → x ≡ Label n → have_unfit_set state declared above name (drop (i + 1) domain) (index_list (drop (i + 1) xs)) ≡ have_unfit_set state declared above name (drop i domain) (index_list (drop i xs))
    unfit-label n s = by (slice_get domain i) refl
      where
        by : (o : Option (Option ℕ)) → slice_get domain i ≡ o → have_unfit_set state declared above name (drop (i + 1) domain) (index_list (drop (i + 1) xs)) ≡ have_unfit_set state declared above name (drop i domain) (index_list (drop i xs))
        by None e = unfit-past e
        by (Some position) e =
            sym (at position e ∙ ap (λ y. unfit (position ∷ drop (i + 1) domain) (index_tree y (index_list (drop (i + 1) xs)))) s ∙ unfit-Label position (drop (i + 1) domain) n (index_list (drop (i + 1) xs)))

module _ {F : Type 0} (state : State) (declared : List ℕ) (name : ℕ) where
  abbrev outside : List (Option ℕ) → Indices F → Bool
  outside = have_unfit_label state declared name

  outside-Set : (position : Option ℕ) (domain : List (Option ℕ)) (n : ℕ) (lag : Option (LagOp × Place × Box (Expr F) Global)) (rest : Indices F) → have_unfit_label state declared name (position ∷ domain) (index_tree (Set n lag) rest) ≡ have_unfit_label state declared name domain rest
  outside-Set position domain n None rest = ap (outside (position ∷ domain)) (index_tree-alone n rest)
  outside-Set position domain n (Some lag) rest = ap (outside (position ∷ domain)) (index_tree-lagged n lag rest)

  outside-Label : (position : Option ℕ) (domain : List (Option ℕ)) (n : ℕ) (rest : Indices F) → have_unfit_label state declared name (position ∷ domain) (index_tree (Label n) rest) ≡ (not (label_fits_position state declared name position n) || have_unfit_label state declared name domain rest)
  outside-Label position domain n rest = ap (outside (position ∷ domain)) (index_tree-Label n rest)

  module _ (domain : List (Option ℕ)) (xs : List (Index F)) (i : ℕ) (x : Index F) (l : i < length xs) (is : x ≡ get_or xs i x) where
    -- a position that is not there
    pub outside-past : slice_get domain i ≡ None → have_unfit_label state declared name (drop (i + 1) domain) (index_list (drop (i + 1) xs)) ≡ have_unfit_label state declared name (drop i domain) (index_list (drop i xs))
    outside-past e =
        let p = no-position domain i e in
        ap (λ ps. outside ps (index_list (drop (i + 1) xs))) p.1 ∙ sym (ap (λ ps. outside ps (index_list (drop i xs))) p.0)

    label-at : (position : Option ℕ) → slice_get domain i ≡ Some position → have_unfit_label state declared name (drop i domain) (index_list (drop i xs)) ≡ have_unfit_label state declared name (position ∷ drop (i + 1) domain) (index_tree x (index_list (drop (i + 1) xs)))
    label-at position e =
        ap (λ ps. outside ps (index_list (drop i xs))) (at-position domain i position e) ∙ ap (outside (position ∷ drop (i + 1) domain)) (here xs i x l is)

    -- a label at a position, whose set has it or does not
    pub outside-at : (position : Option ℕ) (n : ℕ) → slice_get domain i ≡ Some position → x ≡ Label n → have_unfit_label state declared name (drop i domain) (index_list (drop i xs)) ≡ (not (label_fits_position state declared name position n) || have_unfit_label state declared name (drop (i + 1) domain) (index_list (drop (i + 1) xs)))
    outside-at position n e s =
        label-at position e ∙ ap (λ y. outside (position ∷ drop (i + 1) domain) (index_tree y (index_list (drop (i + 1) xs)))) s ∙ outside-Label position (drop (i + 1) domain) n (index_list (drop (i + 1) xs))

    -- a set
    pub outside-set : (n : ℕ) (lag : Option (LagOp × Place × Box (Expr F) Global)) → x ≡ Set n lag → have_unfit_label state declared name (drop (i + 1) domain) (index_list (drop (i + 1) xs)) ≡ have_unfit_label state declared name (drop i domain) (index_list (drop i xs))
    outside-set n lag s = by (slice_get domain i) refl
      where
        by : (o : Option (Option ℕ)) → slice_get domain i ≡ o → have_unfit_label state declared name (drop (i + 1) domain) (index_list (drop (i + 1) xs)) ≡ have_unfit_label state declared name (drop i domain) (index_list (drop i xs))
        by None e = outside-past e
        by (Some position) e =
            sym (label-at position e ∙ ap (λ y. outside (position ∷ drop (i + 1) domain) (index_tree y (index_list (drop (i + 1) xs)))) s ∙ outside-Set position (drop (i + 1) domain) n lag (index_list (drop (i + 1) xs)))
