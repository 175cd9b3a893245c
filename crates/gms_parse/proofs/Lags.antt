-- Indices with a lag, and targets that may be defined.
use Rattle.std.proofs.Common.{◌≡◌, ℕ, ◌+◌, ◌<◌, ◌≤◌, Bool, true, false, not, ◌||◌, List, [], ◌∷◌, ◌++◌, map, length, take, drop, get_or, refl, sym, ap, ◌∙◌, subst}
use Rattle.std.proofs.lemmas.List.{take_more, drop_more, take_all, take-append-drop}
use denote.Enum.Bare.{sameb}
use Rattle.gq_number.specs.Number.{Number}
use Rattle.gms_ast.specs.contracts.expression.Suffix.{the_type}
use Rattle.gms_ast.specs.declared.expression.Suffix.{Suffix}
use Rattle.gms_ast.specs.declared.expression.Suffix.TheVariants as suffix
use Rattle.gms_ast.specs.declared.expression.Index.{Index as IndexNode}
use Rattle.gms_ast.specs.declared.program.Target.{Target as TargetNode}
use Rattle.gms_ast.specs.Trees.{Indices}
use Rattle.gms_ast.specs.TreeView.{index_tree, indices_of}
use Rattle.gms_ast.specs.StatementView.{shown_target}
use Rattle.gms_grammar.proofs.Basics.{and_second, and_both}
use Rattle.gms_parse.specs.InnerMeanings.{has_lag, is_unsuffixed, is_plain_target}
use Rattle.gms_parse.proofs.Assigning.{lag_in_numbers}

-- whether an index has a lag
abbrev pub LagIs : {F : Type 0} → IndexNode F → Bool → Type 0
LagIs {F} i b = (rest : Indices F) → has_lag (index_tree i rest) ≡ (b || has_lag rest)

-- none of these has a lag
abbrev pub AreLagless : {F : Type 0} → List (IndexNode F) → Type 0
AreLagless [] = Unit {0}
AreLagless (i ∷ is) = LagIs i false × AreLagless is

module _ {F : Type 0} where
  lagless_push : (items : List (IndexNode F)) (i : IndexNode F) → AreLagless items → LagIs i false → AreLagless (items ++ i ∷ [])
  lagless_push [] i h k = (k, tt)
  lagless_push (x ∷ items) i h k = (h.0, lagless_push items i h.1 k)

  -- one index more
  pub lagless_more : (items : List (IndexNode F)) (at : ℕ) (i d : IndexNode F) → AreLagless (take at items) → at < length items → i ≡ get_or items at d → LagIs i false → AreLagless (take (at + 1) items)
  lagless_more items at i d h within e k = subst (λ (is : List (IndexNode F)). AreLagless is) (sym (take_more items at d within)) (lagless_push (take at items) (get_or items at d) h (subst (λ (x : IndexNode F). LagIs x false) e k))

  none_lagged : (items : List (IndexNode F)) → AreLagless items → has_lag (indices_of (map index_tree items)) ≡ false
  none_lagged [] h = refl
  none_lagged (i ∷ items) h = h.0 (indices_of (map index_tree items)) ∙ none_lagged items h.1

  some_lagged : (items : List (IndexNode F)) (i : IndexNode F) (following : List (IndexNode F)) → AreLagless items → LagIs i true → has_lag (indices_of (map index_tree (items ++ i ∷ following))) ≡ true
  some_lagged [] i following h k = k (indices_of (map index_tree following))
  some_lagged (x ∷ items) i following h k = h.0 (indices_of (map index_tree (items ++ i ∷ following))) ∙ some_lagged items i following h.1 k

-- a suffix that is none
pub unsuffixed : (s : Suffix) → not (sameb the_type s suffix.None) ≡ false → is_unsuffixed s ≡ true
unsuffixed suffix.None h = refl
unsuffixed _ h = cc

module _ {F : Type 0} (value : F → Number) (target : TargetNode F) (items : List (IndexNode F)) (same : items ≡ target.indices) where
  lags_shown : (b : Bool) → has_lag (indices_of (map index_tree items)) ≡ b → has_lag (shown_target value target).indices ≡ b
  lags_shown b h = lag_in_numbers value (indices_of (map index_tree target.indices)) ∙ ap (λ (is : List (IndexNode F)). has_lag (indices_of (map index_tree is))) (sym same) ∙ h

  -- a target with a lag
  pub lagged_other : (at : ℕ) (i d : IndexNode F) → AreLagless (take at items) → at < length items → i ≡ get_or items at d → LagIs i true → is_plain_target (shown_target value target) ≡ false
  lagged_other at i d h within e k =
      let parts : items ≡ take at items ++ get_or items at d ∷ drop (at + 1) items = sym (take-append-drop at items) ∙ ap (λ u. take at items ++ u) (drop_more items at d within) in
      let lag = some_lagged (take at items) (get_or items at d) (drop (at + 1) items) h (subst (λ (x : IndexNode F). LagIs x true) e k) in
      and_second (is_unsuffixed target.suffix) _ (ap not (lags_shown true (ap (λ (is : List (IndexNode F)). has_lag (indices_of (map index_tree is))) parts ∙ lag)))

  -- one without a suffix or a lag
  pub plain_whole : (at : ℕ) → is_unsuffixed target.suffix ≡ true → AreLagless (take at items) → length items ≤ at → is_plain_target (shown_target value target) ≡ true
  plain_whole at h k over = and_both _ _ h (ap not (lags_shown false (none_lagged items (subst (λ (is : List (IndexNode F)). AreLagless is) (take_all at items over) k))))
