-- The steps over rows and columns, from a place on.
use Rattle.std.proofs.Common.{◌≡◌, ℕ, ◌+◌, ◌<◌, Bool, List, ◌∷◌, ◌++◌, length, map, get_or, drop, Option, sym, ap, ap₂, ◌∙◌}
use Rattle.std.proofs.lemmas.List.{get_or-map}
use Rattle.std.proofs.Math.ListN.{length-map}
use Rattle.gq_number.specs.Number.{Number}
use Rattle.lp_core.specs.declared.program.Row.{Row}
use Rattle.lp_core.specs.declared.program.Column.{Column}
use Rattle.lp_form.proofs.LoopSteps.{drop_item}
use Rattle.lp_check.specs.BoundSteps.{less_steps, less_product, plus_steps, plus_product, entry_in, row_bound, column_bound, reduced_cost_bound_steps, all_reduced_steps, row_bound_steps, rows_sum, columns_steps, columns_sum}
use Rattle.lp_check.specs.Partials.{reduced_sum}

module _ {F : Type 0} (value : F → Number) (limit : ℕ) where
  -- the number of a dual from its place on
  pub numbers_from : (duals : List F) (i : ℕ) (y : F) → i < length duals → y ≡ get_or duals i y → drop i (map value duals) ≡ value y ∷ drop (i + 1) (map value duals)
  numbers_from duals i y h is =
      drop_item (map value duals) i (value y) (simp length-map h) (ap value is ∙ sym (get_or-map value duals i y (value y) h))

  module _ (rows : List (Row F)) (duals : List F) (i : ℕ) (row : Row F) (y : F) (here : i < length rows) (row_is : row ≡ get_or rows i row) (there : i < length duals) (y_is : y ≡ get_or duals i y) where
    pub reduced_from : (j : ℕ) (s t : Number) (entry : Option Number) → entry ≡ entry_in value j row → t ≡ less_product s (value y) entry → reduced_cost_bound_steps value limit j s (drop i rows) (drop i (map value duals)) ≡ less_steps limit s (value y) entry ++ reduced_cost_bound_steps value limit j t (drop (i + 1) rows) (drop (i + 1) (map value duals))
    reduced_from j s t entry is made =
        ap₂ (reduced_cost_bound_steps value limit j s) (drop_item rows i row here row_is) (numbers_from duals i y there y_is)
        ∙ ap (λ e. less_steps limit s (value y) e ++ reduced_cost_bound_steps value limit j (less_product s (value y) e) (drop (i + 1) rows) (drop (i + 1) (map value duals))) (sym is)
        ∙ ap (λ u. less_steps limit s (value y) entry ++ reduced_cost_bound_steps value limit j u (drop (i + 1) rows) (drop (i + 1) (map value duals))) (sym made)

    pub reduced_sum_from : (j : ℕ) (s t : Number) (entry : Option Number) → entry ≡ entry_in value j row → t ≡ less_product s (value y) entry → reduced_sum value j s (drop i rows) (drop i (map value duals)) ≡ reduced_sum value j t (drop (i + 1) rows) (drop (i + 1) (map value duals))
    reduced_sum_from j s t entry is made =
        ap₂ (reduced_sum value j s) (drop_item rows i row here row_is) (numbers_from duals i y there y_is)
        ∙ ap (λ u. reduced_sum value j u (drop (i + 1) rows) (drop (i + 1) (map value duals))) (ap (less_product s (value y)) (sym is) ∙ sym made)

    pub rows_from : (above : Bool) (s t : Number) (bound : Option Number) → bound ≡ row_bound value above row (value y) → t ≡ plus_product s (value y) bound → row_bound_steps value limit above s (drop i rows) (drop i (map value duals)) ≡ plus_steps limit s (value y) bound ++ row_bound_steps value limit above t (drop (i + 1) rows) (drop (i + 1) (map value duals))
    rows_from above s t bound is made =
        ap₂ (row_bound_steps value limit above s) (drop_item rows i row here row_is) (numbers_from duals i y there y_is)
        ∙ ap (λ b. plus_steps limit s (value y) b ++ row_bound_steps value limit above (plus_product s (value y) b) (drop (i + 1) rows) (drop (i + 1) (map value duals))) (sym is)
        ∙ ap (λ u. plus_steps limit s (value y) bound ++ row_bound_steps value limit above u (drop (i + 1) rows) (drop (i + 1) (map value duals))) (sym made)

    pub rows_sum_from : (above : Bool) (s t : Number) (bound : Option Number) → bound ≡ row_bound value above row (value y) → t ≡ plus_product s (value y) bound → rows_sum value above s (drop i rows) (drop i (map value duals)) ≡ rows_sum value above t (drop (i + 1) rows) (drop (i + 1) (map value duals))
    rows_sum_from above s t bound is made =
        ap₂ (rows_sum value above s) (drop_item rows i row here row_is) (numbers_from duals i y there y_is)
        ∙ ap (λ u. rows_sum value above u (drop (i + 1) rows) (drop (i + 1) (map value duals))) (ap (plus_product s (value y)) (sym is) ∙ sym made)

  -- ---- columns; the first remaining one has place j

  module _ (columns : List (Column F)) (i : ℕ) (column : Column F) (here : i < length columns) (is : column ≡ get_or columns i column) where
    pub all_reduced_from : (costs : ℕ → Number) (rows : List (Row F)) (duals : List Number) → all_reduced_steps value limit costs rows duals i (drop i columns) ≡ reduced_cost_bound_steps value limit i (costs i) rows duals ++ all_reduced_steps value limit costs rows duals (i + 1) (drop (i + 1) columns)
    all_reduced_from costs rows duals = ap (all_reduced_steps value limit costs rows duals i) (drop_item columns i column here is)

    pub columns_from : (above : Bool) (reduced : ℕ → Number) (s t d : Number) (bound : Option Number) → d ≡ reduced i → bound ≡ column_bound value above column d → t ≡ plus_product s d bound → columns_steps value limit above reduced s i (drop i columns) ≡ plus_steps limit s d bound ++ columns_steps value limit above reduced t (i + 1) (drop (i + 1) columns)
    columns_from above reduced s t d bound d_is bound_is made =
        ap (columns_steps value limit above reduced s i) (drop_item columns i column here is)
        ∙ ap (λ e. plus_steps limit s e (column_bound value above column e) ++ columns_steps value limit above reduced (plus_product s e (column_bound value above column e)) (i + 1) (drop (i + 1) columns)) (sym d_is)
        ∙ ap (λ b. plus_steps limit s d b ++ columns_steps value limit above reduced (plus_product s d b) (i + 1) (drop (i + 1) columns)) (sym bound_is)
        ∙ ap (λ u. plus_steps limit s d bound ++ columns_steps value limit above reduced u (i + 1) (drop (i + 1) columns)) (sym made)

    pub columns_sum_from : (above : Bool) (reduced : ℕ → Number) (s t d : Number) (bound : Option Number) → d ≡ reduced i → bound ≡ column_bound value above column d → t ≡ plus_product s d bound → columns_sum value above reduced s i (drop i columns) ≡ columns_sum value above reduced t (i + 1) (drop (i + 1) columns)
    columns_sum_from above reduced s t d bound d_is bound_is made =
        ap (columns_sum value above reduced s i) (drop_item columns i column here is)
        ∙ ap (λ e. columns_sum value above reduced (plus_product s e (column_bound value above column e)) (i + 1) (drop (i + 1) columns)) (sym d_is)
        ∙ ap (λ u. columns_sum value above reduced u (i + 1) (drop (i + 1) columns)) (ap (plus_product s d) (sym bound_is) ∙ sym made)
