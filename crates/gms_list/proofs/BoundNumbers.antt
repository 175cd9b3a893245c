-- The bound that duals give: over the numbers of a program it has the same steps and the same value
-- as over the program's own values.
use Rattle.std.proofs.Common.{◌≡◌, ℕ, ◌+◌, ◌==◌, pos, Bool, true, false, List, [], ◌∷◌, ◌++◌, map, Option, Some, None, refl, ap, ap₂, ◌∙◌, if◌then◌else◌}
use Rattle.std.specs.List.{zip, enumerate_from}
use Rattle.gq_number.specs.Number.{Number, whole, ◌+ℚ◌, ◌-ℚ◌, ◌*ℚ◌}
use Rattle.gq_number.specs.Sums.{sum_by_ℚ}
use Rattle.lp_core.specs.declared.program.Column.{Column}
use Rattle.lp_core.specs.declared.program.Row.{Row}
use Rattle.lp_core.specs.declared.program.Lp.{Lp}
use Rattle.lp_core.specs.Feasible.{bound_value}
use Rattle.lp_core.specs.Sums.{column_coefficient}
use Rattle.lp_core.specs.Steps.{asks_nothing}
use Rattle.lp_core.specs.Numbers.{entries_numbers, column_numbers, row_numbers, lp_numbers}
use Rattle.lp_core.specs.DualBound.{row_lower, row_upper, used, total, both, objective_costs, no_costs, reduced_cost, low, high}
use Rattle.lp_check.specs.BoundSteps.{plus_steps, plus_product, less_steps, less_product, bound_used, entry_of, entry_in, row_bound, column_bound, rows_sum, reduced_cost_bound_steps, all_reduced_steps, row_bound_steps, columns_steps, steps_of_bound, objective_bound}
use Rattle.gms_list.specs.SolveText.{bound_steps_fit}

-- a number, as the number that it means
abbrev pub itself : Number → Number
itself x = x

module _ {F : Type 0} (value : F → Number) where
  -- ---- the parts: entries, bounds and reduced costs

  entry_same : (entries : List (ℕ × F)) (j : ℕ) → entry_of itself (entries_numbers value entries) j ≡ entry_of value entries j
  entry_same [] j = refl
  entry_same (e ∷ entries) j = ap (λ o. if e.0 == j then Some (value e.1) else o) (entry_same entries j)

  asked_same : (row : Row F) (j : ℕ) → entry_in itself j (row_numbers value row) ≡ entry_in value j row
  asked_same row j = ap (λ o. if asks_nothing row.sense then None else o) (entry_same row.entries j)

  row_bound_same : (above : Bool) (row : Row F) (y : Number) → row_bound itself above (row_numbers value row) y ≡ row_bound value above row y
  row_bound_same true row y = refl
  row_bound_same false row y = refl

  told_twice : (bound : Option F) → bound_value itself (bound_value value bound) ≡ bound_value value bound
  told_twice None = refl
  told_twice (Some bound) = refl

  column_bound_same : (above : Bool) (column : Column F) (d : Number) → column_bound itself above (column_numbers value column) d ≡ column_bound value above column d
  column_bound_same true column d = ap₂ (bound_used d) (told_twice column.upper) (told_twice column.lower)
  column_bound_same false column d = ap₂ (bound_used d) (told_twice column.lower) (told_twice column.upper)

  coefficient_same : (entries : List (ℕ × F)) (j : ℕ) → column_coefficient itself (entries_numbers value entries) j ≡ column_coefficient value entries j
  unfolding sum_by_ℚ
  coefficient_same [] j = refl
  coefficient_same (e ∷ entries) j = ap (λ s. (if e.0 == j then value e.1 else whole (pos 0)) +ℚ s) (coefficient_same entries j)

  weighted_same : (rows : List (Row F)) (duals : List Number) (j : ℕ) →
      sum_by_ℚ (λ (p : Row Number × Number). p.1 *ℚ column_coefficient itself p.0.entries j) (zip (map (row_numbers value) rows) duals)
      ≡ sum_by_ℚ (λ (p : Row F × Number). p.1 *ℚ column_coefficient value p.0.entries j) (zip rows duals)
  unfolding sum_by_ℚ
  weighted_same [] duals j = refl
  weighted_same (row ∷ rows) [] j = refl
  weighted_same (row ∷ rows) (y ∷ duals) j = ap₂ (λ a b. (y *ℚ a) +ℚ b) (coefficient_same row.entries j) (weighted_same rows duals j)

  reduced_cost_same : (lp : Lp F) (costs : ℕ → Number) (duals : List Number) (j : ℕ) → reduced_cost itself (lp_numbers value lp) costs duals j ≡ reduced_cost value lp costs duals j
  reduced_cost_same lp costs duals j = ap (λ s. costs j -ℚ s) (weighted_same lp.rows duals j)

  -- ---- the steps

  reduced_steps_same : (limit j : ℕ) (s : Number) (rows : List (Row F)) (duals : List Number) → reduced_cost_bound_steps itself limit j s (map (row_numbers value) rows) duals ≡ reduced_cost_bound_steps value limit j s rows duals
  reduced_steps_same limit j s [] duals = refl
  reduced_steps_same limit j s (row ∷ rows) [] = refl
  reduced_steps_same limit j s (row ∷ rows) (y ∷ duals) =
      ap (λ e. less_steps limit s y e ++ reduced_cost_bound_steps itself limit j (less_product s y e) (map (row_numbers value) rows) duals) (asked_same row j)
      ∙ ap (λ t. less_steps limit s y (entry_in value j row) ++ t) (reduced_steps_same limit j (less_product s y (entry_in value j row)) rows duals)

  all_reduced_same : (limit : ℕ) (costs : ℕ → Number) (rows : List (Row F)) (duals : List Number) (j : ℕ) (columns : List (Column F)) →
      all_reduced_steps itself limit costs (map (row_numbers value) rows) duals j (map (column_numbers value) columns) ≡ all_reduced_steps value limit costs rows duals j columns
  all_reduced_same limit costs rows duals j [] = refl
  all_reduced_same limit costs rows duals j (column ∷ columns) =
      ap₂ (λ a b. a ++ b) (reduced_steps_same limit j (costs j) rows duals) (all_reduced_same limit costs rows duals (j + 1) columns)

  rows_steps_same : (limit : ℕ) (above : Bool) (s : Number) (rows : List (Row F)) (duals : List Number) → row_bound_steps itself limit above s (map (row_numbers value) rows) duals ≡ row_bound_steps value limit above s rows duals
  rows_steps_same limit above s [] duals = refl
  rows_steps_same limit above s (row ∷ rows) [] = refl
  rows_steps_same limit above s (row ∷ rows) (y ∷ duals) =
      ap (λ b. plus_steps limit s y b ++ row_bound_steps itself limit above (plus_product s y b) (map (row_numbers value) rows) duals) (row_bound_same above row y)
      ∙ ap (λ t. plus_steps limit s y (row_bound value above row y) ++ t) (rows_steps_same limit above (plus_product s y (row_bound value above row y)) rows duals)

  rows_sum_same : (above : Bool) (s : Number) (rows : List (Row F)) (duals : List Number) → rows_sum itself above s (map (row_numbers value) rows) duals ≡ rows_sum value above s rows duals
  rows_sum_same above s [] duals = refl
  rows_sum_same above s (row ∷ rows) [] = refl
  rows_sum_same above s (row ∷ rows) (y ∷ duals) =
      ap (λ b. rows_sum itself above (plus_product s y b) (map (row_numbers value) rows) duals) (row_bound_same above row y)
      ∙ rows_sum_same above (plus_product s y (row_bound value above row y)) rows duals

  columns_steps_same : (limit : ℕ) (above : Bool) (reduced known : ℕ → Number) → ((j : ℕ) → reduced j ≡ known j) → (s : Number) (j : ℕ) (columns : List (Column F)) →
      columns_steps itself limit above reduced s j (map (column_numbers value) columns) ≡ columns_steps value limit above known s j columns
  columns_steps_same limit above reduced known h s j [] = refl
  columns_steps_same limit above reduced known h s j (column ∷ columns) =
      ap (λ d. plus_steps limit s d (column_bound itself above (column_numbers value column) d) ++ columns_steps itself limit above reduced (plus_product s d (column_bound itself above (column_numbers value column) d)) (j + 1) (map (column_numbers value) columns)) (h j)
      ∙ ap (λ b. plus_steps limit s (known j) b ++ columns_steps itself limit above reduced (plus_product s (known j) b) (j + 1) (map (column_numbers value) columns)) (column_bound_same above column (known j))
      ∙ ap (λ t. plus_steps limit s (known j) (column_bound value above column (known j)) ++ t) (columns_steps_same limit above reduced known h (plus_product s (known j) (column_bound value above column (known j))) (j + 1) columns)

  steps_same : (limit : ℕ) (above : Bool) (costs : ℕ → Number) (lp : Lp F) (duals : List Number) → steps_of_bound itself limit above costs (lp_numbers value lp) duals ≡ steps_of_bound value limit above costs lp duals
  steps_same limit above costs lp duals =
      ap₂ (λ a b. a ++ b)
      (ap₂ (λ a b. a ++ b) (all_reduced_same limit costs lp.rows duals 0 lp.columns) (rows_steps_same limit above (whole (pos 0)) lp.rows duals))
      (ap (λ s. columns_steps itself limit above (reduced_cost itself (lp_numbers value lp) costs duals) s 0 (map (column_numbers value) lp.columns)) (rows_sum_same above (whole (pos 0)) lp.rows duals)
      ∙ columns_steps_same limit above (reduced_cost itself (lp_numbers value lp) costs duals) (reduced_cost value lp costs duals) (reduced_cost_same lp costs duals) (rows_sum value above (whole (pos 0)) lp.rows duals) 0 lp.columns)

  -- whether each step of computing the bound fits, over the values themselves
  abbrev pub fits_over : ℕ → Bool → Lp F → List Number → List Bool
  fits_over limit true lp duals = steps_of_bound value limit lp.maximize (objective_costs lp) lp duals
  fits_over limit false lp duals = steps_of_bound value limit false no_costs lp duals

  pub fits_same : (limit : ℕ) (lp : Lp F) (duals : List Number) (with_objective : Bool) → bound_steps_fit limit (lp_numbers value lp) duals with_objective ≡ fits_over limit with_objective lp duals
  fits_same limit lp duals true = steps_same limit lp.maximize (objective_costs lp) lp duals
  fits_same limit lp duals false = steps_same limit false no_costs lp duals

  -- ---- the value

  rows_terms_same : (f : Row Number × Number → Option Number) (g : Row F × Number → Option Number) → ((row : Row F) (y : Number) → f (row_numbers value row, y) ≡ g (row, y)) → (rows : List (Row F)) (duals : List Number) →
      map f (zip (map (row_numbers value) rows) duals) ≡ map g (zip rows duals)
  rows_terms_same f g h [] duals = refl
  rows_terms_same f g h (row ∷ rows) [] = refl
  rows_terms_same f g h (row ∷ rows) (y ∷ duals) = ap₂ (λ a b. a ∷ b) (h row y) (rows_terms_same f g h rows duals)

  columns_terms_same : (f : ℕ × Column Number → Option Number) (g : ℕ × Column F → Option Number) → ((j : ℕ) (column : Column F) → f (j, column_numbers value column) ≡ g (j, column)) → (j : ℕ) (columns : List (Column F)) →
      map f (enumerate_from j (map (column_numbers value) columns)) ≡ map g (enumerate_from j columns)
  columns_terms_same f g h j [] = refl
  columns_terms_same f g h j (column ∷ columns) = ap₂ (λ a b. a ∷ b) (h j column) (columns_terms_same f g h (j + 1) columns)

  used_same : (d e : Number) (first second : Option F) → d ≡ e → used d (bound_value itself (bound_value value first)) (bound_value itself (bound_value value second)) ≡ used e (bound_value value first) (bound_value value second)
  used_same d e first second same =
      ap (λ x. used x (bound_value itself (bound_value value first)) (bound_value itself (bound_value value second))) same
      ∙ ap₂ (used e) (told_twice first) (told_twice second)

  low_same : (lp : Lp F) (costs : ℕ → Number) (duals : List Number) → low itself (lp_numbers value lp) costs duals ≡ low value lp costs duals
  low_same lp costs duals =
      ap₂ both
      (ap total (rows_terms_same (λ (p : Row Number × Number). used p.1 (row_lower p.0.sense p.0.right) (row_upper p.0.sense p.0.right)) (λ (p : Row F × Number). used p.1 (row_lower p.0.sense (value p.0.right)) (row_upper p.0.sense (value p.0.right))) (λ row y. refl) lp.rows duals))
      (ap total (columns_terms_same (λ (p : ℕ × Column Number). used (reduced_cost itself (lp_numbers value lp) costs duals p.0) (bound_value itself p.1.lower) (bound_value itself p.1.upper)) (λ (p : ℕ × Column F). used (reduced_cost value lp costs duals p.0) (bound_value value p.1.lower) (bound_value value p.1.upper)) (λ j column. used_same _ _ column.lower column.upper (reduced_cost_same lp costs duals j)) 0 lp.columns))

  high_same : (lp : Lp F) (costs : ℕ → Number) (duals : List Number) → high itself (lp_numbers value lp) costs duals ≡ high value lp costs duals
  high_same lp costs duals =
      ap₂ both
      (ap total (rows_terms_same (λ (p : Row Number × Number). used p.1 (row_upper p.0.sense p.0.right) (row_lower p.0.sense p.0.right)) (λ (p : Row F × Number). used p.1 (row_upper p.0.sense (value p.0.right)) (row_lower p.0.sense (value p.0.right))) (λ row y. refl) lp.rows duals))
      (ap total (columns_terms_same (λ (p : ℕ × Column Number). used (reduced_cost itself (lp_numbers value lp) costs duals p.0) (bound_value itself p.1.upper) (bound_value itself p.1.lower)) (λ (p : ℕ × Column F). used (reduced_cost value lp costs duals p.0) (bound_value value p.1.upper) (bound_value value p.1.lower)) (λ j column. used_same _ _ column.upper column.lower (reduced_cost_same lp costs duals j)) 0 lp.columns))

  pub bound_same : (lp : Lp F) (duals : List Number) (with_objective : Bool) → objective_bound itself with_objective (lp_numbers value lp) duals ≡ objective_bound value with_objective lp duals
  bound_same lp duals true = ap₂ (λ a b. if lp.maximize then a else b) (high_same lp (objective_costs lp) duals) (low_same lp (objective_costs lp) duals)
  bound_same lp duals false = low_same lp no_costs duals
