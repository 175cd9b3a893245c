-- The numbers that a program's values mean determine what is read back from a final dictionary.
use Rattle.std.proofs.Common.{◌≡◌, ℕ, ◌+◌, List, [], ◌∷◌, map, Option, Some, None, refl, ap, ap₂, ◌∙◌}
use Rattle.std.specs.Prelude.{sum_by}
use Rattle.gq_number.specs.Number.{Number, ◌*ℚ◌, neg_ℚ}
use Rattle.gq_number.proofs.Sums.{sum_by_ℚ-map}
use Rattle.lp_core.specs.declared.program.Column.{Column}
use Rattle.lp_core.specs.declared.program.Row.{Row}
use Rattle.lp_core.specs.declared.program.Lp.{Lp}
use Rattle.lp_core.specs.Sums.{value_of_column, row_sum}
use Rattle.lp_core.specs.Feasible.{bound_value}
use Rattle.lp_core.specs.Proofs.{row_sums}
use Rattle.lp_core.specs.StandardForm.{Shift, Standard, point_of, dual_by_sense, changed_back, variables_of, width, columns_of, rows_of_bounds, rows_of_sense, count_of_rows, reduced_by_bounds, duals_from, reduced_from, multiplier, directed, Last, levels_back, duals_back, reduced_back, farkas_back, ray_back}
use Rattle.lp_core.specs.Numbers.{column_numbers, row_numbers, lp_numbers}
use Rattle.lp_nocycle.proofs.SameForm.{itself, sum_by_map, count_bounds_same, columns_same, variables_same, form_same}

module _ {F : Type 0} (value : F → Number) where
  -- ---- the recovery

  pub levels_same : (lp : Lp F) (last : Last) → levels_back itself (lp_numbers value lp) last ≡ levels_back value lp last
  levels_same lp last = ap (λ (s : Standard). point_of s last.values) (form_same value lp)

  row_sums_of : (rows : List (Row F)) (x : List Number) → map (λ (row : Row Number). row_sum itself row.entries x) (map (row_numbers value) rows) ≡ map (λ (row : Row F). row_sum value row.entries x) rows
  row_sums_of [] x = refl
  row_sums_of (row ∷ rows) x = ap₂ (λ s l. s ∷ l) (sum_by_ℚ-map (λ (e : ℕ × Number). e.1 *ℚ value_of_column x e.0) (λ (e : ℕ × F). (e.0, value e.1)) row.entries) (row_sums_of rows x)

  pub row_sums_same : (lp : Lp F) (x : List Number) → row_sums itself (lp_numbers value lp) x ≡ row_sums value lp x
  row_sums_same lp x = row_sums_of lp.rows x

  duals_from_same : (p : ℕ → Number) (r : ℕ) (rows : List (Row F)) → duals_from p r (map (row_numbers value) rows) ≡ duals_from p r rows
  duals_from_same p r [] = refl
  duals_from_same p r (row ∷ rows) = ap (λ l. dual_by_sense row.sense p r ∷ l) (duals_from_same p (r + rows_of_sense row.sense) rows)

  all_duals_same : (lp : Lp F) (last : Last) → duals_from (multiplier (variables_of itself (lp_numbers value lp)) last.costs) 0 (map (row_numbers value) lp.rows) ≡ duals_from (multiplier (variables_of value lp) last.costs) 0 lp.rows
  all_duals_same lp last =
      duals_from_same (multiplier (variables_of itself (lp_numbers value lp)) last.costs) 0 lp.rows
      ∙ ap (λ n. duals_from (multiplier n last.costs) 0 lp.rows) (variables_same value lp)

  pub duals_same : (lp : Lp F) (last : Last) → duals_back itself (lp_numbers value lp) last ≡ duals_back value lp last
  duals_same lp last = ap (map (directed lp.maximize)) (all_duals_same lp last)

  pub farkas_same : (lp : Lp F) (last : Last) → farkas_back itself (lp_numbers value lp) last ≡ farkas_back value lp last
  farkas_same lp last = ap (map neg_ℚ) (all_duals_same lp last)

  pub sense_counts_same : (rows : List (Row F)) → sum_by (λ (row : Row Number). rows_of_sense row.sense) (map (row_numbers value) rows) ≡ sum_by (λ (row : Row F). rows_of_sense row.sense) rows
  sense_counts_same rows = sum_by_map (λ (row : Row Number). rows_of_sense row.sense) (row_numbers value) rows

  reduced_by_same : (costs : List Number) (p : ℕ → Number) (v r : ℕ) (lower upper : Option F) → reduced_by_bounds costs p v r (bound_value value lower) (bound_value value upper) ≡ reduced_by_bounds costs p v r lower upper
  reduced_by_same costs p v r None None = refl
  reduced_by_same costs p v r None (Some u) = refl
  reduced_by_same costs p v r (Some l) None = refl
  reduced_by_same costs p v r (Some l) (Some u) = refl

  reduced_from_same : (costs : List Number) (p : ℕ → Number) (r : ℕ) (shifts : List (ℕ × Shift)) (columns : List (Column F)) → reduced_from costs p r shifts (map (column_numbers value) columns) ≡ reduced_from costs p r shifts columns
  reduced_from_same costs p r [] columns = refl
  reduced_from_same costs p r (s ∷ shifts) [] = refl
  reduced_from_same costs p r (s ∷ shifts) (c ∷ columns) =
      ap₂ (λ x l. x ∷ l) (reduced_by_same costs p s.0 r c.lower c.upper)
      (ap (λ n. reduced_from costs p (r + n) shifts (map (column_numbers value) columns)) (count_bounds_same value c.lower c.upper) ∙ reduced_from_same costs p (r + rows_of_bounds c.lower c.upper) shifts columns)

  abbrev reduced_with : Lp F → Last → List (ℕ × Shift) → ℕ → List Number
  reduced_with lp last columns r = reduced_from last.costs (multiplier (sum_by (λ (p : ℕ × Shift). width p.1) columns) last.costs) r columns lp.columns

  pub reduced_same : (lp : Lp F) (last : Last) → reduced_back itself (lp_numbers value lp) last ≡ reduced_back value lp last
  reduced_same lp last =
      ap (map (directed lp.maximize))
      (reduced_from_same last.costs (multiplier (variables_of itself (lp_numbers value lp)) last.costs) (count_of_rows (map (row_numbers value) lp.rows)) (columns_of itself (lp_numbers value lp)) lp.columns
      ∙ ap₂ (reduced_with lp last) (columns_same value lp) (sense_counts_same lp.rows))

  pub ray_same : (lp : Lp F) (last : Last) → ray_back itself (lp_numbers value lp) last ≡ ray_back value lp last
  ray_same lp last = ap (map (λ column. changed_back column last.changes)) (columns_same value lp)
