-- The numbers that a program's values mean determine its named steps.
use Rattle.std.proofs.Common.{◌≡◌, ℕ, ◌+◌, ◌==◌, cond, List, [], ◌∷◌, ◌++◌, map, pos, refl, ap, ap₂, ◌∙◌}
use Rattle.std.specs.Prelude.{flat_map, sum_by}
use Rattle.std.specs.List.{enumerate_from}
use Rattle.gq_number.specs.Number.{Number, whole, ◌-ℚ◌, ◌+ℚ◌, ◌*ℚ◌}
use Rattle.lp_core.specs.declared.answer.EndKind.{EndKind}
use Rattle.lp_core.specs.declared.answer.EndKind.TheVariants as kind
use Rattle.lp_core.specs.declared.answer.StepName.TheVariants.{Recover}
use Rattle.lp_core.specs.declared.program.Column.{Column}
use Rattle.lp_core.specs.declared.program.Row.{Row}
use Rattle.lp_core.specs.declared.program.Lp.{Lp}
use Rattle.lp_core.specs.Sums.{value_of_column}
use Rattle.gq_field.specs.Fits.{sum_fits}
use Rattle.lp_core.specs.Feasible.{bound_value}
use Rattle.lp_core.specs.StandardForm.{Shift, width, base, column_at, columns_of, variables_of, rows_of_sense, rows_of_bounds, multiplier, Last, levels_back}
use Rattle.lp_core.specs.Steps.{product_fits, difference_fits, shifting, row_steps, rows_steps, bound_step, bounds_steps, count_of_rows, standard_steps, level_step, row_level_steps, dual_steps, reduced_steps, ray_step, levels_steps, row_levels_steps, duals_steps, reduced_costs_steps, ray_steps, optimal_steps, infeasible_steps, unbounded_steps, interrupted_steps, steps_back}
use Rattle.lp_core.specs.Numbers.{entries_numbers, column_numbers, row_numbers, lp_numbers}
use Rattle.lp_nocycle.proofs.SameForm.{itself, sum_by_map, bound_same, count_bounds_same, joined_same, columns_same, variables_same}
use Rattle.lp_bland.proofs.Naturality.{levels_same}

module _ {F : Type 0} (value : F → Number) (limit : ℕ) where
  -- ---- the standard form

  row_steps_same : (columns : List (ℕ × Shift)) (r : ℕ) (right : Number) (entries : List (ℕ × F)) → row_steps itself limit columns r right (entries_numbers value entries) ≡ row_steps value limit columns r right entries
  row_steps_same columns r right [] = refl
  row_steps_same columns r right (e ∷ entries) =
      ap (λ s. shifting limit r e.0 (column_at columns e.0).1 (value e.1) right ++ s) (row_steps_same columns r (right -ℚ value e.1 *ℚ base (column_at columns e.0).1) entries)

  rows_steps_same : (columns : List (ℕ × Shift)) (r : ℕ) (rows : List (Row F)) → rows_steps itself limit columns r (map (row_numbers value) rows) ≡ rows_steps value limit columns r rows
  rows_steps_same columns r [] = refl
  rows_steps_same columns r (row ∷ rows) =
      ap₂ (λ s l. cond (rows_of_sense row.sense == 0) [] s ++ l) (row_steps_same columns r (value row.right) row.entries) (rows_steps_same columns (r + rows_of_sense row.sense) rows)

  bounds_steps_same : (r j : ℕ) (columns : List (Column F)) → bounds_steps itself limit r j (map (column_numbers value) columns) ≡ bounds_steps value limit r j columns
  bounds_steps_same r j [] = refl
  bounds_steps_same r j (c ∷ columns) =
      ap₂ (λ s l. s ++ l) (ap₂ (bound_step limit r j) (bound_same (bound_value value c.lower)) (bound_same (bound_value value c.upper)))
      (ap (λ n. bounds_steps itself limit (r + n) (j + 1) (map (column_numbers value) columns)) (count_bounds_same value c.lower c.upper) ∙ bounds_steps_same (r + rows_of_bounds c.lower c.upper) (j + 1) columns)

  count_rows_same : (rows : List (Row F)) → count_of_rows (map (row_numbers value) rows) ≡ count_of_rows rows
  count_rows_same rows = sum_by_map (λ (row : Row Number). rows_of_sense row.sense) (row_numbers value) rows

  pub standard_steps_same : (lp : Lp F) → standard_steps itself limit (lp_numbers value lp) ≡ standard_steps value limit lp
  standard_steps_same lp =
      ap₂ (λ a b. a ++ b) (rows_steps_same (columns_of itself (lp_numbers value lp)) 1 lp.rows ∙ ap (λ columns. rows_steps value limit columns 1 lp.rows) (columns_same value lp))
      (ap (λ n. bounds_steps itself limit (1 + n) 0 (map (column_numbers value) lp.columns)) (count_rows_same lp.rows) ∙ bounds_steps_same (1 + count_of_rows lp.rows) 0 lp.columns)

  -- ---- the recovery

  levels_steps_same : (lp : Lp F) (last : Last) → levels_steps itself limit (lp_numbers value lp) last ≡ levels_steps value limit lp last
  levels_steps_same lp last = ap (λ columns. map (λ (p : ℕ × (ℕ × Shift)). level_step limit p.0 p.1 last.values) (enumerate_from 0 columns)) (columns_same value lp)

  row_level_steps_same : (i e : ℕ) (s : Number) (entries : List (ℕ × F)) (x : List Number) → row_level_steps itself limit i e s (entries_numbers value entries) x ≡ row_level_steps value limit i e s entries x
  row_level_steps_same i e s [] x = refl
  row_level_steps_same i e s (p ∷ entries) x =
      ap (λ l. (Recover 1 i e 0, product_fits limit (value p.1) (value_of_column x p.0)) ∷ (Recover 1 i e 1, sum_fits limit s (value p.1 *ℚ value_of_column x p.0)) ∷ l)
      (row_level_steps_same i (e + 1) (s +ℚ value p.1 *ℚ value_of_column x p.0) entries x)

  row_levels_steps_same : (lp : Lp F) (last : Last) → row_levels_steps itself limit (lp_numbers value lp) last ≡ row_levels_steps value limit lp last
  row_levels_steps_same lp last =
      joined_same (row_numbers value) (λ (p : ℕ × Row Number). row_level_steps itself limit p.0 0 (whole (pos 0)) p.1.entries (levels_back itself (lp_numbers value lp) last)) (λ (p : ℕ × Row F). row_level_steps value limit p.0 0 (whole (pos 0)) p.1.entries (levels_back value lp last)) 0 lp.rows
      (λ i row. row_level_steps_same i 0 (whole (pos 0)) row.entries (levels_back itself (lp_numbers value lp) last) ∙ ap (row_level_steps value limit i 0 (whole (pos 0)) row.entries) (levels_same value lp last))

  dual_steps_same : (p : ℕ → Number) (i r : ℕ) (rows : List (Row F)) → dual_steps limit p i r (map (row_numbers value) rows) ≡ dual_steps limit p i r rows
  dual_steps_same p i r [] = refl
  dual_steps_same p i r (row ∷ rows) =
      ap (λ l. cond (rows_of_sense row.sense == 2) ((Recover 2 i 0 1, difference_fits limit (p r) (p (r + 1))) ∷ []) [] ++ l) (dual_steps_same p (i + 1) (r + rows_of_sense row.sense) rows)

  duals_steps_same : (lp : Lp F) (last : Last) → duals_steps itself limit (lp_numbers value lp) last ≡ duals_steps value limit lp last
  duals_steps_same lp last =
      dual_steps_same (multiplier (variables_of itself (lp_numbers value lp)) last.costs) 0 0 lp.rows
      ∙ ap (λ n. dual_steps limit (multiplier n last.costs) 0 0 lp.rows) (variables_same value lp)

  reduced_steps_same : (costs : List Number) (p : ℕ → Number) (j r : ℕ) (shifts : List (ℕ × Shift)) (columns : List (Column F)) → reduced_steps limit costs p j r shifts (map (column_numbers value) columns) ≡ reduced_steps limit costs p j r shifts columns
  reduced_steps_same costs p j r [] columns = refl
  reduced_steps_same costs p j r (s ∷ shifts) [] = refl
  reduced_steps_same costs p j r (s ∷ shifts) (c ∷ columns) =
      ap (λ n. cond (n == 1) ((Recover 3 j 0 1, sum_fits limit (value_of_column costs s.0) (p r)) ∷ []) [] ++ reduced_steps limit costs p (j + 1) (r + n) shifts (map (column_numbers value) columns)) (count_bounds_same value c.lower c.upper)
      ∙ ap (λ l. cond (rows_of_bounds c.lower c.upper == 1) ((Recover 3 j 0 1, sum_fits limit (value_of_column costs s.0) (p r)) ∷ []) [] ++ l) (reduced_steps_same costs p (j + 1) (r + rows_of_bounds c.lower c.upper) shifts columns)

  reduced_costs_steps_same : (lp : Lp F) (last : Last) → reduced_costs_steps itself limit (lp_numbers value lp) last ≡ reduced_costs_steps value limit lp last
  reduced_costs_steps_same lp last =
      reduced_steps_same last.costs (multiplier (variables_of itself (lp_numbers value lp)) last.costs) 0 (count_of_rows (map (row_numbers value) lp.rows)) (columns_of itself (lp_numbers value lp)) lp.columns
      ∙ ap₂ (λ columns n. reduced_steps limit last.costs (multiplier (sum_by (λ (p : ℕ × Shift). width p.1) columns) last.costs) 0 n columns lp.columns) (columns_same value lp) (count_rows_same lp.rows)

  ray_steps_same : (lp : Lp F) (last : Last) → ray_steps itself limit (lp_numbers value lp) last ≡ ray_steps value limit lp last
  ray_steps_same lp last = ap (λ columns. flat_map (λ (p : ℕ × (ℕ × Shift)). ray_step limit p.0 p.1 last.changes) (enumerate_from 0 columns)) (columns_same value lp)

  pub interrupted_steps_same : (lp : Lp F) (last : Last) → interrupted_steps itself limit (lp_numbers value lp) last ≡ interrupted_steps value limit lp last
  interrupted_steps_same lp last = ap₂ (λ a b. a ++ b) (levels_steps_same lp last) (row_levels_steps_same lp last)

  pub optimal_steps_same : (lp : Lp F) (last : Last) → optimal_steps itself limit (lp_numbers value lp) last ≡ optimal_steps value limit lp last
  optimal_steps_same lp last = ap₂ (λ a b. a ++ b) (ap₂ (λ a b. a ++ b) (interrupted_steps_same lp last) (duals_steps_same lp last)) (reduced_costs_steps_same lp last)

  pub infeasible_steps_same : (lp : Lp F) (last : Last) → infeasible_steps itself limit (lp_numbers value lp) last ≡ infeasible_steps value limit lp last
  infeasible_steps_same lp last = duals_steps_same lp last

  pub unbounded_steps_same : (lp : Lp F) (last : Last) → unbounded_steps itself limit (lp_numbers value lp) last ≡ unbounded_steps value limit lp last
  unbounded_steps_same lp last = ap₂ (λ a b. a ++ b) (interrupted_steps_same lp last) (ray_steps_same lp last)

  -- the steps of the recovery of each kind of end
  pub steps_back_same : (how : EndKind) (lp : Lp F) (last : Last) → steps_back itself limit (lp_numbers value lp) how last ≡ steps_back value limit lp how last
  steps_back_same kind.Optimal lp last = optimal_steps_same lp last
  steps_back_same kind.Infeasible lp last = infeasible_steps_same lp last
  steps_back_same kind.Unbounded lp last = unbounded_steps_same lp last
  steps_back_same kind.Interrupted lp last = interrupted_steps_same lp last
