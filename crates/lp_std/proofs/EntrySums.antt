-- The sum of a row in the recovery, entry by entry; and duals and reduced costs, row by row and
-- column by column.
use Rattle.std.proofs.Common.{◌≡◌, ℕ, ◌+◌, ◌<◌, ◌≤◌, Bool, pos, List, [], ◌∷◌, ◌++◌, length, map, get_or, take, drop, Some, None, sym, ap, ap₂, ◌∙◌, append_assoc}
use Rattle.std.specs.Prelude.{sum_by}
use Rattle.std.proofs.lemmas.List.{get_or-map, drop_all, map-append, append-nil}
use Rattle.std.proofs.lemmas.List.Sums.{sum_by-cons}
use Rattle.gq_number.specs.Number.{Number, whole, ◌+ℚ◌, ◌*ℚ◌}
use Rattle.gq_number.proofs.Sums.{sum_by_ℚ_more}
use Rattle.gq_field.specs.Fits.{sum_fits}
use Rattle.lp_core.specs.declared.answer.StepName.{StepName}
use Rattle.lp_core.specs.declared.answer.StepName.TheVariants.{Recover}
use Rattle.lp_core.specs.declared.program.Column.{Column}
use Rattle.lp_core.specs.declared.program.Row.{Row}
use Rattle.lp_core.specs.Sums.{value_of_column, row_sum}
use Rattle.lp_core.specs.StandardForm as form
use Rattle.lp_core.specs.Steps.{ExpectedStep, product_fits, row_level_steps, count_of_rows, dual_steps, reduced_steps}
use Rattle.lp_form.proofs.LoopSteps.{drop_item}
use Rattle.lp_std.specs.declared.types.Shift.{Shift}
use Rattle.lp_std.specs.Meaning.{shift_value}
use Rattle.lp_std.specs.InnerSteps.{first_stop, placed_value, dual_step, reduced_step}
use Rattle.lp_std.proofs.Stops.{stop_after, stop_before}

-- ---- a row's sum

module _ {F : Type 0} (value : F → Number) (limit i : ℕ) (entries : List (ℕ × F)) (levels : List F) (k : ℕ) (e : ℕ × F) (level : F) (here : k < length entries) (e_is : e ≡ get_or entries k e) (there : e.0 < length levels) (level_is : level ≡ get_or levels e.0 level) where
  level_there : value_of_column (map value levels) e.0 ≡ value level
  level_there = get_or-map value levels e.0 level (whole (pos 0)) there ∙ ap value (sym level_is)

  abbrev two_steps : Number → List ExpectedStep
  two_steps s = (Recover 1 i k 0, product_fits limit (value e.1) (value level)) ∷ (Recover 1 i k 1, sum_fits limit s (value e.1 *ℚ value level)) ∷ []

  entry_here : (s : Number) → row_level_steps value limit i k s (drop k entries) (map value levels) ≡ two_steps s ++ row_level_steps value limit i (k + 1) (s +ℚ value e.1 *ℚ value level) (drop (k + 1) entries) (map value levels)
  entry_here s =
      ap (λ es. row_level_steps value limit i k s es (map value levels)) (drop_item entries k e here e_is)
      ∙ ap (λ n. (Recover 1 i k 0, product_fits limit (value e.1) n) ∷ (Recover 1 i k 1, sum_fits limit s (value e.1 *ℚ n)) ∷ row_level_steps value limit i (k + 1) (s +ℚ value e.1 *ℚ n) (drop (k + 1) entries) (map value levels)) level_there

  pub entry_goes : (s t : Number) → first_stop ((Recover 1 i k 0, product_fits limit (value e.1) (value level)) ∷ (Recover 1 i k 1, sum_fits limit s (value e.1 *ℚ value level)) ∷ []) ≡ None → t ≡ s +ℚ value e.1 *ℚ value level → first_stop (row_level_steps value limit i k s (drop k entries) (map value levels)) ≡ first_stop (row_level_steps value limit i (k + 1) t (drop (k + 1) entries) (map value levels))
  entry_goes s t fit is =
      ap first_stop (entry_here s) ∙ stop_after (two_steps s) (row_level_steps value limit i (k + 1) (s +ℚ value e.1 *ℚ value level) (drop (k + 1) entries) (map value levels)) fit
      ∙ ap (λ n. first_stop (row_level_steps value limit i (k + 1) n (drop (k + 1) entries) (map value levels))) (sym is)

  pub entry_stops : (s : Number) (step : StepName) → first_stop ((Recover 1 i k 0, product_fits limit (value e.1) (value level)) ∷ (Recover 1 i k 1, sum_fits limit s (value e.1 *ℚ value level)) ∷ []) ≡ Some step → first_stop (row_level_steps value limit i k s (drop k entries) (map value levels)) ≡ Some step
  entry_stops s step h = ap first_stop (entry_here s) ∙ stop_before (two_steps s) (row_level_steps value limit i (k + 1) (s +ℚ value e.1 *ℚ value level) (drop (k + 1) entries) (map value levels)) step h

  pub sum_more : (s t : Number) → s ≡ row_sum value (take k entries) (map value levels) → t ≡ s +ℚ value e.1 *ℚ value level → t ≡ row_sum value (take (k + 1) entries) (map value levels)
  sum_more s t so is =
      is ∙ ap₂ (λ u w. u +ℚ w) so (ap (λ n. value e.1 *ℚ n) (sym level_there) ∙ ap (λ (d : ℕ × F). value d.1 *ℚ value_of_column (map value levels) d.0) e_is)
      ∙ sym (sum_by_ℚ_more (λ (d : ℕ × F). value d.1 *ℚ value_of_column (map value levels) d.0) entries k e here)

-- ---- duals, row by row

module _ {F : Type 0} (value : F → Number) (limit : ℕ) (p : ℕ → Number) (b : Bool) (rows : List (Row F)) (i : ℕ) (row : Row F) (here : i < length rows) (is : row ≡ get_or rows i row) where
  pub dual_goes : (r : ℕ) → first_stop (dual_step limit p i r row.sense) ≡ None → first_stop (dual_steps limit p i r (drop i rows)) ≡ first_stop (dual_steps limit p (i + 1) (r + form.rows_of_sense row.sense) (drop (i + 1) rows))
  dual_goes r h =
      ap (λ xs. first_stop (dual_steps limit p i r xs)) (drop_item rows i row here is)
      ∙ stop_after (dual_step limit p i r row.sense) (dual_steps limit p (i + 1) (r + form.rows_of_sense row.sense) (drop (i + 1) rows)) h

  pub dual_stops : (r : ℕ) (step : StepName) → first_stop (dual_step limit p i r row.sense) ≡ Some step → first_stop (dual_steps limit p i r (drop i rows)) ≡ Some step
  dual_stops r step h =
      ap (λ xs. first_stop (dual_steps limit p i r xs)) (drop_item rows i row here is)
      ∙ stop_before (dual_step limit p i r row.sense) (dual_steps limit p (i + 1) (r + form.rows_of_sense row.sense) (drop (i + 1) rows)) step h

  pub dual_made : (made : List F) (y : F) (r : ℕ) → value y ≡ form.directed b (form.dual_by_sense row.sense p r) → map value (made ++ y ∷ []) ++ map (form.directed b) (form.duals_from p (r + form.rows_of_sense row.sense) (drop (i + 1) rows)) ≡ map value made ++ map (form.directed b) (form.duals_from p r (drop i rows))
  dual_made made y r h =
      ap (λ ys. ys ++ map (form.directed b) (form.duals_from p (r + form.rows_of_sense row.sense) (drop (i + 1) rows))) (map-append value made (y ∷ []) ∙ ap (λ a. map value made ++ a ∷ []) h)
      ∙ append_assoc (map value made) (form.directed b (form.dual_by_sense row.sense p r) ∷ []) (map (form.directed b) (form.duals_from p (r + form.rows_of_sense row.sense) (drop (i + 1) rows)))
      ∙ sym (ap (λ xs. map value made ++ map (form.directed b) (form.duals_from p r xs)) (drop_item rows i row here is))

  pub count_here : count_of_rows (drop i rows) ≡ form.rows_of_sense row.sense + count_of_rows (drop (i + 1) rows)
  count_here = ap count_of_rows (drop_item rows i row here is) ∙ sum_by-cons (λ (row : Row F). form.rows_of_sense row.sense) row (drop (i + 1) rows)

pub duals_end : {F : Type 0} (value : F → Number) (p : ℕ → Number) (b : Bool) (rows : List (Row F)) (i r : ℕ) (made : List F) → length rows ≤ i → map value made ≡ map value made ++ map (form.directed b) (form.duals_from p r (drop i rows))
duals_end value p b rows i r made end = sym (append-nil (map value made)) ∙ sym (ap (λ xs. map value made ++ map (form.directed b) (form.duals_from p r xs)) (drop_all i rows end))

pub dual_steps_end : {F : Type 0} (limit : ℕ) (p : ℕ → Number) (rows : List (Row F)) (i r : ℕ) → length rows ≤ i → first_stop (dual_steps limit p i r (drop i rows)) ≡ None
dual_steps_end limit p rows i r end = ap (λ xs. first_stop (dual_steps limit p i r xs)) (drop_all i rows end)

-- ---- reduced costs, column by column

module _ {F : Type 0} (value : F → Number) (limit : ℕ) (costs : List Number) (p : ℕ → Number) (b : Bool) (columns : List (ℕ × Shift F)) (bounded : List (Column F)) (j : ℕ) (column : Column F) (place : ℕ × Shift F) (here : j < length bounded) (is : column ≡ get_or bounded j column) (there : j < length columns) (place_is : place ≡ get_or columns j place) where
  placed_drop : placed_value value (drop j columns) ≡ (place.0, shift_value value place.1) ∷ placed_value value (drop (j + 1) columns)
  placed_drop = ap (placed_value value) (drop_item columns j place there place_is)

  pub reduced_goes : (r : ℕ) → first_stop (reduced_step limit costs p j place.0 r column.lower column.upper) ≡ None → first_stop (reduced_steps limit costs p j r (placed_value value (drop j columns)) (drop j bounded)) ≡ first_stop (reduced_steps limit costs p (j + 1) (r + form.rows_of_bounds column.lower column.upper) (placed_value value (drop (j + 1) columns)) (drop (j + 1) bounded))
  reduced_goes r h =
      ap₂ (λ cs xs. first_stop (reduced_steps limit costs p j r cs xs)) placed_drop (drop_item bounded j column here is)
      ∙ stop_after (reduced_step limit costs p j place.0 r column.lower column.upper) (reduced_steps limit costs p (j + 1) (r + form.rows_of_bounds column.lower column.upper) (placed_value value (drop (j + 1) columns)) (drop (j + 1) bounded)) h

  pub reduced_stops : (r : ℕ) (step : StepName) → first_stop (reduced_step limit costs p j place.0 r column.lower column.upper) ≡ Some step → first_stop (reduced_steps limit costs p j r (placed_value value (drop j columns)) (drop j bounded)) ≡ Some step
  reduced_stops r step h =
      ap₂ (λ cs xs. first_stop (reduced_steps limit costs p j r cs xs)) placed_drop (drop_item bounded j column here is)
      ∙ stop_before (reduced_step limit costs p j place.0 r column.lower column.upper) (reduced_steps limit costs p (j + 1) (r + form.rows_of_bounds column.lower column.upper) (placed_value value (drop (j + 1) columns)) (drop (j + 1) bounded)) step h

  pub reduced_made : (made : List F) (y : F) (r : ℕ) → value y ≡ form.directed b (form.reduced_by_bounds costs p place.0 r column.lower column.upper) → map value (made ++ y ∷ []) ++ map (form.directed b) (form.reduced_from costs p (r + form.rows_of_bounds column.lower column.upper) (placed_value value (drop (j + 1) columns)) (drop (j + 1) bounded)) ≡ map value made ++ map (form.directed b) (form.reduced_from costs p r (placed_value value (drop j columns)) (drop j bounded))
  reduced_made made y r h =
      ap (λ ys. ys ++ map (form.directed b) (form.reduced_from costs p (r + form.rows_of_bounds column.lower column.upper) (placed_value value (drop (j + 1) columns)) (drop (j + 1) bounded))) (map-append value made (y ∷ []) ∙ ap (λ a. map value made ++ a ∷ []) h)
      ∙ append_assoc (map value made) (form.directed b (form.reduced_by_bounds costs p place.0 r column.lower column.upper) ∷ []) (map (form.directed b) (form.reduced_from costs p (r + form.rows_of_bounds column.lower column.upper) (placed_value value (drop (j + 1) columns)) (drop (j + 1) bounded)))
      ∙ sym (ap₂ (λ cs xs. map value made ++ map (form.directed b) (form.reduced_from costs p r cs xs)) placed_drop (drop_item bounded j column here is))

  pub own_count : sum_by (λ (c : Column F). form.rows_of_bounds c.lower c.upper) (drop j bounded) ≡ form.rows_of_bounds column.lower column.upper + sum_by (λ (c : Column F). form.rows_of_bounds c.lower c.upper) (drop (j + 1) bounded)
  own_count = ap (sum_by (λ (c : Column F). form.rows_of_bounds c.lower c.upper)) (drop_item bounded j column here is) ∙ sum_by-cons (λ (c : Column F). form.rows_of_bounds c.lower c.upper) column (drop (j + 1) bounded)

module _ {F : Type 0} (value : F → Number) (limit : ℕ) (costs : List Number) (p : ℕ → Number) (b : Bool) (columns : List (ℕ × Shift F)) (bounded : List (Column F)) (j r : ℕ) (end : length bounded ≤ j) (past : length columns ≤ j) where
  pub reduced_steps_end : first_stop (reduced_steps limit costs p j r (placed_value value (drop j columns)) (drop j bounded)) ≡ None
  reduced_steps_end = ap₂ (λ cs xs. first_stop (reduced_steps limit costs p j r (placed_value value cs) xs)) (drop_all j columns past) (drop_all j bounded end)

  pub reduced_end : (made : List F) → map value made ≡ map value made ++ map (form.directed b) (form.reduced_from costs p r (placed_value value (drop j columns)) (drop j bounded))
  reduced_end made =
      sym (append-nil (map value made)) ∙ sym (ap₂ (λ cs xs. map value made ++ map (form.directed b) (form.reduced_from costs p r (placed_value value cs) xs)) (drop_all j columns past) (drop_all j bounded end))
