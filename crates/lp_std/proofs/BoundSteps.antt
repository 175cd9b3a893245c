-- The rows of columns with two bounds, as the code makes them one by one.
use Rattle.std.proofs.Common.{◌≡◌, ℕ, ◌+◌, ◌<◌, List, ◌++◌, length, map, get_or, drop, Option, Some, None, refl, sym, ap, ap₂, ◌∙◌, subst, append_assoc}
use Rattle.std.specs.Prelude.{sum_by}
use Rattle.std.proofs.lemmas.List.{length-map, length-append}
use Rattle.std.proofs.lemmas.List.Sums.{sum_by-cons}
use Rattle.gq_number.specs.Number.{Number}
use Rattle.lp_core.specs.declared.program.Column.{Column}
use Rattle.lp_core.specs.Feasible.{bound_value}
use Rattle.lp_core.specs.StandardForm as form
use Rattle.lp_core.specs.Steps.{ExpectedStep, bound_step, bounds_steps}
use Rattle.lp_form.proofs.LoopSteps.{drop_item}
use Rattle.lp_std.specs.declared.types.Shift.{Shift}
use Rattle.lp_std.specs.declared.types.StdRow.{StdRow}
use Rattle.lp_std.specs.declared.stop.Stop.{Stop}
use Rattle.lp_std.specs.Meaning.{row_value}
use Rattle.lp_std.specs.InnerSteps.{first_stop, StopsAt, placed_value, bounds_over}
use Rattle.lp_std.proofs.Stops.{stop_after}
use Rattle.lp_std.proofs.LoopSteps.{column_at-map}
use Rattle.lp_std.proofs.RowSteps.{stops_in_prefix}

pub counted_by_bounds : {F : Type 0} (value : F → Number) (j v : ℕ) (lower upper : Option F) → length (form.bound_rows j v (bound_value value lower) (bound_value value upper)) ≡ form.rows_of_bounds lower upper
counted_by_bounds value j v (Some l) (Some u) = refl
counted_by_bounds value j v (Some l) None = refl
counted_by_bounds value j v None (Some u) = refl
counted_by_bounds value j v None None = refl

module _ {F : Type 0} (value : F → Number) (limit : ℕ) (columns : List (ℕ × Shift F)) (bounded : List (Column F)) (j : ℕ) (column : Column F) (p : ℕ × Shift F) (here : j < length bounded) (is : column ≡ get_or bounded j column) (there : j < length columns) (p_is : p ≡ get_or columns j p) where
  abbrev step : ℕ → List ExpectedStep
  step r = bound_step limit r j (bound_value value column.lower) (bound_value value column.upper)

  abbrev row_there : List form.StandardRow
  row_there = form.bound_rows j p.0 (bound_value value column.lower) (bound_value value column.upper)

  pub bounds_stop : (r : ℕ) (s : Stop) → StopsAt (step r) s → StopsAt (bounds_steps value limit r j (drop j bounded)) s
  bounds_stop r s h =
      subst (λ xs. StopsAt (bounds_steps value limit r j xs) s) (sym (drop_item bounded j column here is)) (stops_in_prefix (step r) (bounds_steps value limit (r + form.rows_of_bounds column.lower column.upper) (j + 1) (drop (j + 1) bounded)) s h)

  pub bounds_go : (r : ℕ) → first_stop (step r) ≡ None → first_stop (bounds_steps value limit r j (drop j bounded)) ≡ first_stop (bounds_steps value limit (r + form.rows_of_bounds column.lower column.upper) (j + 1) (drop (j + 1) bounded))
  bounds_go r h =
      ap (λ xs. first_stop (bounds_steps value limit r j xs)) (drop_item bounded j column here is)
      ∙ stop_after (step r) (bounds_steps value limit (r + form.rows_of_bounds column.lower column.upper) (j + 1) (drop (j + 1) bounded)) h

  pub bounds_count : sum_by (λ (c : Column F). form.rows_of_bounds c.lower c.upper) (drop j bounded) ≡ form.rows_of_bounds column.lower column.upper + sum_by (λ (c : Column F). form.rows_of_bounds c.lower c.upper) (drop (j + 1) bounded)
  bounds_count = ap (sum_by (λ (c : Column F). form.rows_of_bounds c.lower c.upper)) (drop_item bounded j column here is) ∙ sum_by-cons (λ (c : Column F). form.rows_of_bounds c.lower c.upper) column (drop (j + 1) bounded)

  module _ (old new : List (StdRow F)) (h : map (row_value value) new ≡ map (row_value value) old ++ row_there) where
    pub bounds_length : length new ≡ length old + form.rows_of_bounds column.lower column.upper
    bounds_length =
        sym (length-map new (row_value value)) ∙ ap length h ∙ length-append (map (row_value value) old) row_there
        ∙ ap₂ (λ a b. a + b) (length-map old (row_value value)) (counted_by_bounds value j p.0 column.lower column.upper)

    pub bounds_made : map (row_value value) new ++ bounds_over value (placed_value value columns) (j + 1) (drop (j + 1) bounded) ≡ map (row_value value) old ++ bounds_over value (placed_value value columns) j (drop j bounded)
    bounds_made =
        let placed = form.bound_rows j (form.column_at (placed_value value columns) j).0 (bound_value value column.lower) (bound_value value column.upper) in
        ap (λ ys. ys ++ bounds_over value (placed_value value columns) (j + 1) (drop (j + 1) bounded)) (h ∙ ap (λ (c : ℕ × form.Shift). map (row_value value) old ++ form.bound_rows j c.0 (bound_value value column.lower) (bound_value value column.upper)) (sym (column_at-map value columns j p there p_is)))
        ∙ append_assoc (map (row_value value) old) placed (bounds_over value (placed_value value columns) (j + 1) (drop (j + 1) bounded))
        ∙ sym (ap (λ xs. map (row_value value) old ++ bounds_over value (placed_value value columns) j xs) (drop_item bounded j column here is))
