-- The rows of a standard form, from those of the program's rows and of its columns.
use Rattle.std.proofs.Common.{◌≡◌, ℕ, ◌+◌, ◌≤◌, ◌<◌, pos, List, ◌++◌, length, map, get_or, None, sym, ap, ap₂, ◌∙◌, subst, arith}
use Rattle.std.specs.Prelude.{sum_by, Result, Ok, Err}
use Rattle.std.specs.Result.{IfOk, IfErr}
use Rattle.gq_number.specs.Number.{Number, whole}
use Rattle.lp_core.specs.declared.program.Column.{Column}
use Rattle.lp_core.specs.Proofs.{FirstCrossed}
use Rattle.lp_core.specs.declared.program.Row.{Row}
use Rattle.lp_core.specs.declared.program.Lp.{Lp}
use Rattle.lp_core.specs.StandardForm as form
use Rattle.lp_core.specs.Steps.{AllFit, rows_steps, bounds_steps, count_of_rows, standard_steps}
use Rattle.lp_core.specs.WellFormed.{IsWellFormed}
use Rattle.lp_std.specs.declared.types.Shift.{Shift}
use Rattle.lp_std.specs.declared.types.StdRow.{StdRow}
use Rattle.lp_std.specs.declared.stop.Stop.{Stop}
use Rattle.lp_std.specs.Meaning.{shift_value, row_value, standard_value, HasNoForm}
use Rattle.lp_std.specs.InnerSteps.{first_stop, StopsAt, placed_value, rows_over, bounds_over}
use Rattle.lp_std.specs.declared.stop.Stop.TheVariants as stop
use Rattle.lp_std.proofs.Stops.{stop_after, all_fit, stops_first}
use Rattle.lp_std.proofs.RowSteps.{stops_on, stops_in_prefix}
use Rattle.lp_std.proofs.Shapes.{shift_for, rows_few}
use Rattle.lp_std.proofs.LoopSteps.{column_at-map}

module _ {F : Type 0} (value : F → Number) (limit : ℕ) (lp : Lp F) (columns : List (ℕ × Shift F)) (numbered : placed_value value columns ≡ form.columns_of value lp) (rows : List (Row F)) (rows_are : rows ≡ lp.rows) where
  pub rows_stopped : (s : Stop) → StopsAt (rows_steps value limit (placed_value value columns) 1 rows) s → StopsAt (standard_steps value limit lp) s
  rows_stopped s h =
      stops_in_prefix (rows_steps value limit (form.columns_of value lp) 1 lp.rows) (bounds_steps value limit (1 + count_of_rows lp.rows) 0 lp.columns) s
      (subst (λ cs. StopsAt (rows_steps value limit cs 1 lp.rows) s) numbered (subst (λ rs. StopsAt (rows_steps value limit (placed_value value columns) 1 rs) s) rows_are h))

  module _ (made : List (StdRow F)) (fit : first_stop (rows_steps value limit (placed_value value columns) 1 rows) ≡ None) (are : map (row_value value) made ≡ rows_over value (placed_value value columns) 0 rows) (counted : length made ≡ count_of_rows rows) (bounded : List (Column F)) (bounded_are : bounded ≡ lp.columns) where
    rows_fit : first_stop (rows_steps value limit (form.columns_of value lp) 1 lp.rows) ≡ None
    rows_fit = subst (λ cs. first_stop (rows_steps value limit cs 1 lp.rows) ≡ None) numbered (subst (λ rs. first_stop (rows_steps value limit (placed_value value columns) 1 rs) ≡ None) rows_are fit)

    same_count : length made + 1 ≡ 1 + count_of_rows lp.rows
    same_count = omega (arith, counted, ap count_of_rows rows_are)

    same_stop : first_stop (standard_steps value limit lp) ≡ first_stop (bounds_steps value limit (length made + 1) 0 bounded)
    same_stop =
        stop_after (rows_steps value limit (form.columns_of value lp) 1 lp.rows) (bounds_steps value limit (1 + count_of_rows lp.rows) 0 lp.columns) rows_fit
        ∙ ap₂ (λ n cs. first_stop (bounds_steps value limit n 0 cs)) (sym same_count) (sym bounded_are)

    pub bound_left : IsWellFormed value lp → length made + sum_by (λ (column : Column F). form.rows_of_bounds column.lower column.upper) bounded ≤ 1500
    bound_left formed = omega (arith, counted, ap count_of_rows rows_are, ap (sum_by (λ (column : Column F). form.rows_of_bounds column.lower column.upper)) bounded_are, rows_few value lp formed)

    pub bounds_stopped : (s : Stop) → StopsAt (bounds_steps value limit (length made + 1) 0 bounded) s → StopsAt (standard_steps value limit lp) s
    bounds_stopped s h = stops_on (standard_steps value limit lp) (bounds_steps value limit (length made + 1) 0 bounded) s same_stop h

    pub all_made : (all : List (StdRow F)) → (first_stop (bounds_steps value limit (length made + 1) 0 bounded) ≡ None) × (map (row_value value) all ≡ map (row_value value) made ++ bounds_over value (placed_value value columns) 0 bounded) → (first_stop (standard_steps value limit lp) ≡ None) × (map (row_value value) all ≡ form.rows_of value lp)
    all_made all h = (
      same_stop ∙ h.0,
      h.1 ∙ ap₂ (λ xs ys. xs ++ ys) (are ∙ ap₂ (λ cs rs. rows_over value cs 0 rs) numbered rows_are) (ap₂ (λ cs bs. bounds_over value cs 0 bs) numbered bounded_are),
    )

-- the parts of a standard form together
module _ {F : Type 0} (value : F → Number) (lp : Lp F) (shifts : List (Shift F)) (are : map (shift_value value) shifts ≡ map (shift_for value) lp.columns) (columns : List (ℕ × Shift F)) (numbered : placed_value value columns ≡ form.columns_of value lp) (place : ℕ × Shift F) (here : lp.objective < length columns) (place_is : place ≡ get_or columns lp.objective place) where
  -- the column that is the objective
  objective_column : (place.0, shift_value value place.1) ≡ form.column_at (form.columns_of value lp) lp.objective
  objective_column = sym (column_at-map value columns lp.objective place here place_is) ∙ ap (λ cs. form.column_at cs lp.objective) numbered

  pub standard_is : (rows : List (StdRow F)) (objective : List F) (constant : F) (count : ℕ) → map (row_value value) rows ≡ form.rows_of value lp → count ≡ form.variables_of value lp → map value objective ≡ form.objective_of count (form.spread place.0 (shift_value value place.1) (form.directed lp.maximize (whole (pos 1)))) → value constant ≡ form.directed lp.maximize (form.base (shift_value value place.1)) → standard_value value (record { shifts = shifts; rows = rows; objective = objective; constant = constant }) ≡ form.standard_form value lp
  standard_is rows objective constant count rows_are counted objective_is constant_is =
      let all : map value objective ≡ form.objective_of (form.variables_of value lp) (form.spread (form.column_at (form.columns_of value lp) lp.objective).0 (form.column_at (form.columns_of value lp) lp.objective).1 (form.directed lp.maximize (whole (pos 1)))) =
      objective_is ∙ ap₂ (λ n (c : ℕ × form.Shift). form.objective_of n (form.spread c.0 c.1 (form.directed lp.maximize (whole (pos 1))))) counted objective_column in
      let base : value constant ≡ form.directed lp.maximize (form.base (form.column_at (form.columns_of value lp) lp.objective).1) = constant_is ∙ ap (λ (c : ℕ × form.Shift). form.directed lp.maximize (form.base c.1)) objective_column in
      λ t. record { columns = form.numbered 1 (are t); rows = rows_are t; objective = all t; constant = base t }

-- ---- the whole, where no bounds cross

module _ {F : Type 0} (value : F → Number) (limit : ℕ) (lp : Lp F) (none : FirstCrossed value lp.columns None) where
  stop_is : (s : Stop) → StopsAt (standard_steps value limit lp) s → HasNoForm value limit lp s
  stop_is (stop.Limit step) h = (none, stops_first (standard_steps value limit lp) step h)
  stop_is (stop.Crossed j) h = absurd h
  stop_is stop.Memory h = tt

  pub no_form : {T : Type 0} (r : Result T Stop) → IfErr r (StopsAt (standard_steps value limit lp)) → IfErr r (HasNoForm value limit lp)
  no_form (Ok s) h = tt
  no_form (Err s) h = stop_is s h

  pub form_fits : {T : Type 0} (r : Result T Stop) → IfOk r (λ s. first_stop (standard_steps value limit lp) ≡ None) → IfOk r (λ s. AllFit (standard_steps value limit lp))
  form_fits (Ok s) h = all_fit (standard_steps value limit lp) h
  form_fits (Err s) h = tt
