-- What the functions of this crate promise each other: the first step that does not fit, and rows
-- over columns with their numbers.
use Rattle.std.specs.Prelude.{◌≡◌, ℕ, ◌+◌, ◌==◌, if◌then◌else◌, pos, true, false, List, [], ◌∷◌, ◌++◌, map, flat_map, length, sum_by, Option, Some, None, Result, Ok, Err, Vec}
use Rattle.std.specs.declared.alloc.Global.{Global}
use Rattle.std.specs.List.{enumerate_from}
use Rattle.gq_number.specs.Number.{Number, whole, ◌-ℚ◌, ◌*ℚ◌, neg_ℚ}
use Rattle.gq_number.specs.Sums.{sum_by_ℚ}
use Rattle.gq_field.specs.Fits.{sum_fits}
use Rattle.lp_core.specs.declared.answer.StepName.{StepName}
use Rattle.lp_core.specs.declared.answer.StepName.TheVariants.{Recover}
use Rattle.lp_core.specs.declared.answer.End.{End}
use Rattle.lp_core.specs.declared.program.Sense.{Sense}
use Rattle.lp_core.specs.declared.program.Row.{Row}
use Rattle.lp_core.specs.declared.program.Column.{Column}
use Rattle.lp_core.specs.declared.program.Lp.{Lp}
use Rattle.lp_core.specs.Feasible.{bound_value}
use Rattle.lp_core.specs.StandardForm as form
use Rattle.lp_core.specs.Sums.{value_of_column}
use Rattle.lp_core.specs.Steps.{ExpectedStep, row_steps, bound_step, difference_fits, count_of_rows}
use Rattle.lp_std.specs.declared.types.Shift.{Shift}
use Rattle.lp_std.specs.declared.types.Shift.TheVariants as shift
use Rattle.lp_std.specs.declared.types.StdRow.{StdRow}
use Rattle.lp_std.specs.declared.types.Final.{Final}
use Rattle.lp_core.specs.declared.answer.EndKind.{EndKind}
use Rattle.lp_core.specs.declared.answer.EndKind.TheVariants as kind
use Rattle.lp_std.specs.declared.stop.Stop.{Stop}
use Rattle.lp_std.specs.declared.stop.Stop.TheVariants as stop
use Rattle.lp_std.specs.Meaning.{shift_value, row_value}

-- the first of these steps that does not fit, if there is one
abbrev pub first_stop : List ExpectedStep → Option StepName
first_stop [] = None
first_stop ((name, true) ∷ steps) = first_stop steps
first_stop ((name, false) ∷ steps) = Some name

-- what stops is the first of these steps that does not fit; out of memory has no cause
abbrev pub StopsAt : List ExpectedStep → Stop → Type 0
StopsAt steps (stop.Limit step) = first_stop steps ≡ Some step
StopsAt steps (stop.Crossed j) = ⊥
StopsAt steps stop.Memory = Unit {0}

-- columns with the numbers of their first variables
abbrev pub placed_value : {F : Type 0} → (F → Number) → List (ℕ × Shift F) → List (ℕ × form.Shift)
placed_value {F} value placed = map (λ (p : ℕ × Shift F). (p.0, shift_value value p.1)) placed

-- the right side of a row with the bounds of its columns taken out, entry by entry
abbrev pub right_after : {F : Type 0} → (F → Number) → List (ℕ × form.Shift) → Number → List (ℕ × F) → Number
right_after value columns right [] = right
right_after value columns right (e ∷ entries) =
    right_after value columns (right -ℚ value e.1 *ℚ form.base (form.column_at columns e.0).1) entries

-- the entries of a row, each column expressed by its variables
abbrev pub spread_entries : {F : Type 0} → (F → Number) → List (ℕ × form.Shift) → List (ℕ × F) → List (ℕ × Number)
spread_entries {F} value columns entries =
    flat_map (λ (e : ℕ × F). form.spread (form.column_at columns e.0).0 (form.column_at columns e.0).1 (value e.1)) entries

-- a row over columns, its sign kept
abbrev pub shifted_over : {F : Type 0} → (F → Number) → List (ℕ × form.Shift) → ℕ → Row F → form.StandardRow
shifted_over {F} value columns i row =
    record {
      right = value row.right -ℚ sum_by_ℚ (λ (e : ℕ × F). value e.1 *ℚ form.base (form.column_at columns e.0).1) row.entries;
      entries = spread_entries value columns row.entries;
      origin = form.of_row i;
    }

-- the rows of the standard form that come from rows, of which the first has place i
abbrev pub rows_over : {F : Type 0} → (F → Number) → List (ℕ × form.Shift) → ℕ → List (Row F) → List form.StandardRow
rows_over {F} value columns i rows =
    flat_map (λ (p : ℕ × Row F). form.rows_by_sense p.1.sense p.0 (shifted_over value columns p.0 p.1)) (enumerate_from i rows)

-- the rows of columns with two bounds, of which the first has place j
abbrev pub bounds_over : {F : Type 0} → (F → Number) → List (ℕ × form.Shift) → ℕ → List (Column F) → List form.StandardRow
bounds_over {F} value columns j bounded =
    flat_map (λ (p : ℕ × Column F). form.bound_rows p.0 (form.column_at columns p.0).0 (bound_value value p.1.lower) (bound_value value p.1.upper)) (enumerate_from j bounded)

-- the bound that a shift counts from, if there is one
abbrev pub bound_of_shift : {F : Type 0} → Shift F → Option F
bound_of_shift (shift.Lower b) = Some b
bound_of_shift (shift.Upper b) = Some b
bound_of_shift shift.Free = None

-- the steps on a row, whose first standard row has number r
abbrev pub sense_steps : {F : Type 0} → (F → Number) → ℕ → List (ℕ × form.Shift) → ℕ → Row F → List ExpectedStep
sense_steps value limit columns r row =
    if form.rows_of_sense row.sense == 0 then [] else row_steps value limit columns r (value row.right) row.entries

-- the row of a column with two bounds, by its right side
abbrev pub bound_row_of : ℕ → ℕ → Number → form.StandardRow
bound_row_of j v right = record { right = right; entries = (v, whole (pos 1)) ∷ []; origin = form.of_bound j }

-- the row of a column with two bounds is appended to the rows, or its step does not fit; other
-- columns add nothing
abbrev pub BoundsPush : {F : Type 0} → (F → Number) → ℕ → ℕ → ℕ → Column F → List (StdRow F) → List (StdRow F) → Result (Unit {0}) Stop → Type 0
BoundsPush value limit j v column old new (Ok u) =
    (first_stop (bound_step limit (length old + 1) j (bound_value value column.lower) (bound_value value column.upper)) ≡ None)
    × (map (row_value value) new ≡ map (row_value value) old ++ form.bound_rows j v (bound_value value column.lower) (bound_value value column.upper))
BoundsPush value limit j v column old new (Err stop) =
    StopsAt (bound_step limit (length old + 1) j (bound_value value column.lower) (bound_value value column.upper)) stop

-- ---- the recovery

-- the result of these steps: the number if all fit, and else the first that does not
abbrev pub Computes : {F : Type 0} → (F → Number) → List ExpectedStep → Number → Result F StepName → Type 0
Computes value steps x (Ok y) = (first_stop steps ≡ None) × (value y ≡ x)
Computes value steps x (Err step) = first_stop steps ≡ Some step

-- the result of these steps for a list of numbers
abbrev pub ComputesAll : {F : Type 0} → (F → Number) → List ExpectedStep → List Number → Result (Vec F Global) Stop → Type 0
ComputesAll value steps xs (Ok ys) = (first_stop steps ≡ None) × (map value ys.items ≡ xs)
ComputesAll value steps xs (Err stop) = StopsAt steps stop

-- the multiplier of a row of the standard form, by the coefficients of the slacks alone
abbrev pub slack_multiplier : {F : Type 0} → (F → Number) → List F → ℕ → Number
slack_multiplier value slacks r = neg_ℚ (value_of_column (map value slacks) r)

-- the step on the dual of row i of this sense, whose first standard row has place r
abbrev pub dual_step : ℕ → (ℕ → Number) → ℕ → ℕ → Sense → List ExpectedStep
dual_step limit p i r sense = if form.rows_of_sense sense == 2 then (Recover 2 i 0 1, difference_fits limit (p r) (p (r + 1))) ∷ [] else []

-- the step on the reduced cost of column j, whose first variable is v and whose standard row has
-- place r
abbrev pub reduced_step : {F : Type 0} → ℕ → List Number → (ℕ → Number) → ℕ → ℕ → ℕ → Option F → Option F → List ExpectedStep
reduced_step limit costs p j v r lower upper = if form.rows_of_bounds lower upper == 1 then (Recover 3 j 0 1, sum_fits limit (value_of_column costs v) (p r)) ∷ [] else []

-- the result of these steps for an end with this property
abbrev pub ComputesEnd : {F : Type 0} → List ExpectedStep → (End F → Type 0) → Result (End F) Stop → Type 0
ComputesEnd steps P (Ok end) = (first_stop steps ≡ None) × P end
ComputesEnd steps P (Err stop) = StopsAt steps stop

-- as many as there are variables of the program's standard form with its slacks and variable 0
abbrev pub IsSized : {F : Type 0} → (F → Number) → Lp F → ℕ → Type 0
IsSized {F} value lp n = n ≡ form.variables_of value lp + (count_of_rows lp.rows + sum_by (λ (column : Column F). form.rows_of_bounds column.lower column.upper) lp.columns) + 1

-- there is a ray if the end is Unbounded
abbrev pub HasRay : EndKind → Type 0 → Type 0
HasRay kind.Unbounded P = P
HasRay other P = Unit {0}

-- the lists of a final dictionary have an entry for each variable
abbrev pub AreSized : {F : Type 0} → (F → Number) → Lp F → Final F → Type 0
AreSized value lp final = IsSized value lp (length final.values) × IsSized value lp (length final.costs) × HasRay final.kind (IsSized value lp (length final.ray))
