-- What the types of the code mean: the standard form of Chvatal, Linear Programming, chapter 1.
use Rattle.std.specs.Prelude.{ℕ, List, map, Some, None}
use Rattle.gq_number.specs.Number.{Number}
use Rattle.lp_core.specs.declared.program.Lp.{Lp}
use Rattle.lp_core.specs.Proofs.{FirstCrossed}
use Rattle.lp_core.specs.StandardForm as form
use Rattle.lp_core.specs.Steps.{FirstStop, standard_steps}
use Rattle.lp_std.specs.declared.types.Shift.{Shift}
use Rattle.lp_std.specs.declared.types.Shift.TheVariants as shift
use Rattle.lp_std.specs.declared.types.Origin.{Origin}
use Rattle.lp_std.specs.declared.types.Origin.TheVariants as origin
use Rattle.lp_std.specs.declared.types.StdRow.{StdRow}
use Rattle.lp_std.specs.declared.types.Standard.{Standard}
use Rattle.lp_std.specs.declared.stop.Stop.{Stop}
use Rattle.lp_std.specs.declared.stop.Stop.TheVariants as stop

-- a column's shift, that is, how variables express the column, with its bound, if any, as the
-- number that it means
abbrev pub shift_value : {F : Type 0} → (F → Number) → Shift F → form.Shift
shift_value value (shift.Lower b) = form.from_lower (value b)
shift_value value (shift.Upper b) = form.from_upper (value b)
shift_value value shift.Free = form.free

-- the origin of a row of the standard form, that is, the row or the column of the program from
-- which it comes, in the terms of the specification
abbrev pub origin_value : Origin → form.RowOrigin
origin_value (origin.Row i) = form.of_row i
origin_value (origin.Negated i) = form.of_negated i
origin_value (origin.Bound j) = form.of_bound j

-- entries, each coefficient as the number that it means
abbrev pub entries_value : {F : Type 0} → (F → Number) → List (ℕ × F) → List (ℕ × Number)
entries_value {F} value entries = map (λ (e : ℕ × F). (e.0, value e.1)) entries

-- a row of the standard form, its right side and coefficients as the numbers that they mean
abbrev pub row_value : {F : Type 0} → (F → Number) → StdRow F → form.StandardRow
row_value value row = record { right = value row.right; entries = entries_value value row.entries; origin = origin_value row.origin }

-- a standard form with the numbers that its values mean; each column's shift, by which variables
-- express the column, gets the number of the first of these variables, from 1
abbrev pub standard_value : {F : Type 0} → (F → Number) → Standard F → form.Standard
standard_value value s =
    record {
      columns = form.numbered 1 (map (shift_value value) s.shifts);
      rows = map (row_value value) s.rows;
      objective = map value s.objective;
      constant = value s.constant;
    }

-- Why a program has no standard form. Crossed: column j is the first whose lower bound is above its
-- upper bound. Limit: no column is such, and this step of the computation is the first that exceeds
-- the limit on the size of numbers. Memory makes no claim.
abbrev pub HasNoForm : {F : Type 0} → (F → Number) → ℕ → Lp F → Stop → Type 0
HasNoForm value limit lp (stop.Limit step) = FirstCrossed value lp.columns None × FirstStop (standard_steps value limit lp) step
HasNoForm value limit lp (stop.Crossed j) = FirstCrossed value lp.columns (Some j)
HasNoForm value limit lp stop.Memory = Unit {0}
