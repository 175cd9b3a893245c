-- The rows of a dictionary followed by the objective, before and after an exchange. All columns are
-- below `high`.
use Rattle.std.specs.Prelude.{◌≡◌, ◌≢◌, ◌⊎◌, ℕ, ◌+◌, ◌<◌, ◌==◌, not, List, [], map, filter, length, slice_index_or, Result, IfOk, IfErr, Vec, if◌then◌else◌}
use Rattle.std.specs.declared.alloc.Global.{Global}
use Rattle.gq_number.specs.Number.{Number}
use Rattle.lp_core.specs.declared.answer.StepName.TheVariants.{Exchange}
use Rattle.lp_std.specs.declared.stop.Stop.{Stop}
use Rattle.lp_std.specs.declared.stop.Stop.TheVariants as stop
use Rattle.lp_fraction_dict.specs.declared.row.Entry.{Entry}
use Rattle.lp_fraction_dict.specs.declared.fault.Part.{Part}
use Rattle.lp_fraction_dict.specs.declared.fault.Part.TheVariants as part
use Rattle.lp_fraction_dict.specs.declared.fault.RowFault.{RowFault}
use Rattle.lp_fraction_dict.specs.declared.fault.RowFault.TheVariants as fault
use Rattle.lp_fraction_dict.specs.declared.fault.LineFault.{LineFault}
use Rattle.lp_fraction_dict.specs.declared.fault.LineFault.TheVariants as line_fault_of
use Rattle.lp_fraction_dict.specs.Rows.{number_in, StepsFit, IsLessened, IsFirstMisfit, IsDivided, IsFirstUndivided}

-- the entries of each of these rows
abbrev pub entries_of_rows : {F : Type 0} → List (Vec (Entry F) Global) → List (List (Entry F))
entries_of_rows rows = map (λ row. row.items) rows

-- row i, or the objective if i is past the last row
abbrev pub line : {F : Type 0} → List (List (Entry F)) → List (Entry F) → ℕ → List (Entry F)
line rows objective i = slice_index_or rows i objective

-- the last number of `Exchange`, the name of a step in a pivot: 0 for a product or a quotient, 1
-- for a difference
abbrev pub part_number : Part → ℕ
part_number part.Product = 0
part_number part.Difference = 1

-- the fault of row i, with the number of the row added unless it is out of memory
abbrev pub line_fault : ℕ → RowFault → LineFault
line_fault i (fault.Limit column p) = line_fault_of.Limit i column p
line_fault i fault.Memory = line_fault_of.Memory

-- Q holds of the row, the column and the part of the step that does not fit; out of memory makes no
-- claim
abbrev pub InLine : (ℕ → ℕ → Part → Type 0) → LineFault → Type 0
InLine Q (line_fault_of.Limit i column p) = Q i column p
InLine Q line_fault_of.Memory = Unit {0}

-- Ok: P holds of the value. Err: Q holds of the row, the column and the part of the step that does
-- not fit; out of memory makes no claim.
abbrev pub OnLine : {T : Type 0} → (T → Type 0) → (ℕ → ℕ → Part → Type 0) → Result T LineFault → Type 0
OnLine P Q r = IfOk r P × IfErr r (InLine Q)

-- the stop of the exchange in the pivot with this number, by its fault: for a step that does not
-- fit, Limit with the step's name, which has the pivot's number, the row from 1, the column, and
-- the number of the step's part (`part_number`); else Memory, out of memory
abbrev pub stop_of : ℕ → LineFault → Stop
stop_of pivot (line_fault_of.Limit i column p) = stop.Limit (Exchange pivot (i + 1) column (part_number p))
stop_of pivot line_fault_of.Memory = stop.Memory

-- let `row` less its number at `column` times the pivot row be computed: each step, at every column
-- c the product and the difference, fits under the limit of numerators and denominators
abbrev pub LineFits : {F : Type 0} → (F → Number) → ℕ → ℕ → List (Entry F) → List (Entry F) → Type 0
LineFits value limit column pivot_row row =
    (c : ℕ) → StepsFit limit (number_in value row c) (number_in value row column) (number_in value pivot_row c)

-- Each row of `after` is the row of `before` at the same index less that row's number at `column`
-- times the pivot row, and each product and difference of this fits under the limit of numerators
-- and denominators. The columns of `after` are below `high`.
pub record AreExchanged {F : Type 0} (value : F → Number) (limit high column : ℕ) (pivot_row : List (Entry F)) (before after : List (List (Entry F))) : Type 0 where
  pub sized : length after ≡ length before
  pub each : (i : ℕ) → i < length before → IsLessened value limit high (slice_index_or before i []) (number_in value (slice_index_or before i []) column) pivot_row (slice_index_or after i [])

-- From each row of `before` the pivot row, times the row's number at `column`, is subtracted. The
-- first step with a numerator or denominator above `limit` is in row i at the column `at`, below
-- `high`; p says whether it is a product or a difference. All steps of the rows before row i fit.
pub record IsFirstLine {F : Type 0} (value : F → Number) (limit high column : ℕ) (pivot_row : List (Entry F)) (before : List (List (Entry F))) (i at : ℕ) (p : Part) : Type 0 where
  pub within : i < length before
  pub fit : (j : ℕ) → j < i → LineFits value limit column pivot_row (slice_index_or before j [])
  pub here : IsFirstMisfit value limit high (slice_index_or before i []) (number_in value (slice_index_or before i []) column) pivot_row at p

-- The exchange at `place` and `column`: the row at `place` is divided by its number at `column`;
-- from each other row its number at `column` times the divided row is subtracted. All numerators
-- and denominators of the results are at most `limit`. `before` and `after` give each row by its
-- index; the columns of `after` are below `high`.
pub record IsTurned {F : Type 0} (value : F → Number) (limit high : ℕ) (before : ℕ → List (Entry F)) (place column : ℕ) (after : ℕ → List (Entry F)) : Type 0 where
  pub divided : IsDivided value limit high (before place) (number_in value (before place) column) (after place)
  pub others : (i : ℕ) → i ≢ place → IsLessened value limit high (before i) (number_in value (before i) column) (after place) (after i)

-- In the exchange of the row at `place` and the column `column`, all quotients of this row fit
-- under the limit of numerators and denominators. The first step that does not fit is in another
-- row, i, at the column `at`, below `high`; p says whether it is a product or a difference.
-- `pivot_row` is the row at `place` divided by its number at `column`.
pub record IsStoppedInOtherLine {F : Type 0} (value : F → Number) (limit high : ℕ) (before : ℕ → List (Entry F)) (place column i at : ℕ) (p : Part) : Type 0 where
  pub pivot_row : List (Entry F)
  pub divided : IsDivided value limit high (before place) (number_in value (before place) column) pivot_row
  pub other : i ≢ place
  pub fit : (j : ℕ) → j < i → j ≢ place → LineFits value limit column pivot_row (before j)
  pub here : IsFirstMisfit value limit high (before i) (number_in value (before i) column) pivot_row at p

-- in the exchange of the row at `place` and the column `column`, the first step with a numerator or
-- denominator above `limit` is in row i at the column `at`, below `high`: a quotient of the row at
-- `place`, or, if none of these is, a product or difference of another row. p says which; it is
-- Product for a quotient too. `before` has the rows before the exchange, each with `high` columns
abbrev pub IsFirstTurn : {F : Type 0} → (F → Number) → ℕ → ℕ → (ℕ → List (Entry F)) → ℕ → ℕ → ℕ → ℕ → Part → Type 0
IsFirstTurn value limit high before place column i at p =
    ((i ≡ place) × IsFirstUndivided value limit high (before place) (number_in value (before place) column) at p)
    ⊎ IsStoppedInOtherLine value limit high before place column i at p

-- a row without its entry in this column
abbrev pub without : {F : Type 0} → ℕ → List (Entry F) → List (Entry F)
without {F} column row = filter (λ (e : Entry F). not (e.column == column)) row

-- what is kept of a row that results from an exchange in which the variable `leave` leaves: if that
-- is variable 0, the row without its entry in column 1, the column of variable 0; else the whole
-- row
abbrev pub kept_after : {F : Type 0} → ℕ → List (Entry F) → List (Entry F)
kept_after leave row = if leave == 0 then without 1 row else row
