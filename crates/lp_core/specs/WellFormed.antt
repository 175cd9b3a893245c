-- When a linear program is well formed.
use Rattle.std.specs.Prelude.{◌≢◌, ℕ, ◌<◌, ◌≤◌, ◌+◌, pos, List, length, sum_by, Option, Some, None}
use Rattle.std.specs.List.{All, AllPairs}
use Rattle.gq_number.specs.Number.{Number, whole}
use Rattle.lp_core.specs.declared.program.Sense.{Sense}
use Rattle.lp_core.specs.declared.program.Sense.TheVariants as sense
use Rattle.lp_core.specs.declared.program.Column.{Column}
use Rattle.lp_core.specs.declared.program.Row.{Row}
use Rattle.lp_core.specs.declared.program.Lp.{Lp}

-- how many rows of the standard form a row has: an equation has two, a nonbinding row none
abbrev pub rows_of_sense : Sense → ℕ
rows_of_sense sense.E = 2
rows_of_sense sense.L = 1
rows_of_sense sense.G = 1
rows_of_sense sense.N = 0

-- how many rows of the standard form a column's bounds have: one if there are two, else none
abbrev pub rows_of_bounds : {F : Type 0} → Option F → Option F → ℕ
rows_of_bounds (Some lower) (Some upper) = 1
rows_of_bounds lower upper = 0

-- how many variables of the standard form a column has: two without a bound, else one
abbrev pub variables_of_bounds : {F : Type 0} → Option F → Option F → ℕ
variables_of_bounds None None = 2
variables_of_bounds lower upper = 1

-- how many rows of the standard form a list of rows has in all
abbrev pub count_of_rows : {F : Type 0} → List (Row F) → ℕ
count_of_rows {F} rows = sum_by (λ (row : Row F). rows_of_sense row.sense) rows

-- how many rows the standard form has: those of rows, and those of columns with two bounds
abbrev pub standard_rows : {F : Type 0} → Lp F → ℕ
standard_rows {F} lp = count_of_rows lp.rows + sum_by (λ (column : Column F). rows_of_bounds column.lower column.upper) lp.columns

-- how many variables the standard form has, without slacks
abbrev pub standard_columns : {F : Type 0} → Lp F → ℕ
standard_columns {F} lp = sum_by (λ (column : Column F). variables_of_bounds column.lower column.upper) lp.columns

-- The entries of a row ascend by column, name columns below `columns`, and are not 0.
pub record AreRowEntries {F : Type 0} (value : F → Number) (columns : ℕ) (entries : List (ℕ × F)) : Type 0 where
  pub ascending : AllPairs (λ (a b : ℕ × F). a.0 < b.0) entries
  pub there : All (λ (e : ℕ × F). e.0 < columns) entries
  pub not_zero : All (λ (e : ℕ × F). value e.1 ≢ whole (pos 0)) entries

-- A well-formed program: its objective is one of its columns, the keys of columns differ and those
-- of rows too, each row's entries ascend by column, name columns of the program and are not 0, and
-- the standard form has at most 1,500 rows and 3,000 variables, slacks not counted.
pub record IsWellFormed {F : Type 0} (value : F → Number) (lp : Lp F) : Type 0 where
  pub objective : lp.objective < length lp.columns
  pub columns_differ : AllPairs (λ (a b : Column F). a.key ≢ b.key) lp.columns
  pub rows_differ : AllPairs (λ (a b : Row F). a.key ≢ b.key) lp.rows
  pub entries : All (λ (row : Row F). AreRowEntries value (length lp.columns) row.entries) lp.rows
  pub rows_few : standard_rows lp ≤ 1500
  pub columns_few : standard_columns lp ≤ 3000
