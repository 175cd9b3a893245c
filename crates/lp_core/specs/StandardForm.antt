-- The standard form of a program, and the recovery of its answer. A standard form has variables
-- that are at least 0, rows that are at most their right sides, and an objective to maximize
-- (Chvatal, Linear Programming, chapter 1).
use Rattle.std.specs.Prelude.{ℕ, ◌+◌, ◌==◌, Bool, true, false, pos, List, [], ◌∷◌, ◌++◌, map, flat_map, slice_index_or, sum_by, Option, Some, None, if◌then◌else◌}
use Rattle.std.specs.List.{enumerate_from, range_with_len}
use Rattle.gq_number.specs.Number.{Number, whole, ◌+ℚ◌, ◌-ℚ◌, ◌*ℚ◌, neg_ℚ}
use Rattle.gq_number.specs.Sums.{sum_by_ℚ}
use Rattle.lp_core.specs.declared.program.Sense.{Sense}
use Rattle.lp_core.specs.declared.program.Sense.TheVariants as sense
use Rattle.lp_core.specs.declared.program.Column.{Column}
use Rattle.lp_core.specs.declared.program.Row.{Row}
use Rattle.lp_core.specs.declared.program.Lp.{Lp}
use Rattle.lp_core.specs.Sums.{value_of_column}
use Rattle.lp_core.specs.Feasible.{bound_value}
-- passed on: how many rows of the standard form a row, a column and a list of rows have
pub use Rattle.lp_core.specs.WellFormed.{rows_of_sense, rows_of_bounds, count_of_rows}

-- How variables that are at least 0 express a column: as its lower bound plus a variable, as its
-- upper bound less a variable, or as the difference of two variables.
pub data Shift : Type 0 where
  from_lower : Number → Shift
  from_upper : Number → Shift
  free : Shift

-- the origin of a row of the standard form: a row of the program, as it is or negated, or a column
-- with two bounds; each by its number from 0
pub data RowOrigin : Type 0 where
  of_row : ℕ → RowOrigin
  of_negated : ℕ → RowOrigin
  of_bound : ℕ → RowOrigin

-- A row of the standard form: the sum of the coefficients, each times its variable, is at most the
-- right side. An entry is a variable's number and its coefficient.
pub record StandardRow : Type 0 where
  pub right : Number
  pub entries : List (ℕ × Number)
  pub origin : RowOrigin

-- A program in standard form: for each column the number of its first variable, and its shift,
-- which says how variables that are at least 0 express the column; the rows; and the objective to
-- maximize, a constant and a coefficient for each variable from 1.
pub record Standard : Type 0 where
  pub columns : List (ℕ × Shift)
  pub rows : List StandardRow
  pub objective : List Number
  pub constant : Number

-- how variables that are at least 0 express a column with these bounds: from its lower bound if it
-- has one, else from its upper bound, else as the difference of two variables
abbrev pub shift_of : Option Number → Option Number → Shift
shift_of (Some lower) upper = from_lower lower
shift_of None (Some upper) = from_upper upper
shift_of None None = free

-- how many variables express a column with this shift
abbrev pub width : Shift → ℕ
width (from_lower b) = 1
width (from_upper b) = 1
width free = 2

-- the bound b of a column with this shift, which is b plus or less a variable; 0 if the column is
-- free
abbrev pub base : Shift → Number
base (from_lower b) = b
base (from_upper b) = b
base free = whole (pos 0)

-- each column's shift, by which variables express the column, with the number of the first of these
-- variables; this number is n for the first column
abbrev pub numbered : ℕ → List Shift → List (ℕ × Shift)
numbered n [] = []
numbered n (s ∷ shifts) = (n, s) ∷ numbered (n + width s) shifts

-- the coefficient a of a column as coefficients of the variables that express it, of which v is the
-- first
abbrev pub spread : ℕ → Shift → Number → List (ℕ × Number)
spread v (from_lower b) a = (v, a) ∷ []
spread v (from_upper b) a = (v, neg_ℚ a) ∷ []
spread v free a = (v, a) ∷ (v + 1, neg_ℚ a) ∷ []

-- the value of a column with this shift whose first variable is v, from the values y of all
-- variables by number
abbrev pub shifted_back : ℕ × Shift → List Number → Number
shifted_back (v, from_lower b) y = b +ℚ value_of_column y v
shifted_back (v, from_upper b) y = b -ℚ value_of_column y v
shifted_back (v, free) y = value_of_column y v -ℚ value_of_column y (v + 1)

-- the value of each column, from the values y of all variables by number
abbrev pub point_of : Standard → List Number → List Number
point_of s y = map (λ column. shifted_back column y) s.columns

-- the standard row r of the program's row i, times -1
abbrev pub negated_row : ℕ → StandardRow → StandardRow
negated_row i r = record { right = neg_ℚ r.right; entries = map (λ e. (e.0, neg_ℚ e.1)) r.entries; origin = of_negated i }

-- the rows of the standard form for row i of the program, whose standard row is r, by its sense: r
-- for an upper limit, the negated r for a lower one, both for an equation, none for a nonbinding
-- row
abbrev pub rows_by_sense : Sense → ℕ → StandardRow → List StandardRow
rows_by_sense sense.E i r = r ∷ negated_row i r ∷ []
rows_by_sense sense.L i r = r ∷ []
rows_by_sense sense.G i r = negated_row i r ∷ []
rows_by_sense sense.N i r = []

-- the row of column j if it has two bounds: the column's first variable, v, is at most the upper
-- bound less the lower one
abbrev pub bound_rows : ℕ → ℕ → Option Number → Option Number → List StandardRow
bound_rows j v (Some lower) (Some upper) = record { right = upper -ℚ lower; entries = (v, whole (pos 1)) ∷ []; origin = of_bound j } ∷ []
bound_rows j v lower upper = []

-- a number, negated if the objective is to be minimized (false)
abbrev pub directed : Bool → Number → Number
directed true x = x
directed false x = neg_ℚ x

-- the number of the first variable of column j, and its shift, by which variables express the
-- column; past the last column variable 0 and the shift of a free column
abbrev pub column_at : List (ℕ × Shift) → ℕ → ℕ × Shift
column_at columns j = slice_index_or columns j (0, free)

-- the objective's coefficients of the variables from 1 to `count`, each the sum of the variable's
-- entries
abbrev pub objective_of : ℕ → List (ℕ × Number) → List Number
objective_of count entries =
    map (λ v. sum_by_ℚ (λ e. if e.0 == v then e.1 else whole (pos 0)) entries) (range_with_len 1 count)

module _ {F : Type 0} (value : F → Number) (lp : Lp F) where
  -- for each column the number, from 1, of the first variable that expresses it, and its shift,
  -- which says how variables do so
  abbrev pub columns_of : List (ℕ × Shift)
  columns_of = numbered 1 (map (λ (column : Column F). shift_of (bound_value value column.lower) (bound_value value column.upper)) lp.columns)

  -- row i of the program as a row of the standard form, not negated: variables replace each column,
  -- which is its bound (`base`) plus or less a variable, or the difference of two variables; from
  -- the right side each coefficient times this bound, 0 for a free column, is subtracted
  abbrev pub shifted_row : ℕ → Row F → StandardRow
  shifted_row i r =
      record {
        right = value r.right -ℚ sum_by_ℚ (λ (e : ℕ × F). value e.1 *ℚ base (column_at columns_of e.0).1) r.entries;
        entries = flat_map (λ (e : ℕ × F). spread (column_at columns_of e.0).0 (column_at columns_of e.0).1 (value e.1)) r.entries;
        origin = of_row i;
      }

  -- the rows of the standard form: first those of the program's rows, then those of columns with
  -- two bounds
  abbrev pub rows_of : List StandardRow
  rows_of =
      flat_map (λ (p : ℕ × Row F). rows_by_sense p.1.sense p.0 (shifted_row p.0 p.1)) (enumerate_from 0 lp.rows)
      ++ flat_map (λ (p : ℕ × Column F). bound_rows p.0 (column_at columns_of p.0).0 (bound_value value p.1.lower) (bound_value value p.1.upper)) (enumerate_from 0 lp.columns)

  -- how many variables the standard form has, without slacks
  abbrev pub variables_of : ℕ
  variables_of = sum_by (λ (p : ℕ × Shift). width p.1) columns_of

  -- the standard form of a program. Its objective is the column that the program optimizes, negated
  -- if the program minimizes, as a constant and coefficients of variables
  abbrev pub standard_form : Standard
  standard_form =
      let z : ℕ × Shift = column_at columns_of lp.objective in
      record {
        columns = columns_of;
        rows = rows_of;
        objective = objective_of variables_of (spread z.0 z.1 (directed lp.maximize (whole (pos 1))));
        constant = directed lp.maximize (base z.1);
      }

-- ---- the recovery

-- What is read from a final dictionary, for all variables from number 0, the artificial variable of
-- phase 1: their values; their coefficients (`costs`, 0 for a basic variable) in the objective, or
-- in the row of variable 0 if the program is infeasible; and, if the program is unbounded, their
-- changes along a ray, else the empty list.
pub record Last : Type 0 where
  pub values : List Number
  pub costs : List Number
  pub changes : List Number

-- the multiplier of row r of the standard form, from 0: the negated coefficient, in `costs`, of the
-- row's slack, which is variable `variables` + 1 + r; `variables` is the number of variables
-- without slacks
abbrev pub multiplier : ℕ → List Number → ℕ → Number
multiplier variables costs r = neg_ℚ (value_of_column costs (variables + 1 + r))

-- the dual of a program's row by its sense, from the multipliers p of the standard form's rows; r
-- is the first of these that belongs to the row
abbrev pub dual_by_sense : Sense → (ℕ → Number) → ℕ → Number
dual_by_sense sense.E p r = p r -ℚ p (r + 1)
dual_by_sense sense.L p r = p r
dual_by_sense sense.G p r = neg_ℚ (p r)
dual_by_sense sense.N p r = whole (pos 0)

-- the duals of these rows, from the multipliers p of the standard form's rows; r is the index of
-- the first row of the standard form that belongs to the first of these rows
abbrev pub duals_from : {F : Type 0} → (ℕ → Number) → ℕ → List (Row F) → List Number
duals_from p r [] = []
duals_from p r (row ∷ rows) = dual_by_sense row.sense p r ∷ duals_from p (r + rows_of_sense row.sense) rows

-- the reduced cost of a column by its bounds, from the final coefficients `costs` of all variables
-- and the multipliers p of the standard form's rows; v is the column's first variable, and r the
-- row of the column if it has two bounds
abbrev pub reduced_by_bounds : {B : Type 0} → List Number → (ℕ → Number) → ℕ → ℕ → Option B → Option B → Number
reduced_by_bounds costs p v r (Some lower) (Some upper) = value_of_column costs v +ℚ p r
reduced_by_bounds costs p v r (Some lower) None = value_of_column costs v
reduced_by_bounds costs p v r None (Some upper) = neg_ℚ (value_of_column costs v)
reduced_by_bounds costs p v r None None = whole (pos 0)

-- the reduced costs of these columns, from the coefficients `costs` of all variables in the
-- objective of the final dictionary, and the multipliers p of the standard form's rows. `shifts`
-- has, for each column, the number of its first variable and its shift; r is the index of the
-- standard form's row for the bounds of the first column that has two
abbrev pub reduced_from : {F : Type 0} → List Number → (ℕ → Number) → ℕ → List (ℕ × Shift) → List (Column F) → List Number
reduced_from costs p r [] columns = []
reduced_from costs p r (s ∷ shifts) [] = []
reduced_from costs p r (s ∷ shifts) (column ∷ columns) =
    reduced_by_bounds costs p s.0 r column.lower column.upper ∷ reduced_from costs p (r + rows_of_bounds column.lower column.upper) shifts columns

-- the change of a column with this shift whose first variable is v, from the changes of all
-- variables along a ray
abbrev pub changed_back : ℕ × Shift → List Number → Number
changed_back (v, from_lower b) changes = value_of_column changes v
changed_back (v, from_upper b) changes = neg_ℚ (value_of_column changes v)
changed_back (v, free) changes = value_of_column changes v -ℚ value_of_column changes (v + 1)

module _ {F : Type 0} (value : F → Number) (lp : Lp F) (last : Last) where
  -- the value of each column, from the values of the variables in the final dictionary (`last`)
  abbrev pub levels_back : List Number
  levels_back = point_of (standard_form value lp) last.values

  -- the dual of each row at an optimum. It results by the row's sense (`duals_from`) from the
  -- multipliers, the negated coefficients of the slacks in the objective of the final dictionary
  -- (`last`), and is then negated if the program minimizes
  abbrev pub duals_back : List Number
  duals_back = map (directed lp.maximize) (duals_from (multiplier (variables_of value lp) last.costs) 0 lp.rows)

  -- the reduced cost of each column at an optimum, from the coefficients of the variables in the
  -- objective of the final dictionary (`last`); negated if the program minimizes. In the standard
  -- form the rows for columns with two bounds follow those for the program's rows
  abbrev pub reduced_back : List Number
  reduced_back =
      map (directed lp.maximize) (reduced_from last.costs (multiplier (variables_of value lp) last.costs) (count_of_rows lp.rows) (columns_of value lp) lp.columns)

  -- the Farkas factor of each row, if no point is feasible: the negated dual that results from the
  -- coefficients of the slacks in the final dictionary (`last`), in the row of variable 0
  abbrev pub farkas_back : List Number
  farkas_back = map neg_ℚ (duals_from (multiplier (variables_of value lp) last.costs) 0 lp.rows)

  -- the change of each column along the ray, from the changes of the variables in the final
  -- dictionary (`last`)
  abbrev pub ray_back : List Number
  ray_back = map (λ column. changed_back column last.changes) (columns_of value lp)
