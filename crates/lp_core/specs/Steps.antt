-- The named steps of a solver in order, each with whether it fits, and the first that does not.
use Rattle.std.specs.Prelude.{◌≡◌, ℕ, ◌+◌, ◌*◌, ◌==◌, ◌&&◌, Bool, true, false, not, pos, List, [], ◌∷◌, ◌++◌, length, map, filter, flat_map, Option, Some, None, Result, Ok, Err, if◌then◌else◌}
use Rattle.std.specs.List.{All, enumerate_from, range_with_len}
use Rattle.std.specs.Ordering.{is_gt}
use Rattle.gq_number.specs.Number.{Number, whole, ◌+ℚ◌, ◌-ℚ◌, ◌*ℚ◌, ◌/ℚ◌, neg_ℚ}
use Rattle.gq_number.specs.Order.{number_cmp}
use Rattle.gq_field.specs.Fits.{fits, sum_fits}
use Rattle.lp_core.specs.declared.answer.EndKind.{EndKind}
use Rattle.lp_core.specs.declared.answer.EndKind.TheVariants as kind
use Rattle.lp_core.specs.declared.answer.StepName.{StepName}
use Rattle.lp_core.specs.declared.answer.StepName.TheVariants.{Standard as StandardStep, Ratio, Exchange, Recover, Check}
use Rattle.lp_core.specs.declared.program.Sense.{Sense}
use Rattle.lp_core.specs.declared.program.Sense.TheVariants as sense
use Rattle.lp_core.specs.declared.program.Column.{Column}
use Rattle.lp_core.specs.declared.program.Row.{Row}
use Rattle.lp_core.specs.declared.program.Lp.{Lp}
use Rattle.lp_core.specs.Sums.{value_of_column}
use Rattle.lp_core.specs.Feasible.{bound_value}
-- passed on: how many rows of the standard form a list of rows has
pub use Rattle.lp_core.specs.WellFormed.{count_of_rows}
use Rattle.lp_core.specs.StandardForm.{Shift, from_lower, from_upper, free, base, column_at, columns_of, variables_of, rows_of_sense, rows_of_bounds, multiplier, Last, levels_back}
use Rattle.lp_core.specs.Dictionary.{Dictionary, constant_at, entry_at, divided_entry}

-- A step of a solver's arithmetic, by its name, and whether it fits: no numerator or denominator
-- that it computes exceeds the limit. Steps that always fit, as a product or a sum with 0 does, may
-- be in a list of steps or be omitted.
abbrev pub ExpectedStep : Type 0
ExpectedStep = StepName × Bool

-- each of these steps of arithmetic fits: no numerator or denominator that it computes exceeds the
-- limit
abbrev pub AllFit : List ExpectedStep → Type 0
AllFit steps = All (λ (step : ExpectedStep). step.1 ≡ true) steps

-- `name` is the first of these steps of arithmetic that does not fit, that is, computes a numerator
-- or denominator above the limit.
pub record FirstStop (steps : List ExpectedStep) (name : StepName) : Type 0 where
  pub before : List ExpectedStep
  pub following : List ExpectedStep
  pub split : steps ≡ before ++ (name, false) ∷ following
  pub fit : AllFit before

-- whether the product of two numbers fits: its numerator and denominator are at most the limit
abbrev pub product_fits : ℕ → Number → Number → Bool
product_fits limit x y = fits limit (x *ℚ y)

-- whether the quotient x/y fits: its numerator and denominator are at most the limit
abbrev pub quotient_fits : ℕ → Number → Number → Bool
quotient_fits limit x y = fits limit (x /ℚ y)

-- whether the difference x - y fits, as the sum of x and the negated y: no numerator or denominator
-- that the sum computes exceeds the limit
abbrev pub difference_fits : ℕ → Number → Number → Bool
difference_fits limit x y = sum_fits limit x (neg_ℚ y)

-- ---- the standard form: each bound is taken out of a right side, entry by entry

-- the steps that subtract a * b from the right side of standard row r, from 1. Column j, from 0,
-- has the coefficient a, and is its bound b plus or less a variable. The steps are the product,
-- then `right`, the right side so far, less the product; none for a free column. A step's name has
-- the row, the column from 1, and the kind (0: a product, 1: a difference)
abbrev pub shifting : ℕ → ℕ → ℕ → Shift → Number → Number → List ExpectedStep
shifting limit r j free a right = []
shifting limit r j (from_lower b) a right =
    (StandardStep r (j + 1) 0, product_fits limit a b) ∷ (StandardStep r (j + 1) 1, difference_fits limit right (a *ℚ b)) ∷ []
shifting limit r j (from_upper b) a right =
    (StandardStep r (j + 1) 0, product_fits limit a b) ∷ (StandardStep r (j + 1) 1, difference_fits limit right (a *ℚ b)) ∷ []

-- the steps that take the bounds of columns out of the right side of a row, entry by entry; `right`
-- is the right side so far, `columns` has the first variable of each column and its shift, which
-- has the bound, and r is the number, from 1, of the first standard row that belongs to the row
abbrev pub row_steps : {F : Type 0} → (F → Number) → ℕ → List (ℕ × Shift) → ℕ → Number → List (ℕ × F) → List ExpectedStep
row_steps value limit columns r right [] = []
row_steps value limit columns r right (e ∷ entries) =
    shifting limit r e.0 (column_at columns e.0).1 (value e.1) right
    ++ row_steps value limit columns r (right -ℚ value e.1 *ℚ base (column_at columns e.0).1) entries

-- the steps that take the bounds of columns out of the right sides of these rows; `columns` has the
-- first variable of each column and its shift, which has the bound, and r is the number, from 1, of
-- the next standard row; a nonbinding row has no standard row and no steps
abbrev pub rows_steps : {F : Type 0} → (F → Number) → ℕ → List (ℕ × Shift) → ℕ → List (Row F) → List ExpectedStep
rows_steps value limit columns r [] = []
rows_steps value limit columns r (row ∷ rows) =
    (if rows_of_sense row.sense == 0 then [] else row_steps value limit columns r (value row.right) row.entries)
    ++ rows_steps value limit columns (r + rows_of_sense row.sense) rows

-- the step on column j, from 0, if it has two bounds: the upper bound less the lower one, for the
-- standard row r, from 1. The step's name has the row, the column from 1, and the kind (1: a
-- difference)
abbrev pub bound_step : ℕ → ℕ → ℕ → Option Number → Option Number → List ExpectedStep
bound_step limit r j (Some lower) (Some upper) = (StandardStep r (j + 1) 1, difference_fits limit upper lower) ∷ []
bound_step limit r j lower upper = []

-- the steps that subtract the lower bound of a column from its upper one, one step for each of
-- these columns with two bounds; j is the number of the first column, from 0, and r that of the
-- next standard row, from 1
abbrev pub bounds_steps : {F : Type 0} → (F → Number) → ℕ → ℕ → ℕ → List (Column F) → List ExpectedStep
bounds_steps value limit r j [] = []
bounds_steps value limit r j (column ∷ columns) =
    bound_step limit r j (bound_value value column.lower) (bound_value value column.upper)
    ++ bounds_steps value limit (r + rows_of_bounds column.lower column.upper) (j + 1) columns

-- the steps that compute the standard form, whose rows they number from 1: those on rows, then
-- those on columns with two bounds
abbrev pub standard_steps : {F : Type 0} → (F → Number) → ℕ → Lp F → List ExpectedStep
standard_steps value limit lp =
    rows_steps value limit (columns_of value lp) 1 lp.rows ++ bounds_steps value limit (1 + count_of_rows lp.rows) 0 lp.columns

-- ---- a pivot: q enters in row k, both from 0; pivots and rows are numbered from 1

-- the steps of the ratio test for the entering variable q, in the pivot of number `pivot`: for each
-- row whose coefficient of q is above 0, in order, its constant over this coefficient. A step's
-- name has the number of the pivot, and the row from 1
abbrev pub ratio_steps : ℕ → ℕ → Dictionary → ℕ → List ExpectedStep
ratio_steps limit pivot d q =
    map (λ i. (Ratio pivot (i + 1), quotient_fits limit (constant_at d i) (entry_at d i q)))
    (filter (λ i. is_gt (number_cmp (entry_at d i q) (whole (pos 0)))) (range_with_len 0 (length d.basic)))

-- the steps on row k, whose variable leaves, in the pivot of number `pivot`: each number, the
-- constant first, is divided by the row's coefficient of the entering variable q. A step's name has
-- the number of the pivot, the row from 1, the column c from 0, and the kind (0: a quotient)
abbrev pub pivot_row_steps : ℕ → ℕ → Dictionary → ℕ → ℕ → List ExpectedStep
pivot_row_steps limit pivot d q k =
    map (λ c. (Exchange pivot (k + 1) c 0, quotient_fits limit (d.numbers k c) (entry_at d k q))) (range_with_len 0 (d.variables + 2))

-- the steps on row i, which is not row k, in the pivot of number `pivot`, in which variable q
-- enters and the variable of row k leaves; row i may be the objective. At each column c there are
-- two: the product of row i's coefficient of q and a quotient, row k's number at c over row k's
-- coefficient of q; then row i's number at c less this product. A step's name has the number of the
-- pivot, the row from 1, c from 0, and the kind (0: a product, 1: a difference)
abbrev pub other_row_steps : ℕ → ℕ → Dictionary → ℕ → ℕ → ℕ → List ExpectedStep
other_row_steps limit pivot d q k i =
    flat_map (λ c. (Exchange pivot (i + 1) c 0, product_fits limit (entry_at d i q) (divided_entry d q k c)) ∷ (Exchange pivot (i + 1) c 1, difference_fits limit (d.numbers i c) (entry_at d i q *ℚ divided_entry d q k c)) ∷ [])
    (range_with_len 0 (d.variables + 2))

-- the steps of an exchange, in the pivot of number `pivot`, in which variable q enters and the
-- variable of row k leaves: those on row k, then those on each other row, of which the objective is
-- the last
abbrev pub exchange_steps : ℕ → ℕ → Dictionary → ℕ → ℕ → List ExpectedStep
exchange_steps limit pivot d q k =
    pivot_row_steps limit pivot d q k
    ++ flat_map (other_row_steps limit pivot d q k) (filter (λ i. not (i == k)) (range_with_len 0 (length d.basic + 1)))

-- ---- the recovery; places count from 0

-- the step that computes the value of column j by its shift: the bound b plus y_v (`from_lower`), b
-- less y_v (`from_upper`), or y_v less y_(v + 1) (`free`); y_v is the value of variable v. A step's
-- name has the list (0: the values of columns), the index j in it, the entry (0: none), and the
-- kind (1: a sum or a difference)
abbrev pub level_step : ℕ → ℕ → ℕ × Shift → List Number → ExpectedStep
level_step limit j (v, from_lower b) y = (Recover 0 j 0 1, sum_fits limit b (value_of_column y v))
level_step limit j (v, from_upper b) y = (Recover 0 j 0 1, difference_fits limit b (value_of_column y v))
level_step limit j (v, free) y = (Recover 0 j 0 1, difference_fits limit (value_of_column y v) (value_of_column y (v + 1)))

-- the steps that compute the sum of row i at the point x, from its entry e on, where s is the sum
-- so far: for each entry the product, then the sum. A step's name has the list (1: the sums of
-- rows), the index i in it, the entry e, and the kind (0: a product, 1: a sum)
abbrev pub row_level_steps : {F : Type 0} → (F → Number) → ℕ → ℕ → ℕ → Number → List (ℕ × F) → List Number → List ExpectedStep
row_level_steps value limit i e s [] x = []
row_level_steps value limit i e s (p ∷ entries) x =
    (Recover 1 i e 0, product_fits limit (value p.1) (value_of_column x p.0))
    ∷ (Recover 1 i e 1, sum_fits limit s (value p.1 *ℚ value_of_column x p.0)) ∷ row_level_steps value limit i (e + 1) (s +ℚ value p.1 *ℚ value_of_column x p.0) entries x

-- the steps that compute the duals of rows from row i on: for an equation the difference of its two
-- standard rows' multipliers, for another row none. p has the multipliers; r is the first standard
-- row of row i. A step's name has the list (2: the duals), the index i in it, the entry (0: none),
-- and the kind (1: a difference)
abbrev pub dual_steps : {F : Type 0} → ℕ → (ℕ → Number) → ℕ → ℕ → List (Row F) → List ExpectedStep
dual_steps limit p i r [] = []
dual_steps limit p i r (row ∷ rows) =
    (if rows_of_sense row.sense == 2 then (Recover 2 i 0 1, difference_fits limit (p r) (p (r + 1))) ∷ [] else [])
    ++ dual_steps limit p (i + 1) (r + rows_of_sense row.sense) rows

-- the steps that compute the reduced costs of columns from column j on. A column with two bounds
-- has a row in the standard form: its step is the sum of the coefficient of its variable in the
-- objective of the final dictionary and the multiplier of its row. Another column has no step.
-- `costs` has the coefficients by variable, `shifts` the variable of each column, p the multipliers
-- by row. Row r is that of the first of these columns with two bounds; the later ones' rows follow.
-- A step's name has the list (3: the reduced costs), the index j in it, the entry (0: none), and
-- the kind (1: a sum).
abbrev pub reduced_steps : {F : Type 0} → ℕ → List Number → (ℕ → Number) → ℕ → ℕ → List (ℕ × Shift) → List (Column F) → List ExpectedStep
reduced_steps limit costs p j r [] columns = []
reduced_steps limit costs p j r (s ∷ shifts) [] = []
reduced_steps limit costs p j r (s ∷ shifts) (column ∷ columns) =
    (if rows_of_bounds column.lower column.upper == 1 then (Recover 3 j 0 1, sum_fits limit (value_of_column costs s.0) (p r)) ∷ [] else [])
    ++ reduced_steps limit costs p (j + 1) (r + rows_of_bounds column.lower column.upper) shifts columns

-- the step that computes the change of column j along a ray: the difference of its two variables'
-- changes if it is free, else none. The step's name has the list (4: the ray), the index j in it,
-- the entry (0: none), and the kind (1: a difference)
abbrev pub ray_step : ℕ → ℕ → ℕ × Shift → List Number → List ExpectedStep
ray_step limit j (v, from_lower b) changes = []
ray_step limit j (v, from_upper b) changes = []
ray_step limit j (v, free) changes = (Recover 4 j 0 1, difference_fits limit (value_of_column changes v) (value_of_column changes (v + 1))) ∷ []

module _ {F : Type 0} (value : F → Number) (limit : ℕ) (lp : Lp F) (last : Last) where
  -- the steps that compute the columns' values from the variables' values in the final dictionary
  -- (`last`)
  abbrev pub levels_steps : List ExpectedStep
  levels_steps = map (λ (p : ℕ × (ℕ × Shift)). level_step limit p.0 p.1 last.values) (enumerate_from 0 (columns_of value lp))

  -- the steps that compute the rows' sums at the columns' values, which result from the final
  -- dictionary (`last`)
  abbrev pub row_levels_steps : List ExpectedStep
  row_levels_steps = flat_map (λ (p : ℕ × Row F). row_level_steps value limit p.0 0 (whole (pos 0)) p.1.entries (levels_back value lp last)) (enumerate_from 0 lp.rows)

  -- the steps that compute the duals, or the Farkas factors of rows if no point is feasible, from
  -- the final dictionary (`last`)
  abbrev pub duals_steps : List ExpectedStep
  duals_steps = dual_steps limit (multiplier (variables_of value lp) last.costs) 0 0 lp.rows

  -- the steps that compute the columns' reduced costs from the final dictionary (`last`)
  abbrev pub reduced_costs_steps : List ExpectedStep
  reduced_costs_steps = reduced_steps limit last.costs (multiplier (variables_of value lp) last.costs) 0 (count_of_rows lp.rows) (columns_of value lp) lp.columns

  -- the steps that compute the columns' changes along a ray from the variables' changes (`last`)
  abbrev pub ray_steps : List ExpectedStep
  ray_steps = flat_map (λ (p : ℕ × (ℕ × Shift)). ray_step limit p.0 p.1 last.changes) (enumerate_from 0 (columns_of value lp))

  -- the steps that compute the columns' values, the rows' sums, the duals and the reduced costs of
  -- an optimum from the final dictionary (`last`)
  abbrev pub optimal_steps : List ExpectedStep
  optimal_steps = levels_steps ++ row_levels_steps ++ duals_steps ++ reduced_costs_steps

  -- the steps that compute the Farkas factors from the final dictionary (`last`), if no point is
  -- feasible
  abbrev pub infeasible_steps : List ExpectedStep
  infeasible_steps = duals_steps

  -- the steps that compute the point, its rows' sums and the ray of an unbounded end from the final
  -- dictionary (`last`)
  abbrev pub unbounded_steps : List ExpectedStep
  unbounded_steps = levels_steps ++ row_levels_steps ++ ray_steps

  -- the steps that compute the point of an interrupted end and its rows' sums from the final
  -- dictionary (`last`)
  abbrev pub interrupted_steps : List ExpectedStep
  interrupted_steps = levels_steps ++ row_levels_steps

-- the steps, in order, that compute the lists of an answer from the final dictionary (`last`), by
-- the kind of end: optimal, infeasible, unbounded or interrupted
abbrev pub steps_back : {F : Type 0} → (F → Number) → ℕ → Lp F → EndKind → Last → List ExpectedStep
steps_back value limit lp kind.Optimal last = optimal_steps value limit lp last
steps_back value limit lp kind.Infeasible last = infeasible_steps value limit lp last
steps_back value limit lp kind.Unbounded last = unbounded_steps value limit lp last
steps_back value limit lp kind.Interrupted last = interrupted_steps value limit lp last

-- ---- the check of a point: its bounds, without a step; then the sum of each row, entry by entry;
-- steps count from 0

-- the sum s plus each entry's coefficient times the value of its column in x; or Err with the first
-- step that does not fit, that is, computes a numerator or denominator above the limit. Each entry
-- has two steps, a product and a sum; n is the number of the next step
abbrev pub checked_sum : {F : Type 0} → (F → Number) → ℕ → List Number → ℕ → Number → List (ℕ × F) → Result Number StepName
checked_sum value limit x n s [] = Ok s
checked_sum value limit x n s (e ∷ entries) =
    if product_fits limit (value e.1) (value_of_column x e.0) then
    (if sum_fits limit s (value e.1 *ℚ value_of_column x e.0) then
    checked_sum value limit x (n + 2) (s +ℚ value e.1 *ℚ value_of_column x e.0) entries else
    Err (Check (n + 1))) else
    Err (Check n)

-- whether x is at most y
abbrev pub at_most : Number → Number → Bool
at_most x y = not (is_gt (number_cmp x y))

-- whether x is at least the lower bound; true without a bound
abbrev pub keeps_lower : Option Number → Number → Bool
keeps_lower None x = true
keeps_lower (Some bound) x = at_most bound x

-- whether x is at most the upper bound; true without a bound
abbrev pub keeps_upper : Option Number → Number → Bool
keeps_upper None x = true
keeps_upper (Some bound) x = at_most x bound

-- whether each column's value in x is within its bounds; j is the number of the first of these
-- columns
abbrev pub bounds_hold : {F : Type 0} → (F → Number) → List Number → ℕ → List (Column F) → Bool
bounds_hold value x j [] = true
bounds_hold value x j (column ∷ columns) =
    keeps_lower (bound_value value column.lower) (value_of_column x j) && keeps_upper (bound_value value column.upper) (value_of_column x j)
    && bounds_hold value x (j + 1) columns

-- whether a row's sum compares with its right side as the sense says
abbrev pub keeps_sense : Sense → Number → Number → Bool
keeps_sense sense.E sum right = at_most sum right && at_most right sum
keeps_sense sense.L sum right = at_most sum right
keeps_sense sense.G sum right = at_most right sum
keeps_sense sense.N sum right = true

-- whether a row of this sense is nonbinding
abbrev pub asks_nothing : Sense → Bool
asks_nothing sense.N = true
asks_nothing s = false

-- the answer of the check of a row and of later rows. The first argument is the row's sum, or Err
-- with the step that does not fit; `rest` is the answer for the later rows. An Err is the answer;
-- for a sum it is Ok false if the sum does not compare with `right` as the sense s says, else
-- `rest`
abbrev pub compared : Result Number StepName → Sense → Number → Result Bool StepName → Result Bool StepName
compared (Ok sum) s right rest = if keeps_sense s sum right then rest else Ok false
compared (Err step) s right rest = Err step

-- the check of these rows at the point x, in order: Ok false at the first row that x does not
-- satisfy, Err with the first step that computes a numerator or denominator above the limit,
-- whichever comes first, and Ok true if neither comes; n is the number of the next step, and a
-- nonbinding row has no steps
abbrev pub checked_rows : {F : Type 0} → (F → Number) → ℕ → List Number → ℕ → List (Row F) → Result Bool StepName
checked_rows value limit x n [] = Ok true
checked_rows value limit x n (row ∷ rows) =
    if asks_nothing row.sense then
    checked_rows value limit x n rows else
    compared (checked_sum value limit x n (whole (pos 0)) row.entries) row.sense (value row.right) (checked_rows value limit x (n + 2 * length row.entries) rows)

-- how many steps the check of these rows has at most: two for each entry of a row, and none for a
-- nonbinding row
abbrev pub steps_of_rows : {F : Type 0} → List (Row F) → ℕ
steps_of_rows [] = 0
steps_of_rows (row ∷ rows) = (if asks_nothing row.sense then 0 else 2 * length row.entries) + steps_of_rows rows

-- the check of the point x: Ok false if a value is outside its column's bounds; else the check of
-- the rows in order: Ok false at the first row that x does not satisfy, Err with the first step
-- that computes a numerator or denominator above the limit, whichever comes first, and Ok true if
-- neither comes. The steps are numbered from 0
abbrev pub checked_point : {F : Type 0} → (F → Number) → ℕ → Lp F → List Number → Result Bool StepName
checked_point value limit lp x = if bounds_hold value x 0 lp.columns then checked_rows value limit x 0 lp.rows else Ok false
