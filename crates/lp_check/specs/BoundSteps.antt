-- The steps that compute the dual bound, in order, each with whether it fits (Chvatal, "Linear
-- Programming", chapters 5 and 9, for the bound). The order is this project's rule: first each
-- column's reduced cost, row by row; then each row's part of the bound; then each column's part.
use Rattle.std.specs.Prelude.{◌≡◌, ℕ, ◌+◌, ◌==◌, pos, Bool, true, false, List, [], ◌∷◌, ◌++◌, map, Option, Some, None, Result, Ok, Err, if◌then◌else◌}
use Rattle.std.specs.List.{enumerate_from}
use Rattle.std.specs.declared.cmp.Ordering.{Ordering}
use Rattle.std.specs.declared.cmp.Ordering.TheVariants.{Less, Equal, Greater}
use Rattle.gq_number.specs.Number.{Number, whole, ◌+ℚ◌, ◌-ℚ◌, ◌*ℚ◌}
use Rattle.gq_number.specs.Order.{number_cmp}
use Rattle.gq_field.specs.Fits.{sum_fits}
use Rattle.lp_core.specs.declared.answer.StepName.{StepName}
use Rattle.lp_core.specs.declared.answer.StepName.TheVariants.{Check}
use Rattle.lp_core.specs.declared.program.Column.{Column}
use Rattle.lp_core.specs.declared.program.Row.{Row}
use Rattle.lp_core.specs.declared.program.Lp.{Lp}
use Rattle.lp_core.specs.Feasible.{bound_value}
use Rattle.lp_core.specs.DualBound.{row_lower, row_upper, objective_costs, no_costs, reduced_cost}
use Rattle.lp_core.specs.DualBound as dual
use Rattle.lp_core.specs.Steps.{ExpectedStep, AllFit, FirstStop, product_fits, difference_fits, asks_nothing}

-- whether each step that adds a factor times a bound to the sum s fits: the product, then the sum.
-- A step fits if its integers (`product_fits`, `sum_fits`) are at most `limit` in magnitude. No
-- steps without a bound
abbrev pub plus_steps : ℕ → Number → Number → Option Number → List Bool
plus_steps limit s factor None = []
plus_steps limit s factor (Some bound) = product_fits limit factor bound ∷ sum_fits limit s (factor *ℚ bound) ∷ []

-- the sum s plus a factor times a bound; s itself without a bound
abbrev pub plus_product : Number → Number → Option Number → Number
plus_product s factor None = s
plus_product s factor (Some bound) = s +ℚ factor *ℚ bound

-- whether each step that subtracts a factor times an entry from the number s fits: the product,
-- then the difference. A step fits if its integers (`product_fits`, `difference_fits`) are at most
-- `limit` in magnitude. No steps without an entry
abbrev pub less_steps : ℕ → Number → Number → Option Number → List Bool
less_steps limit s factor None = []
less_steps limit s factor (Some entry) = product_fits limit factor entry ∷ difference_fits limit s (factor *ℚ entry) ∷ []

-- the number s less a factor times an entry; s itself without an entry
abbrev pub less_product : Number → Number → Option Number → Number
less_product s factor None = s
less_product s factor (Some entry) = s -ℚ factor *ℚ entry

-- the bound that a factor uses, by how the factor compares with 0: `first` if it is above, `second`
-- if below, None at 0
abbrev pub bound_by_sign : Ordering → Option Number → Option Number → Option Number
bound_by_sign Greater first second = first
bound_by_sign Equal first second = None
bound_by_sign Less first second = second

-- the bound that a factor uses: `first` if it is above 0, `second` if below, None at 0
abbrev pub bound_used : Number → Option Number → Option Number → Option Number
bound_used factor first second = bound_by_sign (number_cmp factor (whole (pos 0))) first second

-- the coefficient in the first of these entries that is of column j; None without an entry of j
abbrev pub entry_of : {F : Type 0} → (F → Number) → List (ℕ × F) → ℕ → Option Number
entry_of value [] j = None
entry_of value (e ∷ entries) j = if e.0 == j then Some (value e.1) else entry_of value entries j

-- the coefficient of column j in a row; None without an entry of j, or if the row is nonbinding
abbrev pub entry_in : {F : Type 0} → (F → Number) → ℕ → Row F → Option Number
entry_in value j row = if asks_nothing row.sense then None else entry_of value row.entries j

-- the bound of a row's sum that its dual y uses. For a lower bound of the objective (false) it is
-- the lower one if y is positive, the upper one if negative; for an upper bound (true) the reverse.
-- None if y is 0 or that bound does not exist.
abbrev pub row_bound : {F : Type 0} → (F → Number) → Bool → Row F → Number → Option Number
row_bound value true row y = bound_used y (row_upper row.sense (value row.right)) (row_lower row.sense (value row.right))
row_bound value false row y = bound_used y (row_lower row.sense (value row.right)) (row_upper row.sense (value row.right))

-- the bound of a column that its reduced cost d uses. For a lower bound of the objective (false) it
-- is the lower one if d is positive, the upper one if negative; for an upper bound (true) the
-- reverse. None if d is 0 or that bound does not exist.
abbrev pub column_bound : {F : Type 0} → (F → Number) → Bool → Column F → Number → Option Number
column_bound value true column d = bound_used d (bound_value value column.upper) (bound_value value column.lower)
column_bound value false column d = bound_used d (bound_value value column.lower) (bound_value value column.upper)

-- the sum s plus, for each row, its dual times the bound of its sum that the dual uses, for an
-- upper bound of the objective if `above`, else for a lower one
abbrev pub rows_sum : {F : Type 0} → (F → Number) → Bool → Number → List (Row F) → List Number → Number
rows_sum value above s [] duals = s
rows_sum value above s (row ∷ rows) [] = s
rows_sum value above s (row ∷ rows) (y ∷ duals) = rows_sum value above (plus_product s y (row_bound value above row y)) rows duals

-- the sum s plus, for each of these columns, its reduced cost (`reduced`, by the number of the
-- column) times the bound of the column that this cost uses (nothing without such a bound), for an
-- upper bound of the objective if `above`, else for a lower one; the first column has number j
abbrev pub columns_sum : {F : Type 0} → (F → Number) → Bool → (ℕ → Number) → Number → ℕ → List (Column F) → Number
columns_sum value above reduced s j [] = s
columns_sum value above reduced s j (column ∷ columns) =
    columns_sum value above reduced (plus_product s (reduced j) (column_bound value above column (reduced j))) (j + 1) columns

module _ {F : Type 0} (value : F → Number) (limit : ℕ) where
  -- Row by row, the dual times the row's entry of column j is subtracted from s, the column's cost
  -- less what is subtracted so far. For each product and each difference: whether its integers are
  -- at most `limit` in magnitude. A row that is nonbinding, or without an entry of j, has no steps.
  abbrev pub reduced_cost_bound_steps : ℕ → Number → List (Row F) → List Number → List Bool
  reduced_cost_bound_steps j s [] duals = []
  reduced_cost_bound_steps j s (row ∷ rows) [] = []
  reduced_cost_bound_steps j s (row ∷ rows) (y ∷ duals) =
      less_steps limit s y (entry_in value j row) ++ reduced_cost_bound_steps j (less_product s y (entry_in value j row)) rows duals

  -- whether each step that computes the reduced costs of these columns from their costs (`costs`,
  -- by the number of the column) fits under the limit on the size of numbers; the first column has
  -- number j
  abbrev pub all_reduced_steps : (ℕ → Number) → List (Row F) → List Number → ℕ → List (Column F) → List Bool
  all_reduced_steps costs rows duals j [] = []
  all_reduced_steps costs rows duals j (column ∷ columns) =
      reduced_cost_bound_steps j (costs j) rows duals ++ all_reduced_steps costs rows duals (j + 1) columns

  -- Row by row, the dual times the bound of the row's sum that the dual uses is added to s, for an
  -- upper bound of the objective if `above`, else for a lower one. The result says for each product
  -- and each sum whether its integers are at most `limit` in magnitude. A row without such a bound
  -- has no steps
  abbrev pub row_bound_steps : Bool → Number → List (Row F) → List Number → List Bool
  row_bound_steps above s [] duals = []
  row_bound_steps above s (row ∷ rows) [] = []
  row_bound_steps above s (row ∷ rows) (y ∷ duals) =
      plus_steps limit s y (row_bound value above row y) ++ row_bound_steps above (plus_product s y (row_bound value above row y)) rows duals

  -- Column by column, the reduced cost (`reduced j`) times the bound of the column that this cost
  -- uses is added to s, for an upper bound of the objective if `above`, else for a lower one; no
  -- steps without such a bound. For each product and each sum: whether its integers are at most
  -- `limit` in magnitude. The first column has number j.
  abbrev pub columns_steps : Bool → (ℕ → Number) → Number → ℕ → List (Column F) → List Bool
  columns_steps above reduced s j [] = []
  columns_steps above reduced s j (column ∷ columns) =
      plus_steps limit s (reduced j) (column_bound value above column (reduced j))
      ++ columns_steps above reduced (plus_product s (reduced j) (column_bound value above column (reduced j))) (j + 1) columns

  -- for each step, whether its integers are at most `limit` in magnitude. From the duals the steps
  -- compute an upper (if `above`) or a lower bound of the sum of cost times value over the columns:
  -- first the reduced costs, then each row's dual times the bound that it uses, then each column's
  -- reduced cost times the bound that it uses. Column j has the cost `costs j`
  abbrev pub steps_of_bound : Bool → (ℕ → Number) → Lp F → List Number → List Bool
  steps_of_bound above costs lp duals =
      all_reduced_steps costs lp.rows duals 0 lp.columns
      ++ row_bound_steps above (whole (pos 0)) lp.rows duals
      ++ columns_steps above (reduced_cost value lp costs duals) (rows_sum value above (whole (pos 0)) lp.rows duals) 0 lp.columns

  -- the steps that compute from the duals the bound of the objective (true), or a lower bound of
  -- the objective with each cost replaced by 0 (false), numbered from 0, each with whether it fits
  -- under the limit of the size of numbers
  abbrev pub bound_steps : Bool → Lp F → List Number → List ExpectedStep
  bound_steps true lp duals = map (λ (p : ℕ × Bool). (Check p.0, p.1)) (enumerate_from 0 (steps_of_bound lp.maximize (objective_costs lp) lp duals))
  bound_steps false lp duals = map (λ (p : ℕ × Bool). (Check p.0, p.1)) (enumerate_from 0 (steps_of_bound false no_costs lp duals))

-- with true, the bound of the objective that the duals prove: an upper one when maximizing, else a
-- lower one; with false, the lower one that they prove of the objective whose costs are all 0. None
-- if the duals use a lower or upper limit that a row or a column does not have
abbrev pub objective_bound : {F : Type 0} → (F → Number) → Bool → Lp F → List Number → Option Number
objective_bound value true lp duals = dual.dual_bound value lp duals
objective_bound value false lp duals = dual.low value lp no_costs duals

-- Ok: all these steps fit, and the value means `number`, which is not None. Err: the first step
-- that does not fit.
abbrev pub Bounds : {F : Type 0} → (F → Number) → List ExpectedStep → Option Number → Result F StepName → Type 0
Bounds value steps number (Ok x) = AllFit steps × (number ≡ Some (value x))
Bounds value steps number (Err step) = FirstStop steps step
