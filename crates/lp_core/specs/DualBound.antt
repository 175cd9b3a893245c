-- The bound that dual values give (weak duality; Chvatal, Linear Programming, chapters 5 and 9).
use Rattle.std.specs.Prelude.{ℕ, ◌==◌, pos, List, [], ◌∷◌, map, Option, Some, None, option_map, option_and_then, if◌then◌else◌}
use Rattle.std.specs.List.{zip, enumerate_from}
use Rattle.std.specs.declared.cmp.Ordering.{Ordering}
use Rattle.std.specs.declared.cmp.Ordering.TheVariants.{Less, Equal, Greater}
use Rattle.gq_number.specs.Number.{Number, whole, ◌+ℚ◌, ◌-ℚ◌, ◌*ℚ◌}
use Rattle.gq_number.specs.Order.{number_cmp}
use Rattle.gq_number.specs.Sums.{sum_by_ℚ}
use Rattle.lp_core.specs.declared.program.Sense.{Sense}
use Rattle.lp_core.specs.declared.program.Sense.TheVariants as sense
use Rattle.lp_core.specs.declared.program.Column.{Column}
use Rattle.lp_core.specs.declared.program.Row.{Row}
use Rattle.lp_core.specs.declared.program.Lp.{Lp}
use Rattle.lp_core.specs.Sums.{column_coefficient}
use Rattle.lp_core.specs.Feasible.{bound_value}

-- the lower bound of a row's sum, by its sense and right side; None if the row has none
abbrev pub row_lower : Sense → Number → Option Number
row_lower sense.E right = Some right
row_lower sense.L right = None
row_lower sense.G right = Some right
row_lower sense.N right = None

-- the upper bound of a row's sum, by its sense and right side; None if the row has none
abbrev pub row_upper : Sense → Number → Option Number
row_upper sense.E right = Some right
row_upper sense.L right = Some right
row_upper sense.G right = None
row_upper sense.N right = None

-- a factor times one of two bounds, chosen by how the factor compares with 0: the first if it is
-- positive, the second if negative; 0 if the factor is 0, None if the chosen bound does not exist
abbrev pub by_sign : Ordering → Number → Option Number → Option Number → Option Number
by_sign Greater factor first second = option_map (λ bound. factor *ℚ bound) first
by_sign Equal factor first second = Some (whole (pos 0))
by_sign Less factor first second = option_map (λ bound. factor *ℚ bound) second

-- a factor times the bound that it uses, the first if it is positive, the second if negative; 0 if
-- the factor is 0, None if that bound does not exist
abbrev pub used : Number → Option Number → Option Number → Option Number
used factor first second = by_sign (number_cmp factor (whole (pos 0))) factor first second

-- the sum of these terms; None if a term does not exist
abbrev pub total : List (Option Number) → Option Number
total [] = Some (whole (pos 0))
total (term ∷ terms) = option_and_then (λ a. option_map (λ b. a +ℚ b) (total terms)) term

-- the sum of two numbers; None if one of them does not exist
abbrev pub both : Option Number → Option Number → Option Number
both a b = option_and_then (λ x. option_map (λ y. x +ℚ y) b) a

-- the cost of column j: 1 if it is the objective, else 0
abbrev pub objective_costs : {F : Type 0} → Lp F → ℕ → Number
objective_costs lp j = if lp.objective == j then whole (pos 1) else whole (pos 0)

-- the cost of column j if each cost is 0
abbrev pub no_costs : ℕ → Number
no_costs j = whole (pos 0)

module _ {F : Type 0} (value : F → Number) (lp : Lp F) where
  -- the reduced cost of column j: its cost less the sum of each dual times its row's coefficient of
  -- the column; `costs` is by column
  abbrev pub reduced_cost : (ℕ → Number) → List Number → ℕ → Number
  reduced_cost costs duals j =
      costs j -ℚ sum_by_ℚ (λ (p : Row F × Number). p.1 *ℚ column_coefficient value p.0.entries j) (zip lp.rows duals)

  -- the rows' part of `low`, a lower bound of the total cost: the sum of each dual times the
  -- bound of its row's sum, the lower one if the dual is positive, the upper one if negative; None
  -- if a bound that is used does not exist
  abbrev pub rows_low : List Number → Option Number
  rows_low duals =
      total (map (λ (p : Row F × Number). used p.1 (row_lower p.0.sense (value p.0.right)) (row_upper p.0.sense (value p.0.right))) (zip lp.rows duals))

  -- the columns' part of `low`, a lower bound of the total cost: the sum of each reduced cost
  -- times the bound of its column, the lower one if the reduced cost is positive, the upper one if
  -- negative; None if a bound that is used does not exist; `costs` has the costs by column
  abbrev pub columns_low : (ℕ → Number) → List Number → Option Number
  columns_low costs duals =
      total (map (λ (p : ℕ × Column F). used (reduced_cost costs duals p.0) (bound_value value p.1.lower) (bound_value value p.1.upper)) (enumerate_from 0 lp.columns))

  -- a lower bound of the sum of each column's cost times its value, by the duals; None if a bound
  -- that it uses does not exist
  abbrev pub low : (ℕ → Number) → List Number → Option Number
  low costs duals = both (rows_low duals) (columns_low costs duals)

  -- the rows' part of `high`, an upper bound of the total cost: the sum of each dual times the
  -- bound of its row's sum, the upper one if the dual is positive, the lower one if negative; None
  -- if a bound that is used does not exist
  abbrev pub rows_high : List Number → Option Number
  rows_high duals =
      total (map (λ (p : Row F × Number). used p.1 (row_upper p.0.sense (value p.0.right)) (row_lower p.0.sense (value p.0.right))) (zip lp.rows duals))

  -- the columns' part of `high`, an upper bound of the total cost: the sum of each reduced cost
  -- times the bound of its column, the upper one if the reduced cost is positive, the lower one if
  -- negative; None if a bound that is used does not exist; `costs` has the costs by column
  abbrev pub columns_high : (ℕ → Number) → List Number → Option Number
  columns_high costs duals =
      total (map (λ (p : ℕ × Column F). used (reduced_cost costs duals p.0) (bound_value value p.1.upper) (bound_value value p.1.lower)) (enumerate_from 0 lp.columns))

  -- an upper bound of the sum of each column's cost times its value, by the duals; None if a bound
  -- that it uses does not exist
  abbrev pub high : (ℕ → Number) → List Number → Option Number
  high costs duals = both (rows_high duals) (columns_high costs duals)

  -- the bound of the objective that the duals give: an upper bound when maximizing, else a lower
  -- bound; None if a bound that it uses does not exist
  abbrev pub dual_bound : List Number → Option Number
  dual_bound duals = if lp.maximize then high (objective_costs lp) duals else low (objective_costs lp) duals
