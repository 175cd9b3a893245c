-- Certificates of answers, as inequalities of the program's rows and bounds (Chvatal, Linear
-- Programming, chapters 5 and 9).
use Rattle.std.specs.Prelude.{◌≡◌, ℕ, Bool, true, false, pos, List, length, map, replicate, slice_get, Option, Some, None}
use Rattle.std.specs.List.{All, AllWithin, enumerate_from, range_with_len}
use Rattle.gq_number.specs.Number.{Number, whole}
use Rattle.gq_number.specs.Order.{◌≤ℚ◌, ◌<ℚ◌}
use Rattle.gq_number.specs.Sums.{scaled, added}
use Rattle.lp_core.specs.declared.answer.End.{End}
use Rattle.lp_core.specs.declared.answer.End.TheVariants.{Optimal, Infeasible, Unbounded, Interrupted, Refused}
use Rattle.lp_core.specs.declared.program.Sense.{Sense}
use Rattle.lp_core.specs.declared.program.Sense.TheVariants as sense
use Rattle.lp_core.specs.declared.program.Column.{Column}
use Rattle.lp_core.specs.declared.program.Row.{Row}
use Rattle.lp_core.specs.declared.program.Lp.{Lp}
use Rattle.lp_core.specs.Sums.{value_of_column, row_sum}
use Rattle.lp_core.specs.Feasible.{Feasible}
use Rattle.lp_core.specs.DualBound.{reduced_cost, objective_costs, no_costs, dual_bound, low}

-- both bounds exist, and the lower one exceeds the upper one
abbrev pub Crosses : {F : Type 0} → (F → Number) → Option F → Option F → Type 0
Crosses value (Some lower) (Some upper) = value upper <ℚ value lower
Crosses value lower upper = ⊥

-- Some j: the bounds of column j cross, and those of no column before it. None: the bounds of no
-- column cross.
abbrev pub FirstCrossed : {F : Type 0} → (F → Number) → List (Column F) → Option ℕ → Type 0
FirstCrossed {F} value columns (Some j) =
    ((column : Column F) × (slice_get columns j ≡ Some column) × Crosses value column.lower column.upper)
    × AllWithin (λ (column : Column F). ¬ (Crosses value column.lower column.upper)) columns 0 j
FirstCrossed {F} value columns None = All (λ (column : Column F). ¬ (Crosses value column.lower column.upper)) columns

-- along a direction in which the sum of a row changes by `change`, a sum that compares with the
-- right side as the sense says still does so
abbrev pub KeepsSenseAlong : Sense → Number → Type 0
KeepsSenseAlong sense.E change = change ≡ whole (pos 0)
KeepsSenseAlong sense.L change = change ≤ℚ whole (pos 0)
KeepsSenseAlong sense.G change = whole (pos 0) ≤ℚ change
KeepsSenseAlong sense.N change = Unit {0}

-- along a direction in which a column changes by `change`, it does not fall if it has a lower bound
abbrev pub KeepsLowerAlong : {F : Type 0} → Option F → Number → Type 0
KeepsLowerAlong None change = Unit {0}
KeepsLowerAlong (Some bound) change = whole (pos 0) ≤ℚ change

-- along a direction in which a column changes by `change`, it does not rise if it has an upper
-- bound
abbrev pub KeepsUpperAlong : {F : Type 0} → Option F → Number → Type 0
KeepsUpperAlong None change = Unit {0}
KeepsUpperAlong (Some bound) change = change ≤ℚ whole (pos 0)

-- the objective becomes better along a direction in which it changes by `change`: it rises when
-- maximizing (true), else it falls
abbrev pub ImprovesObjective : Bool → Number → Type 0
ImprovesObjective true change = whole (pos 0) <ℚ change
ImprovesObjective false change = change <ℚ whole (pos 0)

module _ {F : Type 0} (value : F → Number) (lp : Lp F) where
  -- the sum of each row at a point
  abbrev pub row_sums : List Number → List Number
  row_sums x = map (λ (row : Row F). row_sum value row.entries x) lp.rows

  -- Optimal: a feasible point whose objective is the bound that the duals give. The row levels are
  -- the rows' sums at the point, and the reduced costs are those of the duals.
  pub record ProvesOptimal (levels row_levels duals reduced : List Number) : Type 0 where
    pub feasible : Feasible value lp levels
    pub rows : row_levels ≡ row_sums levels
    pub sized : length duals ≡ length lp.rows
    pub reduced_costs : reduced ≡ map (λ j. reduced_cost value lp (objective_costs lp) duals j) (range_with_len 0 (length lp.columns))
    pub bound : dual_bound value lp duals ≡ Some (value_of_column levels lp.objective)

  -- Infeasible by a Farkas combination of rows and bounds, with a factor for each row (`duals`). An
  -- objective without costs is 0 at each point, but the lower bound of it that these factors give
  -- is above 0.
  pub record ProvesInfeasible (duals : List Number) : Type 0 where
    pub sized : length duals ≡ length lp.rows
    pub above : (bound : Number) × (low value lp no_costs duals ≡ Some bound) × (whole (pos 0) <ℚ bound)

  -- Infeasible by column j: it is the first whose lower bound exceeds its upper bound. All duals
  -- are 0.
  pub record ProvesCrossed (j : ℕ) (duals : List Number) : Type 0 where
    pub first : FirstCrossed value lp.columns (Some j)
    pub duals_zero : duals ≡ replicate (length lp.rows) (whole (pos 0))

  -- A ray: a direction along which bounds and rows stay satisfied and the objective improves.
  pub record IsRay (ray : List Number) : Type 0 where
    pub sized : length ray ≡ length lp.columns
    pub lower : All (λ (p : ℕ × Column F). KeepsLowerAlong p.1.lower (value_of_column ray p.0)) (enumerate_from 0 lp.columns)
    pub upper : All (λ (p : ℕ × Column F). KeepsUpperAlong p.1.upper (value_of_column ray p.0)) (enumerate_from 0 lp.columns)
    pub rows : All (λ (row : Row F). KeepsSenseAlong row.sense (row_sum value row.entries ray)) lp.rows
    pub better : ImprovesObjective lp.maximize (value_of_column ray lp.objective)

  -- Unbounded: a feasible point with its rows' sums, and a ray.
  pub record ProvesUnbounded (levels row_levels ray : List Number) : Type 0 where
    pub feasible : Feasible value lp levels
    pub rows : row_levels ≡ row_sums levels
    pub along : IsRay ray

  -- The lists of an end, which is the answer of a solver, prove it from the program's rows and
  -- bounds. For an Interrupted end, one at the limit of pivots, this means only that its point is
  -- feasible. No Refused end is proved, one at a step whose numbers exceed their limit.
  abbrev pub IsProved : End F → Type 0
  IsProved (Optimal levels row_levels duals reduced) = ProvesOptimal (map value levels) (map value row_levels) (map value duals) (map value reduced)
  IsProved (Infeasible duals None) = ProvesInfeasible (map value duals)
  IsProved (Infeasible duals (Some j)) = ProvesCrossed j (map value duals)
  IsProved (Unbounded levels row_levels ray) = ProvesUnbounded (map value levels) (map value row_levels) (map value ray)
  IsProved (Interrupted phase levels row_levels) = Feasible value lp (map value levels)
  IsProved (Refused step) = ⊥

-- the point `levels` plus t times the ray
abbrev pub further : List Number → Number → List Number → List Number
further levels t ray = added levels (scaled t ray)
