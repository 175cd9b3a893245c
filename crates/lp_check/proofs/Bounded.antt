-- The bound as it is computed is the bound of the definition.
use Rattle.std.proofs.Common.{◌≡◌, ◌≢◌, ℕ, ◌+◌, ◌<◌, Bool, true, false, pos, List, ◌++◌, length, map, Option, Some, None, IfSome, Ok, Err, refl, sym, ap, ◌∙◌, subst, arith, inl, inr}
use Rattle.std.specs.Prelude.{if◌then◌else◌}
use Rattle.std.specs.Bool.{then_some}
use Rattle.std.specs.List.{All, AllPairs, zip, enumerate_from}
use Rattle.std.proofs.lemmas.List.{length-append}
use Rattle.std.proofs.lemmas.List.Elements.{All-weaker}
use Rattle.gq_number.specs.Number.{Number, whole, ◌+ℚ◌}
use Rattle.gq_number.specs.Order.{◌≤ℚ◌}
use Rattle.gq_number.proofs.Order
use Rattle.gq_number.proofs.Ring.{ring_ℚ}
use Rattle.lp_core.specs.declared.answer.StepName.{StepName}
use Rattle.lp_core.specs.declared.program.Column.{Column}
use Rattle.lp_core.specs.declared.program.Row.{Row}
use Rattle.lp_core.specs.declared.program.Lp.{Lp}
use Rattle.lp_core.specs.Sums.{value_of_column}
use Rattle.lp_core.specs.Feasible.{Feasible}
use Rattle.lp_core.specs.WellFormed.{AreRowEntries, IsWellFormed}
use Rattle.lp_core.specs.DualBound.{total, reduced_cost, rows_low, columns_low, rows_high, columns_high, low, high, objective_costs}
use Rattle.lp_core.proofs.Duality.{parts_of_both, bound_below, bound_above, none_feasible}
use Rattle.lp_check.specs.BoundSteps.{all_reduced_steps, row_bound_steps, rows_sum, columns_steps, columns_sum, steps_of_bound, bound_steps, objective_bound, Bounds}
use Rattle.lp_check.specs.declared.partial.Partial.{Partial}
use Rattle.lp_check.specs.Partials.{costs_of, reduced_costs, first_unfit, StopsAfterSteps, Reaches, is_above, steps_over, sum_over}
use Rattle.lp_check.proofs.Numbered.{numbered, all_fit, stops_first}
use Rattle.lp_check.proofs.Totals.{row_used, column_used, rows_total, columns_total, quiet, reduced_is}
use Rattle.lp_check.proofs.Lengths.{few_reduced, few_by_rows, few_by_columns}

-- rows whose entries are in order
pub ordered : {F : Type 0} (value : F → Number) (lp : Lp F) → IsWellFormed value lp → All (λ (row : Row F). AllPairs (λ (a b : ℕ × F). a.0 < b.0) row.entries) lp.rows
ordered {F} value lp formed = All-weaker (λ (row : Row F). AreRowEntries value (length lp.columns) row.entries) (λ (row : Row F). AllPairs (λ (a b : ℕ × F). a.0 < b.0) row.entries) (λ row entries. entries.ascending) lp.rows formed.entries

-- rows whose entries name columns that are there
pub places : {F : Type 0} (value : F → Number) (lp : Lp F) → IsWellFormed value lp → All (λ (row : Row F). All (λ (e : ℕ × F). e.0 < length lp.columns) row.entries) lp.rows
places {F} value lp formed = All-weaker (λ (row : Row F). AreRowEntries value (length lp.columns) row.entries) (λ (row : Row F). All (λ (e : ℕ × F). e.0 < length lp.columns) row.entries) (λ row entries. entries.there) lp.rows formed.entries

-- a requested objective is a column
pub objective_there : {F : Type 0} (value : F → Number) (lp : Lp F) (w : Bool) → IsWellFormed value lp → IfSome (then_some w lp.objective) (λ column. column < length lp.columns)
objective_there value lp true formed = formed.objective
objective_there value lp false formed = tt

is_there : {A : Type 0} (o : Option A) → o ≢ None → (x : A) × (o ≡ Some x)
is_there None h = absurd (h refl)
is_there (Some x) h = (x, refl)

from_nothing : (x y : Number) → (whole (pos 0) +ℚ x) +ℚ y ≡ x +ℚ y
from_nothing x y = simp ring_ℚ

module _ {F : Type 0} (value : F → Number) (limit : ℕ) (lp : Lp F) (ys : List Number) where
  abbrev side : Bool → (ℕ → Number) → Option Number
  side true costs = high value lp costs ys
  side false costs = low value lp costs ys

  side_is : (b : Bool) (costs : ℕ → Number) → (if b then high value lp costs ys else low value lp costs ys) ≡ side b costs
  side_is true costs = refl
  side_is false costs = refl

  bound_is : (w : Bool) → objective_bound value w lp ys ≡ side (is_above w lp) (costs_of (then_some w lp.objective))
  bound_is true = side_is lp.maximize (objective_costs lp)
  bound_is false = refl

  steps_are : (w : Bool) → bound_steps value limit w lp ys ≡ numbered 0 (steps_of_bound value limit (is_above w lp) (costs_of (then_some w lp.objective)) lp ys)
  steps_are true = refl
  steps_are false = refl

  halves : (above : Bool) (costs : ℕ → Number) (t : Number) → side above costs ≡ Some t → (x y : Number) × (total (map (row_used value above) (zip lp.rows ys)) ≡ Some x) × (total (map (column_used value above (reduced_cost value lp costs ys)) (enumerate_from 0 lp.columns)) ≡ Some y) × (x +ℚ y ≡ t)
  halves true costs t e = parts_of_both (rows_high value lp ys) (columns_high value lp costs ys) t e
  halves false costs t e = parts_of_both (rows_low value lp ys) (columns_low value lp costs ys) t e

  module _ (w : Bool) (formed : IsWellFormed value lp) (there : objective_bound value w lp ys ≢ None) where
    abbrev pub costs : ℕ → Number
    costs = costs_of (then_some w lp.objective)

    abbrev pub above : Bool
    above = is_above w lp

    bound : (t : Number) × (side above costs ≡ Some t)
    bound = is_there (side above costs) (λ none. there (bound_is w ∙ none))

    parts : (x y : Number) × (total (map (row_used value above) (zip lp.rows ys)) ≡ Some x) × (total (map (column_used value above (reduced_cost value lp costs ys)) (enumerate_from 0 lp.columns)) ≡ Some y) × (x +ℚ y ≡ bound.0)
    parts = halves above costs bound.0 bound.1

    -- the reduced costs so taken are those of the definition
    pub reduced_same : reduced_costs value costs lp.rows ys ≡ reduced_cost value lp costs ys
    reduced_same = λ i j. reduced_is value j (costs j) lp.rows ys (quiet value above parts.0 lp.rows ys parts.2) (ordered value lp formed) i

    abbrev pub sum : Number
    sum = sum_over value above costs lp.rows lp.columns ys

    pub sum_is : objective_bound value w lp ys ≡ Some sum
    sum_is =
        bound_is w ∙ bound.1
        ∙ ap Some (sym (ap (λ d. columns_sum value above d (rows_sum value above (whole (pos 0)) lp.rows ys) 0 lp.columns) reduced_same
        ∙ columns_total value above (reduced_cost value lp costs ys) (rows_sum value above (whole (pos 0)) lp.rows ys) parts.1 0 lp.columns parts.3
        ∙ ap (λ n. n +ℚ parts.1) (rows_total value above (whole (pos 0)) parts.0 lp.rows ys parts.2)
        ∙ from_nothing parts.0 parts.1 ∙ parts.4))

    abbrev pub taken_steps : List Bool
    taken_steps = steps_over value above costs lp.rows lp.columns ys limit

    pub few_steps : length taken_steps < 18446744073709551616
    few_steps =
        let a = all_reduced_steps value limit costs lp.rows ys 0 lp.columns in
        let b = row_bound_steps value limit above (whole (pos 0)) lp.rows ys in
        let c = columns_steps value limit above (reduced_costs value costs lp.rows ys) (rows_sum value above (whole (pos 0)) lp.rows ys) 0 lp.columns in
        omega (arith, length-append (a ++ b) c, length-append a b, few_reduced value limit lp formed costs ys, few_by_rows value limit lp formed above (whole (pos 0)) ys, few_by_columns value limit lp formed above (reduced_costs value costs lp.rows ys) (rows_sum value above (whole (pos 0)) lp.rows ys))

    steps_same : bound_steps value limit w lp ys ≡ numbered 0 taken_steps
    steps_same =
        steps_are w ∙ ap (λ d. numbered 0 (all_reduced_steps value limit costs lp.rows ys 0 lp.columns ++ row_bound_steps value limit above (whole (pos 0)) lp.rows ys ++ columns_steps value limit above d (rows_sum value above (whole (pos 0)) lp.rows ys) 0 lp.columns)) (sym reduced_same)

    module _ (rows : List (Row F)) (columns : List (Column F)) (objective : Option ℕ) (from_above : Bool) (rows_are : rows ≡ lp.rows) (columns_are : columns ≡ lp.columns) (objective_is : objective ≡ then_some w lp.objective) (above_is : from_above ≡ above) where
      pub same_steps : steps_over value from_above (costs_of objective) rows columns ys limit ≡ taken_steps
      same_steps = rw (rows_are, columns_are, objective_is, above_is) refl

      same_sum : sum_over value from_above (costs_of objective) rows columns ys ≡ sum
      same_sum = rw (rows_are, columns_are, objective_is, above_is) refl

      pub bounds : (p : Partial F) → Reaches value 0 (steps_over value from_above (costs_of objective) rows columns ys limit) (sum_over value from_above (costs_of objective) rows columns ys) (Ok p) → Bounds value (bound_steps value limit w lp ys) (objective_bound value w lp ys) (Ok p.sum)
      bounds p h = rw steps_same ((all_fit 0 taken_steps (subst (λ fits. first_unfit fits ≡ None) same_steps h.0.0), sum_is ∙ ap Some (sym (h.1 ∙ same_sum))))

      pub bounds_stop : (step : StepName) → StopsAfterSteps 0 (steps_over value from_above (costs_of objective) rows columns ys limit) step → Bounds value (bound_steps value limit w lp ys) (objective_bound value w lp ys) (Err step)
      bounds_stop step h = rw steps_same (stops_first taken_steps step (subst (λ fits. StopsAfterSteps 0 fits step) same_steps h))

      pub value_is : (p : Partial F) → Reaches value 0 (steps_over value from_above (costs_of objective) rows columns ys limit) (sum_over value from_above (costs_of objective) rows columns ys) (Ok p) → objective_bound value w lp ys ≡ Some (value p.sum)
      value_is p h = sum_is ∙ ap Some (sym (h.1 ∙ same_sum))

      abbrev whole_of : F → Partial F
      whole_of x = record { sum = x; taken = 0 + length (steps_over value from_above (costs_of objective) rows columns ys limit) }

      -- the same of a bound whose steps were not counted
      pub bounds_at_once : (x : F) → first_unfit (steps_over value from_above (costs_of objective) rows columns ys limit) ≡ None → value x ≡ sum_over value from_above (costs_of objective) rows columns ys → Bounds value (bound_steps value limit w lp ys) (objective_bound value w lp ys) (Ok x)
      bounds_at_once x fit is = bounds (whole_of x) ((fit, refl), is)

      pub value_at_once : (x : F) → first_unfit (steps_over value from_above (costs_of objective) rows columns ys limit) ≡ None → value x ≡ sum_over value from_above (costs_of objective) rows columns ys → objective_bound value w lp ys ≡ Some (value x)
      value_at_once x fit is = value_is (whole_of x) ((fit, refl), is)

  pub at_most_zero : (t : Number) (x : List Number) (w : Bool) → IsWellFormed value lp → objective_bound value w lp ys ≡ Some t → Feasible value lp x → w ≡ false → t ≤ℚ whole (pos 0)
  at_most_zero t x true formed e feasible is = absurd (cc)
  at_most_zero t x false formed e feasible is =
      elim (Order.≤ℚ_or_above t (whole (pos 0))) [
        | inl h ↦ h
        | inr over ↦ absurd (none_feasible value lp ys x t formed e over feasible)
      ]

  pub least_is : (t : Number) (x : List Number) (w : Bool) → IsWellFormed value lp → objective_bound value w lp ys ≡ Some t → Feasible value lp x → w ≡ true → lp.maximize ≡ false → t ≤ℚ value_of_column x lp.objective
  least_is t x true formed e feasible is least = bound_below value lp ys x t formed feasible least e
  least_is t x false formed e feasible is least = absurd (cc)

  pub greatest_is : (t : Number) (x : List Number) (w : Bool) → IsWellFormed value lp → objective_bound value w lp ys ≡ Some t → Feasible value lp x → w ≡ true → lp.maximize ≡ true → value_of_column x lp.objective ≤ℚ t
  greatest_is t x true formed e feasible is greatest = bound_above value lp ys x t formed feasible greatest e
  greatest_is t x false formed e feasible is greatest = absurd (cc)
