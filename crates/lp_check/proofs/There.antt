-- A bound is there where each row and each column has both bounds.
use Rattle.std.proofs.Common.{◌≡◌, ◌≢◌, ℕ, true, false, pos, List, [], ◌∷◌, Option, Some, None, map, refl, sym, subst}
use Rattle.std.specs.Prelude.{if◌then◌else◌}
use Rattle.std.specs.List.{zip, enumerate_from}
use Rattle.std.specs.declared.cmp.Ordering.{Ordering}
use Rattle.std.specs.declared.cmp.Ordering.TheVariants.{Less, Equal, Greater}
use Rattle.gq_number.specs.Number.{Number, whole}
use Rattle.gq_number.specs.Order.{number_cmp}
use Rattle.lp_core.specs.declared.program.Sense.TheVariants as sense
use Rattle.lp_core.specs.declared.program.Column.{Column}
use Rattle.lp_core.specs.declared.program.Row.{Row}
use Rattle.lp_core.specs.declared.program.Lp.{Lp}
use Rattle.lp_core.specs.Feasible.{bound_value}
use Rattle.lp_core.specs.DualBound.{by_sign, used, total, both, reduced_cost, objective_costs, row_lower, row_upper, rows_low, columns_low, low, high}
use Rattle.lp_check.specs.BoundSteps.{objective_bound}

sign_there : (o : Ordering) (f a b : Number) → by_sign o f (Some a) (Some b) ≢ None
sign_there Greater f a b e = cc
sign_there Equal f a b e = cc
sign_there Less f a b e = cc

both_there : (x y : Option Number) → x ≢ None → y ≢ None → both x y ≢ None
both_there None y h k e = h refl
both_there (Some x) None h k e = k refl
both_there (Some x) (Some y) h k e = cc

zero_there : total [] ≢ None
zero_there e = cc

module _ {F : Type 0} (value : F → Number) (row : Row F) (column : Column F) (lower upper : F) (equation : row.sense ≡ sense.E) (lower_is : column.lower ≡ Some lower) (upper_is : column.upper ≡ Some upper) where
  row_there : (y : Number) → used y (row_lower row.sense (value row.right)) (row_upper row.sense (value row.right)) ≢ None
  row_there y = subst (λ s. used y (row_lower s (value row.right)) (row_upper s (value row.right)) ≢ None) (sym equation) (sign_there (number_cmp y (whole (pos 0))) y (value row.right) (value row.right))

  rows_there : (duals : List Number) → total (map (λ (p : Row F × Number). used p.1 (row_lower p.0.sense (value p.0.right)) (row_upper p.0.sense (value p.0.right))) (zip (row ∷ []) duals)) ≢ None
  rows_there [] = zero_there
  rows_there (y ∷ duals) = both_there (used y (row_lower row.sense (value row.right)) (row_upper row.sense (value row.right))) (total []) (row_there y) zero_there

  column_there : (d : Number) → used d (bound_value value column.lower) (bound_value value column.upper) ≢ None
  column_there d =
      subst (λ l. used d (bound_value value l) (bound_value value column.upper) ≢ None) (sym lower_is)
      (subst (λ u. used d (Some (value lower)) (bound_value value u) ≢ None) (sym upper_is) (sign_there (number_cmp d (whole (pos 0))) d (value lower) (value upper)))

  columns_there : (d : ℕ → Number) → total (map (λ (p : ℕ × Column F). used (d p.0) (bound_value value p.1.lower) (bound_value value p.1.upper)) (enumerate_from 0 (column ∷ []))) ≢ None
  columns_there d = both_there (used (d 0) (bound_value value column.lower) (bound_value value column.upper)) (total []) (column_there (d 0)) zero_there

  pub there : (lp : Lp F) → lp.rows ≡ row ∷ [] → lp.columns ≡ column ∷ [] → lp.maximize ≡ false → (duals : List Number) → objective_bound value true lp duals ≢ None
  there lp rows columns least duals =
      subst (λ b. (if b then high value lp (objective_costs lp) duals else low value lp (objective_costs lp) duals) ≢ None) (sym least)
      (both_there (rows_low value lp duals) (columns_low value lp (objective_costs lp) duals)
      (subst (λ rs. total (map (λ (p : Row F × Number). used p.1 (row_lower p.0.sense (value p.0.right)) (row_upper p.0.sense (value p.0.right))) (zip rs duals)) ≢ None) (sym rows) (rows_there duals))
      (subst (λ cs. total (map (λ (p : ℕ × Column F). used (reduced_cost value lp (objective_costs lp) duals p.0) (bound_value value p.1.lower) (bound_value value p.1.upper)) (enumerate_from 0 cs)) ≢ None) (sym columns) (columns_there (reduced_cost value lp (objective_costs lp) duals))))
