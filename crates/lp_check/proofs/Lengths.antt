-- How many steps there are: few enough to be counted.
use Rattle.std.proofs.Common.{◌≡◌, ℕ, ◌+◌, ◌*◌, ◌≤◌, Bool, true, false, List, [], ◌∷◌, length, Option, Some, None, pos, refl, arith}
use Rattle.std.specs.Prelude.{sum_by, if◌then◌else◌}
use Rattle.std.specs.declared.cmp.Ordering.{Ordering}
use Rattle.std.specs.declared.cmp.Ordering.TheVariants.{Less, Equal, Greater}
use Rattle.std.proofs.lemmas.List.{length-append}
use Rattle.std.proofs.lemmas.List.Sums.{sum_by-cons}
use Rattle.gq_number.specs.Number.{Number, whole}
use Rattle.gq_number.specs.Order.{number_cmp}
use Rattle.lp_core.specs.declared.program.Sense.{Sense}
use Rattle.lp_core.specs.declared.program.Sense.TheVariants as sense
use Rattle.lp_core.specs.declared.program.Column.{Column}
use Rattle.lp_core.specs.declared.program.Row.{Row}
use Rattle.lp_core.specs.declared.program.Lp.{Lp}
use Rattle.lp_core.specs.DualBound.{row_lower, row_upper}
use Rattle.lp_core.specs.Steps.{asks_nothing}
use Rattle.lp_core.specs.WellFormed.{rows_of_sense, variables_of_bounds, IsWellFormed}
use Rattle.lp_check.specs.BoundSteps.{plus_steps, plus_product, less_steps, less_product, bound_by_sign, bound_used, entry_of, entry_in, row_bound, column_bound, reduced_cost_bound_steps, all_reduced_steps, row_bound_steps, columns_steps}

few_plus : (limit : ℕ) (s f : Number) (bound : Option Number) → length (plus_steps limit s f bound) ≤ 2
few_plus limit s f None = omega arith
few_plus limit s f (Some b) = omega arith

few_less : (limit : ℕ) (s f : Number) (entry : Option Number) → length (less_steps limit s f entry) ≤ 2
few_less limit s f None = omega arith
few_less limit s f (Some a) = omega arith

unbounded : (o : Ordering) → bound_by_sign o None None ≡ None
unbounded Greater = refl
unbounded Equal = refl
unbounded Less = refl

less_by_sense : (limit : ℕ) (s y : Number) (n : Sense) (entry : Option Number) → length (less_steps limit s y (if asks_nothing n then None else entry)) ≤ 2 * rows_of_sense n
less_by_sense limit s y sense.E entry = omega (arith, few_less limit s y entry)
less_by_sense limit s y sense.L entry = few_less limit s y entry
less_by_sense limit s y sense.G entry = few_less limit s y entry
less_by_sense limit s y sense.N entry = omega arith

below_by_sense : (limit : ℕ) (s y right : Number) (n : Sense) → length (plus_steps limit s y (bound_used y (row_lower n right) (row_upper n right))) ≤ 2 * rows_of_sense n
below_by_sense limit s y right sense.E = omega (arith, few_plus limit s y (bound_used y (Some right) (Some right)))
below_by_sense limit s y right sense.L = few_plus limit s y (bound_used y None (Some right))
below_by_sense limit s y right sense.G = few_plus limit s y (bound_used y (Some right) None)
below_by_sense limit s y right sense.N = rw (unbounded (number_cmp y (whole (pos 0)))) (omega arith)

above_by_sense : (limit : ℕ) (s y right : Number) (n : Sense) → length (plus_steps limit s y (bound_used y (row_upper n right) (row_lower n right))) ≤ 2 * rows_of_sense n
above_by_sense limit s y right sense.E = omega (arith, few_plus limit s y (bound_used y (Some right) (Some right)))
above_by_sense limit s y right sense.L = few_plus limit s y (bound_used y (Some right) None)
above_by_sense limit s y right sense.G = few_plus limit s y (bound_used y None (Some right))
above_by_sense limit s y right sense.N = rw (unbounded (number_cmp y (whole (pos 0)))) (omega arith)

module _ {F : Type 0} (value : F → Number) (limit : ℕ) where
  abbrev valid : List (Row F) → ℕ
  valid rows = sum_by (λ (row : Row F). rows_of_sense row.sense) rows

  row_few : (above : Bool) (s y : Number) (row : Row F) → length (plus_steps limit s y (row_bound value above row y)) ≤ 2 * rows_of_sense row.sense
  row_few true s y row = above_by_sense limit s y (value row.right) row.sense
  row_few false s y row = below_by_sense limit s y (value row.right) row.sense

  reduced_few : (j : ℕ) (s : Number) (rows : List (Row F)) (ys : List Number) → length (reduced_cost_bound_steps value limit j s rows ys) ≤ 2 * valid rows
  reduced_few j s [] ys = omega arith
  reduced_few j s (row ∷ rows) [] = omega arith
  reduced_few j s (row ∷ rows) (y ∷ ys) =
      let a = less_steps limit s y (entry_in value j row) in
      let b = reduced_cost_bound_steps value limit j (less_product s y (entry_in value j row)) rows ys in
      let first = less_by_sense limit s y row.sense (entry_of value row.entries j) in
      let rest = reduced_few j (less_product s y (entry_in value j row)) rows ys in
      let split = sum_by-cons (λ (row : Row F). rows_of_sense row.sense) row rows in
      omega (arith, length-append a b)

  rows_few : (above : Bool) (s : Number) (rows : List (Row F)) (ys : List Number) → length (row_bound_steps value limit above s rows ys) ≤ 2 * valid rows
  rows_few above s [] ys = omega arith
  rows_few above s (row ∷ rows) [] = omega arith
  rows_few above s (row ∷ rows) (y ∷ ys) =
      let a = plus_steps limit s y (row_bound value above row y) in
      let b = row_bound_steps value limit above (plus_product s y (row_bound value above row y)) rows ys in
      let first = row_few above s y row in
      let rest = rows_few above (plus_product s y (row_bound value above row y)) rows ys in
      let split = sum_by-cons (λ (row : Row F). rows_of_sense row.sense) row rows in
      omega (arith, length-append a b)

  all_reduced_few : (costs : ℕ → Number) (rows : List (Row F)) (ys : List Number) (j : ℕ) (columns : List (Column F)) → 2 * valid rows ≤ 3000 → length (all_reduced_steps value limit costs rows ys j columns) ≤ 3000 * length columns
  all_reduced_few costs rows ys j [] h = omega arith
  all_reduced_few costs rows ys j (column ∷ columns) h =
      let a = reduced_cost_bound_steps value limit j (costs j) rows ys in
      let b = all_reduced_steps value limit costs rows ys (j + 1) columns in
      let first = reduced_few j (costs j) rows ys in
      let rest = all_reduced_few costs rows ys (j + 1) columns h in
      omega (arith, length-append a b)

  columns_few : (above : Bool) (d : ℕ → Number) (s : Number) (j : ℕ) (columns : List (Column F)) → length (columns_steps value limit above d s j columns) ≤ 2 * length columns
  columns_few above d s j [] = omega arith
  columns_few above d s j (column ∷ columns) =
      let a = plus_steps limit s (d j) (column_bound value above column (d j)) in
      let b = columns_steps value limit above d (plus_product s (d j) (column_bound value above column (d j))) (j + 1) columns in
      let first = few_plus limit s (d j) (column_bound value above column (d j)) in
      let rest = columns_few above d (plus_product s (d j) (column_bound value above column (d j))) (j + 1) columns in
      omega (arith, length-append a b)

one_each : {F : Type 0} (lower upper : Option F) → 1 ≤ variables_of_bounds lower upper
one_each None None = omega arith
one_each None (Some u) = omega arith
one_each (Some l) None = omega arith
one_each (Some l) (Some u) = omega arith

columns_counted : {F : Type 0} (columns : List (Column F)) → length columns ≤ sum_by (λ (column : Column F). variables_of_bounds column.lower column.upper) columns
columns_counted [] = omega arith
columns_counted {F} (column ∷ columns) =
    let one = one_each column.lower column.upper in
    let rest = columns_counted columns in
    let split = sum_by-cons (λ (column : Column F). variables_of_bounds column.lower column.upper) column columns in
    omega arith

module _ {F : Type 0} (value : F → Number) (limit : ℕ) (lp : Lp F) (formed : IsWellFormed value lp) where
  pub few_columns : length lp.columns ≤ 3000
  few_columns = omega (arith, columns_counted lp.columns, formed.columns_few)

  few_rows : 2 * sum_by (λ (row : Row F). rows_of_sense row.sense) lp.rows ≤ 3000
  few_rows = omega (arith, formed.rows_few)

  pub few_reduced : (costs : ℕ → Number) (ys : List Number) → length (all_reduced_steps value limit costs lp.rows ys 0 lp.columns) ≤ 9000000
  few_reduced costs ys = omega (arith, all_reduced_few value limit costs lp.rows ys 0 lp.columns few_rows, few_columns)

  pub few_by_rows : (above : Bool) (s : Number) (ys : List Number) → length (row_bound_steps value limit above s lp.rows ys) ≤ 3000
  few_by_rows above s ys = omega (arith, rows_few value limit above s lp.rows ys, few_rows)

  pub few_by_columns : (above : Bool) (d : ℕ → Number) (s : Number) → length (columns_steps value limit above d s 0 lp.columns) ≤ 6000
  few_by_columns above d s = omega (arith, columns_few value limit above d s 0 lp.columns, few_columns)
