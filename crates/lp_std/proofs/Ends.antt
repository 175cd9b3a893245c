-- The program's rows and bounds prove what the recovery gives.
use Rattle.std.proofs.Common.{◌≡◌, ℕ, suc, ◌+◌, ◌<◌, ◌≤◌, Bool, true, false, cond, pos, List, [], ◌∷◌, length, map, get_or, Option, Some, None, refl, sym, ap, ap₂, ◌∙◌, subst, arith}
use Rattle.std.specs.List.{All, zip, enumerate_from}
use Rattle.std.proofs.lemmas.List.{length-map, get_or-map}
use Rattle.std.proofs.lemmas.List.FromFn.{length-map-range_with_len, fill_by_all}
use Rattle.std.proofs.lemmas.List.Elements.{All-nil, All-cons, All-head, All-tail, All-append, All-map}
use Rattle.gq_number.specs.Number.{Number, whole, ◌+ℚ◌, ◌-ℚ◌, ◌*ℚ◌, neg_ℚ}
use Rattle.gq_number.specs.Order.{◌≤ℚ◌, ◌<ℚ◌}
use Rattle.gq_number.specs.Sums.{sum_by_ℚ}
use Rattle.gq_number.proofs.Order
use Rattle.gq_number.proofs.Ring.{ring_ℚ, zero-*ℚ}
use Rattle.gq_number.proofs.Linear.{≤ℚ_from, <ℚ_from}
use Rattle.gq_number.proofs.Sums.{sum_by_ℚ-nil, sum_by_ℚ-cons, sum_by_ℚ-zero}
use Rattle.lp_core.specs.declared.answer.End.{End}
use Rattle.lp_core.specs.declared.answer.End.TheVariants.{Optimal, Infeasible, Unbounded, Interrupted}
use Rattle.lp_core.specs.declared.answer.EndKind.{EndKind}
use Rattle.lp_core.specs.declared.answer.EndKind.TheVariants as kind
use Rattle.lp_core.specs.declared.answer.Rule.TheVariants.{Legal}
use Rattle.lp_core.specs.Ends.{IsUnlimited, LeadsTo}
use Rattle.lp_core.specs.declared.program.Sense.{Sense}
use Rattle.lp_core.specs.declared.program.Sense.TheVariants as sense
use Rattle.lp_core.specs.declared.program.Column.{Column}
use Rattle.lp_core.specs.declared.program.Row.{Row}
use Rattle.lp_core.specs.declared.program.Lp.{Lp}
use Rattle.lp_core.specs.Sums.{value_of_column, row_sum}
use Rattle.lp_core.specs.Feasible.{bound_value, Feasible}
use Rattle.lp_core.specs.WellFormed.{IsWellFormed}
use Rattle.lp_core.specs.DualBound.{row_lower, row_upper, used, total, both, low, high, dual_bound, reduced_cost, objective_costs, no_costs}
use Rattle.lp_core.specs.Proofs.{Crosses, KeepsSenseAlong, KeepsLowerAlong, KeepsUpperAlong, ImprovesObjective, row_sums, ProvesOptimal, ProvesInfeasible, ProvesUnbounded, FirstCrossed, IsProved}
use Rattle.lp_core.specs.StandardForm as form
use Rattle.lp_core.specs.Dictionary.{Dictionary, constant_at, InPhaseOne, OpeningIsRequired}
use Rattle.lp_core.specs.Pivots.{NothingImproves, last_of, last_along}
use Rattle.lp_core.proofs.RowSums.{sum_by_same, unit_sum}
use Rattle.lp_core.proofs.Duality.{bound_below, bound_above}
use Rattle.lp_core.proofs.Points.{entries_within}
use Rattle.lp_std.specs.InnerSteps.{spread_entries, rows_over, bounds_over}
use Rattle.lp_std.specs.Points.{AreAtLeastZero, sum_at, objective_at}
use Rattle.lp_std.specs.Last.{IsDictionaryOf, IsReadAt}
use Rattle.lp_std.proofs.Shapes.{shift_for, columns_numbered}
use Rattle.lp_std.proofs.SamePoints.{number_of-map, column_at-numbered, spread_changes, negated_at, at_least_zero, spread_within, columns_sized, objective_sum, objective_numbered, same_points, same_objective}
use Rattle.lp_std.proofs.Sums.{All-append_left, All-append_right}
use Rattle.lp_std.proofs.First.{Within}
use Rattle.lp_std.proofs.Lasts.{Costs, values_above, values_keep, values_objective, changes_above, rows_along, objective_along, optimal_costs, infeasible_costs, infeasible_above}
use Rattle.lp_std.proofs.Lifts.{slope, second, by_columns}
use Rattle.lp_std.proofs.Proved.{directed_twice, own_place, slopes, seconds, slopes_are, seconds_are, bound_is}

-- ---- the entries of a standard form name its variables

module _ {F : Type 0} (value : F → Number) (n : ℕ) (columns : List (ℕ × form.Shift)) (numbered : All (λ (p : ℕ × form.Shift). (1 ≤ p.0) × (p.0 + form.width p.1 ≤ 1 + n)) columns) where
  spread_there : (entries : List (ℕ × F)) → All (λ (e : ℕ × F). e.0 < length columns) entries → Within n (spread_entries value columns entries)
  spread_there [] there = All-nil (λ (e : ℕ × Number). (1 ≤ e.0) × (e.0 < 1 + n))
  spread_there (e ∷ entries) there =
      let c = form.column_at columns e.0 in
      let within = numbered e.0 (0, form.free) (All-head (λ (e : ℕ × F). e.0 < length columns) e entries there) in
      All-append (λ (e : ℕ × Number). (1 ≤ e.0) × (e.0 < 1 + n)) (form.spread c.0 c.1 (value e.1)) (spread_entries value columns entries) (spread_within 1 (1 + n) c.0 c.1 (value e.1) within.0 within.1) (spread_there entries (All-tail (λ (e : ℕ × F). e.0 < length columns) e entries there))

  negated_there : (entries : List (ℕ × Number)) → Within n entries → Within n (map (λ (e : ℕ × Number). (e.0, neg_ℚ e.1)) entries)
  negated_there entries within = All-map (λ (e : ℕ × Number). (1 ≤ e.0) × (e.0 < 1 + n)) (λ (e : ℕ × Number). (e.0, neg_ℚ e.1)) entries within

  sense_there : (s : Sense) (i : ℕ) (row : form.StandardRow) → Within n row.entries → All (λ (row : form.StandardRow). Within n row.entries) (form.rows_by_sense s i row)
  sense_there sense.E i row within = All-cons (λ (row : form.StandardRow). Within n row.entries) row (form.negated_row i row ∷ []) within (All-cons (λ (row : form.StandardRow). Within n row.entries) (form.negated_row i row) [] (negated_there row.entries within) (All-nil (λ (row : form.StandardRow). Within n row.entries)))
  sense_there sense.L i row within = All-cons (λ (row : form.StandardRow). Within n row.entries) row [] within (All-nil (λ (row : form.StandardRow). Within n row.entries))
  sense_there sense.G i row within = All-cons (λ (row : form.StandardRow). Within n row.entries) (form.negated_row i row) [] (negated_there row.entries within) (All-nil (λ (row : form.StandardRow). Within n row.entries))
  sense_there sense.N i row within = All-nil (λ (row : form.StandardRow). Within n row.entries)

  rows_there : (i : ℕ) (rows : List (Row F)) → All (λ (row : Row F). All (λ (e : ℕ × F). e.0 < length columns) row.entries) rows → All (λ (row : form.StandardRow). Within n row.entries) (rows_over value columns i rows)
  rows_there i [] there = All-nil (λ (row : form.StandardRow). Within n row.entries)
  rows_there i (row ∷ rows) there =
      let made : form.StandardRow = record { right = value row.right -ℚ sum_by_ℚ (λ (e : ℕ × F). value e.1 *ℚ form.base (form.column_at columns e.0).1) row.entries; entries = spread_entries value columns row.entries; origin = form.of_row i } in
      All-append (λ (row : form.StandardRow). Within n row.entries) (form.rows_by_sense row.sense i made) (rows_over value columns (i + 1) rows) (sense_there row.sense i made (spread_there row.entries (All-head (λ (row : Row F). All (λ (e : ℕ × F). e.0 < length columns) row.entries) row rows there))) (rows_there (i + 1) rows (All-tail (λ (row : Row F). All (λ (e : ℕ × F). e.0 < length columns) row.entries) row rows there))

  bound_there : (j v : ℕ) → 1 ≤ v → v < 1 + n → (lower upper : Option Number) → All (λ (row : form.StandardRow). Within n row.entries) (form.bound_rows j v lower upper)
  bound_there j v low high (Some l) (Some u) =
      All-cons (λ (row : form.StandardRow). Within n row.entries) (record { right = u -ℚ l; entries = (v, whole (pos 1)) ∷ []; origin = form.of_bound j }) [] (All-cons (λ (e : ℕ × Number). (1 ≤ e.0) × (e.0 < 1 + n)) (v, whole (pos 1)) [] (low, high) (All-nil (λ (e : ℕ × Number). (1 ≤ e.0) × (e.0 < 1 + n)))) (All-nil (λ (row : form.StandardRow). Within n row.entries))
  bound_there j v low high (Some l) None = All-nil (λ (row : form.StandardRow). Within n row.entries)
  bound_there j v low high None (Some u) = All-nil (λ (row : form.StandardRow). Within n row.entries)
  bound_there j v low high None None = All-nil (λ (row : form.StandardRow). Within n row.entries)

  width_above : (s : form.Shift) → 1 ≤ form.width s
  width_above (form.from_lower b) = omega arith
  width_above (form.from_upper b) = omega arith
  width_above form.free = omega arith

  bounds_there : (j : ℕ) (bounded : List (Column F)) → j + length bounded ≤ length columns → All (λ (row : form.StandardRow). Within n row.entries) (bounds_over value columns j bounded)
  bounds_there j [] within_bound = All-nil (λ (row : form.StandardRow). Within n row.entries)
  bounds_there j (column ∷ bounded) within_bound =
      let c = form.column_at columns j in
      let within = numbered j (0, form.free) (omega arith) in
      All-append (λ (row : form.StandardRow). Within n row.entries) (form.bound_rows j c.0 (bound_value value column.lower) (bound_value value column.upper)) (bounds_over value columns (j + 1) bounded) (bound_there j c.0 within.0 (omega (arith, within.1, width_above c.1)) (bound_value value column.lower) (bound_value value column.upper)) (bounds_there (j + 1) bounded (omega arith))

module _ {F : Type 0} (value : F → Number) (lp : Lp F) (formed : IsWellFormed value lp) where
  pub count_is : length (form.standard_form value lp).objective ≡ form.variables_of value lp
  count_is = length-map-range_with_len _ 1 (form.variables_of value lp)

  pub within_form : All (λ (row : form.StandardRow). Within (length (form.standard_form value lp).objective) row.entries) (form.standard_form value lp).rows
  within_form =
      let columns = form.columns_of value lp in
      let n = form.variables_of value lp in
      let there = entries_within value lp (length columns) formed (columns_sized value lp []) in
      subst (λ k. All (λ (row : form.StandardRow). Within k row.entries) (form.rows_of value lp)) (sym count_is)
      (All-append (λ (row : form.StandardRow). Within n row.entries) (rows_over value columns 0 lp.rows) (bounds_over value columns 0 lp.columns) (rows_there value n columns (columns_numbered value lp) 0 lp.rows there) (bounds_there value n columns (columns_numbered value lp) 0 lp.columns (omega (arith, columns_sized value lp []))))

-- ---- rays

module _ {F : Type 0} (value : F → Number) (columns : List (ℕ × form.Shift)) (y : List Number) where
  abbrev RowAlong : form.StandardRow → Type 0
  RowAlong row = sum_at row.entries y ≤ℚ whole (pos 0)

  sense_along : (s : Sense) (i : ℕ) (r : form.StandardRow) (sum : Number) → sum_at r.entries y ≡ sum → All RowAlong (form.rows_by_sense s i r) → KeepsSenseAlong s sum
  sense_along s i r sum is all = by s all
    where
      up : sum_at r.entries y ≤ℚ whole (pos 0) → sum ≤ℚ whole (pos 0)
      up h = subst (λ u. u ≤ℚ whole (pos 0)) is h

      down : RowAlong (form.negated_row i r) → whole (pos 0) ≤ℚ sum
      down h = ≤ℚ_from (subst (λ u. u ≤ℚ whole (pos 0)) (negated_at r.entries y ∙ ap neg_ℚ is) h) (balanced sum)
        where
          balanced : (a : Number) → whole (pos 0) +ℚ whole (pos 0) ≡ a +ℚ neg_ℚ a
          balanced a = simp ring_ℚ

      by : (s : Sense) → All RowAlong (form.rows_by_sense s i r) → KeepsSenseAlong s sum
      by sense.E all = Order.≤ℚ_antisymm sum (whole (pos 0)) (up (All-head RowAlong r (form.negated_row i r ∷ []) all)) (down (All-head RowAlong (form.negated_row i r) [] (All-tail RowAlong r (form.negated_row i r ∷ []) all)))
      by sense.L all = up (All-head RowAlong r [] all)
      by sense.G all = down (All-head RowAlong (form.negated_row i r) [] all)
      by sense.N all = tt

  rows_kept_along : (i : ℕ) (rows : List (Row F)) → All (λ (row : Row F). All (λ (e : ℕ × F). e.0 < length columns) row.entries) rows → All RowAlong (rows_over value columns i rows) → All (λ (row : Row F). KeepsSenseAlong row.sense (row_sum value row.entries (map (λ c. form.changed_back c y) columns))) rows
  rows_kept_along i [] there all = All-nil (λ (row : Row F). KeepsSenseAlong row.sense (row_sum value row.entries (map (λ c. form.changed_back c y) columns)))
  rows_kept_along i (row ∷ rows) there all =
      let made : form.StandardRow = record { right = value row.right -ℚ sum_by_ℚ (λ (e : ℕ × F). value e.1 *ℚ form.base (form.column_at columns e.0).1) row.entries; entries = spread_entries value columns row.entries; origin = form.of_row i } in
      let first = form.rows_by_sense row.sense i made in
      let entries = All-head (λ (row : Row F). All (λ (e : ℕ × F). e.0 < length columns) row.entries) row rows there in
      All-cons (λ (row : Row F). KeepsSenseAlong row.sense (row_sum value row.entries (map (λ c. form.changed_back c y) columns))) row rows (sense_along row.sense i made (row_sum value row.entries (map (λ c. form.changed_back c y) columns)) (spread_changes value columns y row.entries entries) (All-append_left RowAlong first (rows_over value columns (i + 1) rows) all)) (rows_kept_along (i + 1) rows (All-tail (λ (row : Row F). All (λ (e : ℕ × F). e.0 < length columns) row.entries) row rows there) (All-append_right RowAlong first (rows_over value columns (i + 1) rows) all))

  one_entry : (v : ℕ) → sum_at ((v, whole (pos 1)) ∷ []) y ≡ value_of_column y v
  one_entry v = sum_by_ℚ-cons _ (v, whole (pos 1)) [] ∙ ap (λ u. whole (pos 1) *ℚ value_of_column y v +ℚ u) (sum_by_ℚ-nil _) ∙ simp ring_ℚ

  bound_along : (j v : ℕ) (lower upper : Option F) → whole (pos 0) ≤ℚ value_of_column y v → All RowAlong (form.bound_rows j v (bound_value value lower) (bound_value value upper)) → KeepsLowerAlong lower (form.changed_back (v, form.shift_of (bound_value value lower) (bound_value value upper)) y) × KeepsUpperAlong upper (form.changed_back (v, form.shift_of (bound_value value lower) (bound_value value upper)) y)
  bound_along j v (Some l) (Some u) above all =
      let row : form.StandardRow = record { right = value u -ℚ value l; entries = (v, whole (pos 1)) ∷ []; origin = form.of_bound j } in
      (above, subst (λ x. x ≤ℚ whole (pos 0)) (one_entry v) (All-head RowAlong row [] all))
  bound_along j v (Some l) None above all = (above, tt)
  bound_along j v None (Some u) above all = (tt, ≤ℚ_from above (balanced (value_of_column y v)))
    where
      balanced : (a : Number) → neg_ℚ a +ℚ a ≡ whole (pos 0) +ℚ whole (pos 0)
      balanced a = simp ring_ℚ
  bound_along j v None None above all = (tt, tt)

  bounds_kept_along : (j : ℕ) (bounded : List (Column F)) → j + length bounded ≤ length columns → ((k : ℕ) (d : Column F) → k < length bounded → (form.column_at columns (j + k)).1 ≡ shift_for value (get_or bounded k d)) → AreAtLeastZero y → All RowAlong (bounds_over value columns j bounded) → All (λ (p : ℕ × Column F). KeepsLowerAlong p.1.lower (value_of_column (map (λ c. form.changed_back c y) columns) p.0) × KeepsUpperAlong p.1.upper (value_of_column (map (λ c. form.changed_back c y) columns) p.0)) (enumerate_from j bounded)
  bounds_kept_along j [] within shifts above all = All-nil (λ (p : ℕ × Column F). KeepsLowerAlong p.1.lower (value_of_column (map (λ c. form.changed_back c y) columns) p.0) × KeepsUpperAlong p.1.upper (value_of_column (map (λ c. form.changed_back c y) columns) p.0))
  bounds_kept_along j (column ∷ bounded) within shifts above all =
      let c = form.column_at columns j in
      let P : ℕ × Column F → Type 0 = λ (p : ℕ × Column F). KeepsLowerAlong p.1.lower (value_of_column (map (λ c. form.changed_back c y) columns) p.0) × KeepsUpperAlong p.1.upper (value_of_column (map (λ c. form.changed_back c y) columns) p.0) in
      let shift : c.1 ≡ shift_for value column = ap (λ k. (form.column_at columns k).1) (let e : j ≡ j + 0 = omega arith in e) ∙ shifts 0 column (omega arith) in
      let level : value_of_column (map (λ c. form.changed_back c y) columns) j ≡ form.changed_back (c.0, shift_for value column) y = number_of-map columns (λ c. form.changed_back c y) j (omega arith) ∙ ap (λ s. form.changed_back (c.0, s) y) shift in
      let first = form.bound_rows j c.0 (bound_value value column.lower) (bound_value value column.upper) in
      All-cons P (j, column) (enumerate_from (j + 1) bounded) (subst (λ x. KeepsLowerAlong column.lower x × KeepsUpperAlong column.upper x) (sym level) (bound_along j c.0 column.lower column.upper (at_least_zero y above c.0) (All-append_left RowAlong first (bounds_over value columns (j + 1) bounded) all)))
      (bounds_kept_along (j + 1) bounded (omega arith) (λ k d h. ap (λ m. (form.column_at columns m).1) (let e : j + 1 + k ≡ j + suc k = omega arith in e) ∙ shifts (suc k) d (omega arith)) above (All-append_right RowAlong first (bounds_over value columns (j + 1) bounded) all))

-- ---- a program and a final dictionary of its standard form

-- reduced costs are the coefficients, where a free column has none
module _ {F : Type 0} (value : F → Number) (costs : List Number) (n : ℕ) (below : (w : ℕ) → 1 ≤ w → value_of_column costs w ≤ℚ whole (pos 0)) where
  none_of_two : (a c : Number) → a ≤ℚ whole (pos 0) → c ≤ℚ whole (pos 0) → a +ℚ c ≡ whole (pos 0) → a ≡ whole (pos 0)
  none_of_two a c low next e = Order.≤ℚ_antisymm a (whole (pos 0)) low (≤ℚ_from next (sum a c ∙ sym e))
    where
      sum : (a c : Number) → whole (pos 0) +ℚ whole (pos 0) ≡ whole (pos 0)
      sum a c = simp ring_ℚ

  reduced_is : (lower upper : Option F) (v r : ℕ) → 1 ≤ v → second value costs n v r lower upper ≡ whole (pos 0) → form.reduced_by_bounds costs (form.multiplier n costs) v r lower upper ≡ slope value costs n v r lower upper
  reduced_is (Some l) (Some u) v r past e = refl
  reduced_is (Some l) None v r past e = refl
  reduced_is None (Some u) v r past e = refl
  reduced_is None None v r past e = sym (none_of_two (value_of_column costs v) (value_of_column costs (v + 1)) (below v past) (below (v + 1) (omega arith)) e)

  pub reduced_are : (columns : List (Column F)) (v r : ℕ) → 1 ≤ v → ((k : ℕ) → k < length columns → value_of_column (by_columns value costs n (second value costs n) v r columns) k ≡ whole (pos 0)) → form.reduced_from costs (form.multiplier n costs) r (form.numbered v (map (shift_for value) columns)) columns ≡ by_columns value costs n (slope value costs n) v r columns
  reduced_are [] v r past seconds = refl
  reduced_are (column ∷ columns) v r past seconds =
      ap₂ (λ a more. a ∷ more) (reduced_is column.lower column.upper v r past (seconds 0 (omega arith))) (reduced_are columns (v + form.width (shift_for value column)) (r + form.rows_of_bounds column.lower column.upper) (omega arith) (λ k h. seconds (suc k) (omega arith)))

length-duals_from : {F : Type 0} (p : ℕ → Number) (r : ℕ) (rows : List (Row F)) → length (form.duals_from p r rows) ≡ length rows
length-duals_from p r [] = refl
length-duals_from p r (row ∷ rows) = ap (λ k. suc k) (length-duals_from p (r + form.rows_of_sense row.sense) rows)

length-of_columns : {F : Type 0} (value : F → Number) (numbers : List Number) (n : ℕ) (f : ℕ → ℕ → Option F → Option F → Number) (v r : ℕ) (columns : List (Column F)) → length (by_columns value numbers n f v r columns) ≡ length columns
length-of_columns value numbers n f v r [] = refl
length-of_columns value numbers n f v r (column ∷ columns) = ap (λ k. suc k) (length-of_columns value numbers n f (v + form.width (shift_for value column)) (r + form.rows_of_bounds column.lower column.upper) columns)

-- the bound in a direction, by cases
both_pick : {F : Type 0} (value : F → Number) (lp : Lp F) (prices : ℕ → Number) (factors : List Number) (b : Bool) (t : Number) → both (total (map (λ (q : Row F × Number). used q.1 (cond b (row_upper q.0.sense (value q.0.right)) (row_lower q.0.sense (value q.0.right))) (cond b (row_lower q.0.sense (value q.0.right)) (row_upper q.0.sense (value q.0.right)))) (zip lp.rows factors))) (total (map (λ (q : ℕ × Column F). used (reduced_cost value lp prices factors q.0) (cond b (bound_value value q.1.upper) (bound_value value q.1.lower)) (cond b (bound_value value q.1.lower) (bound_value value q.1.upper))) (enumerate_from 0 lp.columns))) ≡ Some t → cond b (high value lp prices factors) (low value lp prices factors) ≡ Some t
both_pick value lp prices factors true t e = e
both_pick value lp prices factors false t e = e

module _ {F : Type 0} (value : F → Number) (lp : Lp F) (formed : IsWellFormed value lp) (ordered : All (λ (column : Column F). ¬ (Crosses value column.lower column.upper)) lp.columns) (d : Dictionary) (is : IsDictionaryOf (form.standard_form value lp) d) (not_required : ¬ (OpeningIsRequired d)) where
  abbrev s : form.Standard
  s = form.standard_form value lp

  -- ---- phase 2
  module _ (phase_two : ¬ (InPhaseOne d)) where
    pub point_feasible : Feasible value lp (form.levels_back value lp (last_of d))
    point_feasible =
        (same_points value lp (last_of d).values formed (values_above (form.standard_form value lp) d is not_required (within_form value lp formed))).0 (values_keep (form.standard_form value lp) d is not_required (within_form value lp formed) phase_two)

    level_is : form.directed lp.maximize (value_of_column (form.levels_back value lp (last_of d)) lp.objective) ≡ whole (pos 0) -ℚ constant_at d (length d.basic)
    level_is = sym (same_objective value lp (last_of d).values formed) ∙ values_objective (form.standard_form value lp) d is not_required (within_form value lp formed) phase_two

    module _ (nothing : NothingImproves d) where
      priced : Costs (form.standard_form value lp) (last_of d).costs (constant_at d (length d.basic)) (objective_at (form.standard_form value lp))
      priced = optimal_costs (form.standard_form value lp) d is not_required (within_form value lp formed) phase_two nothing

      aim : (y : List Number) → form.directed lp.maximize (objective_at (form.standard_form value lp) y) ≡ sum_by_ℚ (λ (q : ℕ × Column F). objective_costs lp q.0 *ℚ value_of_column (form.point_of (form.standard_form value lp) y) q.0) (enumerate_from 0 lp.columns)
      aim y =
          ap (form.directed lp.maximize) (same_objective value lp y formed) ∙ directed_twice lp.maximize (value_of_column (form.point_of (form.standard_form value lp) y) lp.objective)
          ∙ sym (unit_sum lp.objective (whole (pos 1)) (value_of_column (form.point_of (form.standard_form value lp) y)) 0 lp.columns (omega arith) (omega (arith, formed.objective)) ∙ one_times (value_of_column (form.point_of (form.standard_form value lp) y) lp.objective))
        where
          one_times : (a : Number) → whole (pos 1) *ℚ a ≡ a
          one_times a = simp ring_ℚ

      bound_there_is : (t : Number) × (dual_bound value lp (form.duals_back value lp (last_of d)) ≡ Some t) × (form.directed lp.maximize t ≤ℚ neg_ℚ (constant_at d (length d.basic)))
      bound_there_is =
          let found = bound_is value lp (last_of d).costs formed (constant_at d (length d.basic)) (objective_at (form.standard_form value lp)) priced lp.maximize (objective_costs lp) aim ordered in
          (found.0, both_pick value lp (objective_costs lp) (form.duals_back value lp (last_of d)) lp.maximize found.0 found.1, found.2)

      bound_meets : (t z k : Number) → dual_bound value lp (form.duals_back value lp (last_of d)) ≡ Some t → z ≡ value_of_column (form.levels_back value lp (last_of d)) lp.objective → (b : Bool) → lp.maximize ≡ b → form.directed b t ≤ℚ neg_ℚ k → form.directed b z ≡ whole (pos 0) -ℚ k → t ≡ z
      bound_meets t z k e z_is true greatest most level =
          Order.≤ℚ_antisymm t z (≤ℚ_from most (balanced t k ∙ ap (λ u. u +ℚ t) (sym level))) (subst (λ u. u ≤ℚ t) (sym z_is) (bound_above value lp (form.duals_back value lp (last_of d)) (form.levels_back value lp (last_of d)) t formed point_feasible greatest e))
        where
          balanced : (t k : Number) → t +ℚ neg_ℚ k ≡ (whole (pos 0) -ℚ k) +ℚ t
          balanced t k = simp ring_ℚ
      bound_meets t z k e z_is false least most level =
          Order.≤ℚ_antisymm t z (subst (λ u. t ≤ℚ u) (sym z_is) (bound_below value lp (form.duals_back value lp (last_of d)) (form.levels_back value lp (last_of d)) t formed point_feasible least e)) (≤ℚ_from most (one z k ∙ ap (λ u. z +ℚ u) (sym level) ∙ two z t))
        where
          one : (z k : Number) → z +ℚ neg_ℚ k ≡ z +ℚ (whole (pos 0) -ℚ k)
          one z k = simp ring_ℚ

          two : (z t : Number) → z +ℚ neg_ℚ z ≡ t +ℚ neg_ℚ t
          two z t = simp ring_ℚ

      pub optimal_proved : ProvesOptimal value lp (form.levels_back value lp (last_of d)) (row_sums value lp (form.levels_back value lp (last_of d))) (form.duals_back value lp (last_of d)) (form.reduced_back value lp (last_of d))
      optimal_proved =
          let n = form.variables_of value lp in
          let K = constant_at d (length d.basic) in
          let numbers = slopes value lp (last_of d).costs in
          let zero_seconds = seconds_are value lp (last_of d).costs formed K (objective_at (form.standard_form value lp)) priced lp.maximize (objective_costs lp) aim in
          let found = bound_there_is in
          record {
            feasible = point_feasible;
            rows = refl;
            sized = length-map (form.duals_from (form.multiplier (form.variables_of value lp) (last_of d).costs) 0 lp.rows) (form.directed lp.maximize) ∙ length-duals_from (form.multiplier (form.variables_of value lp) (last_of d).costs) 0 lp.rows;
            reduced_costs =
                ap (map (form.directed lp.maximize)) (reduced_are value (last_of d).costs (form.variables_of value lp) priced.below lp.columns 1 (own_place value lp (last_of d).costs) (omega arith) zero_seconds)
                ∙ fill_by_all (λ j. reduced_cost value lp (objective_costs lp) (form.duals_back value lp (last_of d)) j) (map (form.directed lp.maximize) (slopes value lp (last_of d).costs)) (length lp.columns) (whole (pos 0))
                (length-map (slopes value lp (last_of d).costs) (form.directed lp.maximize) ∙ length-of_columns value (last_of d).costs (form.variables_of value lp) (slope value (last_of d).costs (form.variables_of value lp)) 1 (own_place value lp (last_of d).costs) lp.columns)
                (λ k h. get_or-map (form.directed lp.maximize) (slopes value lp (last_of d).costs) k (whole (pos 0)) (whole (pos 0)) (omega (arith, length-of_columns value (last_of d).costs (form.variables_of value lp) (slope value (last_of d).costs (form.variables_of value lp)) 1 (own_place value lp (last_of d).costs) lp.columns)) ∙ sym (slopes_are value lp (last_of d).costs formed K (objective_at (form.standard_form value lp)) priced lp.maximize (objective_costs lp) aim k h));
            bound = found.1 ∙ ap Some (bound_meets found.0 (value_of_column (form.levels_back value lp (last_of d)) lp.objective) K found.1 refl lp.maximize refl found.2 level_is);
          }

    -- ---- a ray
    module _ (q : ℕ) (unlimited : IsUnlimited Legal d q) where
      ray_objective : form.directed lp.maximize (value_of_column (form.ray_back value lp (last_along d q)) lp.objective) ≡ sum_at (enumerate_from 1 (form.standard_form value lp).objective) (last_along d q).changes
      ray_objective =
          let z = form.column_at (form.columns_of value lp) lp.objective in
          let within = objective_numbered value lp (last_along d q).changes formed in
          ap (form.directed lp.maximize) (number_of-map (form.columns_of value lp) (λ c. form.changed_back c (last_along d q).changes) lp.objective (omega (arith, formed.objective, columns_sized value lp (last_along d q).changes)))
          ∙ sym (objective_sum (form.variables_of value lp) z (form.directed lp.maximize (whole (pos 1))) (last_along d q).changes within.0 within.1 ∙ times lp.maximize (form.changed_back z (last_along d q).changes))
        where
          times : (b : Bool) (x : Number) → form.directed b (whole (pos 1)) *ℚ x ≡ form.directed b x
          times true x = one x
            where
              one : (x : Number) → whole (pos 1) *ℚ x ≡ x
              one x = simp ring_ℚ
          times false x = less x
            where
              less : (x : Number) → neg_ℚ (whole (pos 1)) *ℚ x ≡ neg_ℚ x
              less x = simp ring_ℚ

      better : (b : Bool) (x : Number) → whole (pos 0) <ℚ form.directed b x → ImprovesObjective b x
      better true x h = h
      better false x h = <ℚ_from h (balanced x)
        where
          balanced : (x : Number) → x +ℚ neg_ℚ x ≡ whole (pos 0) +ℚ whole (pos 0)
          balanced x = simp ring_ℚ

      pub unbounded_proved : ProvesUnbounded value lp (form.levels_back value lp (last_of d)) (row_sums value lp (form.levels_back value lp (last_of d))) (form.ray_back value lp (last_along d q))
      unbounded_proved =
          let y = (last_along d q).changes in
          let columns = form.columns_of value lp in
          let above = changes_above (form.standard_form value lp) d is not_required (within_form value lp formed) phase_two q unlimited in
          let rows = rows_along (form.standard_form value lp) d is not_required (within_form value lp formed) phase_two q unlimited in
          let first = rows_over value columns 0 lp.rows in
          let following = bounds_over value columns 0 lp.columns in
          let P = λ (row : form.StandardRow). sum_at row.entries y ≤ℚ whole (pos 0) in
          let bounds = bounds_kept_along value columns y 0 lp.columns (omega (arith, columns_sized value lp y)) (λ k d h. ap (λ m. (form.column_at columns m).1) (let c : 0 + k ≡ k = omega arith in c) ∙ column_at-numbered 1 (map (shift_for value) lp.columns) k (omega (arith, length-map lp.columns (shift_for value))) ∙ get_or-map (shift_for value) lp.columns k d form.free h) above (All-append_right P first following rows) in
          record {
            feasible = point_feasible;
            rows = refl;
            along = record {
              sized = length-map columns (λ c. form.changed_back c y) ∙ columns_sized value lp y;
              lower = λ k e h. (bounds k e h).0;
              upper = λ k e h. (bounds k e h).1;
              rows = rows_kept_along value columns y 0 lp.rows (entries_within value lp (length columns) formed (columns_sized value lp y)) (All-append_left P first following rows);
              better = better lp.maximize (value_of_column (form.ray_back value lp (last_along d q)) lp.objective) (subst (λ u. whole (pos 0) <ℚ u) (sym ray_objective) (objective_along (form.standard_form value lp) d is not_required (within_form value lp formed) phase_two q unlimited));
            };
          }

  -- ---- phase 1
  module _ (phase_one : InPhaseOne d) (nothing : NothingImproves d) where
    priced_one : Costs (form.standard_form value lp) (last_of d).costs (constant_at d phase_one.0) (λ y. whole (pos 0))
    priced_one = infeasible_costs (form.standard_form value lp) d is not_required (within_form value lp formed) phase_one nothing

    aim_none : (y : List Number) → form.directed false (whole (pos 0)) ≡ sum_by_ℚ (λ (q : ℕ × Column F). no_costs q.0 *ℚ value_of_column (form.point_of (form.standard_form value lp) y) q.0) (enumerate_from 0 lp.columns)
    aim_none y =
        none ∙ sym (sum_by_same (λ (q : ℕ × Column F). whole (pos 0) *ℚ value_of_column (form.point_of (form.standard_form value lp) y) q.0) (λ (q : ℕ × Column F). whole (pos 0)) (enumerate_from 0 lp.columns) (λ q. zero-*ℚ (value_of_column (form.point_of (form.standard_form value lp) y) q.0)) ∙ sum_by_ℚ-zero (enumerate_from 0 lp.columns))
      where
        none : neg_ℚ (whole (pos 0)) ≡ whole (pos 0)
        none = simp ring_ℚ

    pub infeasible_proved : ProvesInfeasible value lp (form.farkas_back value lp (last_of d))
    infeasible_proved =
        let k = constant_at d phase_one.0 in
        let found = bound_is value lp (last_of d).costs formed k (λ y. whole (pos 0)) priced_one false no_costs aim_none ordered in
        record {
          sized = length-map (form.duals_from (form.multiplier (form.variables_of value lp) (last_of d).costs) 0 lp.rows) neg_ℚ ∙ length-duals_from (form.multiplier (form.variables_of value lp) (last_of d).costs) 0 lp.rows;
          above = (found.0, found.1, Order.<ℚ-≤ℚ_trans (whole (pos 0)) k found.0 (infeasible_above (form.standard_form value lp) d is not_required (within_form value lp formed) phase_one) (≤ℚ_from found.2 (balanced k found.0)));
        }
      where
        balanced : (k t : Number) → k +ℚ neg_ℚ k ≡ t +ℚ neg_ℚ t
        balanced k t = simp ring_ℚ

-- ---- the recovered end is proved, whatever its kind

module _ {F : Type 0} (value : F → Number) (lp : Lp F) (formed : IsWellFormed value lp) (none : FirstCrossed value lp.columns None) (d : Dictionary) (is : IsDictionaryOf (form.standard_form value lp) d) where
  pub proved_at : (k : EndKind) (last : form.Last) → IsReadAt d k last → (end : End F) → LeadsTo value lp k last end → IsProved value lp end
  proved_at kind.Optimal last at (Optimal levels row_levels duals reduced) h =
      let proof = subst (λ l. ProvesOptimal value lp (form.levels_back value lp l) (row_sums value lp (form.levels_back value lp l)) (form.duals_back value lp l) (form.reduced_back value lp l)) (sym at.2) (optimal_proved value lp formed none d is at.1.0 at.0 at.1) in
      subst (λ x. ProvesOptimal value lp x (map value row_levels) (map value duals) (map value reduced)) (sym h.0)
      (subst (λ x. ProvesOptimal value lp (form.levels_back value lp last) x (map value duals) (map value reduced)) (sym h.1)
      (subst (λ x. ProvesOptimal value lp (form.levels_back value lp last) (row_sums value lp (form.levels_back value lp last)) x (map value reduced)) (sym h.2)
      (subst (λ x. ProvesOptimal value lp (form.levels_back value lp last) (row_sums value lp (form.levels_back value lp last)) (form.duals_back value lp last) x) (sym h.3) proof)))
  proved_at kind.Infeasible last at (Infeasible duals None) h =
      subst (λ x. ProvesInfeasible value lp x) (sym (h.0 ∙ ap (form.farkas_back value lp) at.2)) (infeasible_proved value lp formed none d is at.1.0 at.0 at.1)
  proved_at kind.Infeasible last at (Infeasible duals (Some j)) h = absurd (let clash : Some j ≡ None = h.1 in cc)
  proved_at kind.Unbounded last at (Unbounded levels row_levels ray) h =
      let q = at.1.0 in
      let unlimited = at.1.1 in
      let e = at.1.2 in
      let point : form.levels_back value lp last ≡ form.levels_back value lp (last_of d) = ap (λ l. form.levels_back value lp l) e in
      let proof = unbounded_proved value lp formed none d is unlimited.0 at.0 q unlimited in
      subst (λ x. ProvesUnbounded value lp x (map value row_levels) (map value ray)) (sym (h.0 ∙ point))
      (subst (λ x. ProvesUnbounded value lp (form.levels_back value lp (last_of d)) x (map value ray)) (sym (h.1 ∙ ap (row_sums value lp) point))
      (subst (λ x. ProvesUnbounded value lp (form.levels_back value lp (last_of d)) (row_sums value lp (form.levels_back value lp (last_of d))) x) (sym (h.2 ∙ ap (form.ray_back value lp) e)) proof))
  proved_at kind.Interrupted last at (Interrupted phase levels row_levels) h =
      subst (λ x. Feasible value lp x) (sym (h.1 ∙ ap (form.levels_back value lp) at.3)) (point_feasible value lp formed none d is at.1 at.0)
  proved_at k last at end h = absurd (h)
