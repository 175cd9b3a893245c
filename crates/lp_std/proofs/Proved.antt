-- The recovered duals and reduced costs prove an optimum, or that there is no feasible point.
use Rattle.std.proofs.Common.{◌≡◌, ◌≢◌, ℕ, zero, suc, ◌+◌, ◌<◌, ◌≤◌, Bool, true, false, cond, eqb, pos, List, [], ◌∷◌, ◌++◌, length, map, Option, Some, refl, sym, ap, ap₂, ◌∙◌, subst, arith}
use Rattle.std.specs.Prelude.{sum_by}
use Rattle.std.specs.List.{All, zip, enumerate_from, range_with_len}
use Rattle.std.proofs.lemmas.List.{length-map, length-append}
use Rattle.std.proofs.lemmas.List.Sums.{sum_by-cons}
use Rattle.std.proofs.lemmas.List.FromFn.{length-map-range_with_len, get_or-map-range_with_len}
use Rattle.std.proofs.lemmas.List.Elements.{All-weaker}
use Rattle.gq_number.specs.Number.{Number, whole, ◌+ℚ◌, ◌-ℚ◌, ◌*ℚ◌, neg_ℚ}
use Rattle.gq_number.specs.Order.{◌≤ℚ◌}
use Rattle.gq_number.specs.Sums.{sum_by_ℚ}
use Rattle.gq_number.proofs.Ring.{ring_ℚ, *ℚ-zero, -ℚ-*ℚ}
use Rattle.gq_number.proofs.Field.{*ℚ_comm, *ℚ_assoc}
use Rattle.gq_number.proofs.Linear.{≤ℚ_from}
use Rattle.gq_number.proofs.Signs.{neg-zero-≤ℚ}
use Rattle.gq_number.proofs.Sums.{sum_by_ℚ-nil, sum_by_ℚ-cons, sum_by_ℚ-zero, sum_by_ℚ--ℚ, sum_by_ℚ-*ℚ, sum_by_ℚ-*ℚ_right, sum_by_ℚ_exchanged, sum_by_ℚ_same}
use Rattle.lp_core.specs.declared.program.Column.{Column}
use Rattle.lp_core.specs.declared.program.Row.{Row}
use Rattle.lp_core.specs.declared.program.Lp.{Lp}
use Rattle.lp_core.specs.Sums.{value_of_column, column_coefficient, row_sum}
use Rattle.lp_core.specs.Feasible.{bound_value}
use Rattle.lp_core.specs.WellFormed.{IsWellFormed}
use Rattle.lp_core.specs.DualBound.{row_lower, row_upper, used, total, both, reduced_cost}
use Rattle.lp_core.specs.Proofs.{Crosses}
use Rattle.lp_core.specs.StandardForm as form
use Rattle.lp_core.proofs.RowSums.{sum_by_same, unit_sum, row_by_columns}
use Rattle.lp_core.proofs.Duality.{All-zip}
use Rattle.lp_core.proofs.Points.{entries_within}
use Rattle.lp_std.specs.InnerSteps.{rows_over, bounds_over}
use Rattle.lp_std.proofs.RowSteps.{counted_by_sense}
use Rattle.lp_std.proofs.Shapes.{shift_for, variables_counted}
use Rattle.lp_std.proofs.Sums.{unit_at, unit_here, unit_there}
use Rattle.lp_std.proofs.SamePoints.{columns_sized}
use Rattle.lp_std.proofs.Lasts.{Costs, priced_at}
use Rattle.lp_std.proofs.Prices.{slack_sum, slack_sum-append, rows_sum}
use Rattle.lp_std.proofs.Lifts.{slope, second, constant, by_columns, weighted, plain, lift, length-lift, lift_back, columns_sum}
use Rattle.lp_std.proofs.Totals.{rows_total, columns_total, directed-+ℚ}

directed_zero : (b : Bool) → form.directed b (whole (pos 0)) ≡ whole (pos 0)
directed_zero true = refl
directed_zero false = simp ring_ℚ

directed_neg : (b : Bool) (x : Number) → form.directed b (neg_ℚ x) ≡ neg_ℚ (form.directed b x)
directed_neg true x = refl
directed_neg false x = refl

pub directed_twice : (b : Bool) (x : Number) → form.directed b (form.directed b x) ≡ x
directed_twice true x = refl
directed_twice false x = simp ring_ℚ

-- ---- numbers picked out of a sum

-- sums over places of functions that agree at them
enumerate_same : {X : Type 0} (f g : ℕ → Number) (j : ℕ) (xs : List X) → ((k : ℕ) → j ≤ k → k < j + length xs → f k ≡ g k) → sum_by_ℚ (λ (q : ℕ × X). f q.0) (enumerate_from j xs) ≡ sum_by_ℚ (λ (q : ℕ × X). g q.0) (enumerate_from j xs)
enumerate_same f g j [] e = sum_by_ℚ-nil _ ∙ sym (sum_by_ℚ-nil _)
enumerate_same f g j (x ∷ xs) e =
    sum_by_ℚ-cons _ (j, x) (enumerate_from (j + 1) xs) ∙ ap₂ (λ u w. u +ℚ w) (e j (omega arith) (omega arith)) (enumerate_same f g (j + 1) xs (λ k low high. e k (omega arith) (omega arith))) ∙ sym (sum_by_ℚ-cons _ (j, x) (enumerate_from (j + 1) xs))

weighted_none : (j : ℕ) (xs : List Number) → weighted (λ v. whole (pos 0)) j xs ≡ whole (pos 0)
weighted_none j [] = sum_by_ℚ-nil _
weighted_none j (a ∷ xs) = sum_by_ℚ-cons _ (j, a) (enumerate_from (j + 1) xs) ∙ ap₂ (λ u w. u +ℚ w) (*ℚ-zero a) (weighted_none (j + 1) xs) ∙ simp ring_ℚ

weighted_past : (j k : ℕ) (xs : List Number) → k < j → weighted (unit_at k (whole (pos 1))) j xs ≡ whole (pos 0)
weighted_past j k [] h = sum_by_ℚ-nil _
weighted_past j k (a ∷ xs) h =
    let other : k ≢ j = omega arith in
    sum_by_ℚ-cons _ (j, a) (enumerate_from (j + 1) xs) ∙ ap₂ (λ u w. a *ℚ u +ℚ w) (unit_there k j (whole (pos 1)) other) (weighted_past (j + 1) k xs (omega arith)) ∙ nothing a
  where
    nothing : (a : Number) → a *ℚ whole (pos 0) +ℚ whole (pos 0) ≡ whole (pos 0)
    nothing a = simp ring_ℚ

weighted_unit : (j k : ℕ) (xs : List Number) → k < length xs → weighted (unit_at (j + k) (whole (pos 1))) j xs ≡ value_of_column xs k
weighted_unit j k [] h = absurd (omega arith)
weighted_unit j zero (a ∷ xs) h =
    sum_by_ℚ-cons _ (j, a) (enumerate_from (j + 1) xs)
    ∙ ap₂ (λ u w. a *ℚ u +ℚ w) (ap (λ k. unit_at k (whole (pos 1)) j) (let e : j + 0 ≡ j = omega arith in e) ∙ unit_here j (whole (pos 1))) (weighted_past (j + 1) (j + 0) xs (omega arith)) ∙ alone a
  where
    alone : (a : Number) → a *ℚ whole (pos 1) +ℚ whole (pos 0) ≡ a
    alone a = simp ring_ℚ
weighted_unit j (suc k) (a ∷ xs) h =
    let other : j + suc k ≢ j = omega arith in
    sum_by_ℚ-cons _ (j, a) (enumerate_from (j + 1) xs)
    ∙ ap₂ (λ u w. a *ℚ u +ℚ w) (unit_there (j + suc k) j (whole (pos 1)) other) (ap (λ m. weighted (unit_at m (whole (pos 1))) (j + 1) xs) (let e : j + suc k ≡ j + 1 + k = omega arith in e) ∙ weighted_unit (j + 1) k xs (omega arith)) ∙ rest a (value_of_column xs k)
  where
    rest : (a b : Number) → a *ℚ whole (pos 0) +ℚ b ≡ b
    rest a b = simp ring_ℚ

length-by_columns : {F : Type 0} (value : F → Number) (costs : List Number) (n : ℕ) (f : ℕ → ℕ → Option F → Option F → Number) (v r : ℕ) (columns : List (Column F)) → length (by_columns value costs n f v r columns) ≡ length columns
length-by_columns value costs n f v r [] = refl
length-by_columns value costs n f v r (column ∷ columns) = ap (λ k. suc k) (length-by_columns value costs n f (v + form.width (shift_for value column)) (r + form.rows_of_bounds column.lower column.upper) columns)

-- ---- duals in the direction of the objective

directed_zip : {X : Type 0} (b : Bool) (h : X → Number) (xs : List X) (duals : List Number) → sum_by_ℚ (λ (q : X × Number). q.1 *ℚ h q.0) (zip xs (map (form.directed b) duals)) ≡ form.directed b (sum_by_ℚ (λ (q : X × Number). q.1 *ℚ h q.0) (zip xs duals))
directed_zip b h [] duals = sum_by_ℚ-nil _ ∙ sym (ap (form.directed b) (sum_by_ℚ-nil _) ∙ directed_zero b)
directed_zip b h (x ∷ xs) [] = sum_by_ℚ-nil _ ∙ sym (ap (form.directed b) (sum_by_ℚ-nil _) ∙ directed_zero b)
directed_zip b h (x ∷ xs) (y ∷ duals) =
    sum_by_ℚ-cons _ (x, form.directed b y) (zip xs (map (form.directed b) duals))
    ∙ ap₂ (λ u w. u +ℚ w) (times b y (h x)) (directed_zip b h xs duals)
    ∙ sym (ap (form.directed b) (sum_by_ℚ-cons _ (x, y) (zip xs duals)) ∙ directed-+ℚ b (y *ℚ h x) (sum_by_ℚ _ (zip xs duals)))
  where
    times : (b : Bool) (y a : Number) → form.directed b y *ℚ a ≡ form.directed b (y *ℚ a)
    times true y a = refl
    times false y a = simp ring_ℚ

pub rows_over_counted : {F : Type 0} (value : F → Number) (columns : List (ℕ × form.Shift)) (i : ℕ) (rows : List (Row F)) → length (rows_over value columns i rows) ≡ sum_by (λ (row : Row F). form.rows_of_sense row.sense) rows
rows_over_counted value columns i [] = refl
rows_over_counted {F} value columns i (row ∷ rows) =
    length-append (form.rows_by_sense row.sense i _) (rows_over value columns (i + 1) rows)
    ∙ ap₂ (λ a b. a + b) (counted_by_sense row.sense i _) (rows_over_counted value columns (i + 1) rows)
    ∙ sym (sum_by-cons (λ (row : Row F). form.rows_of_sense row.sense) row rows)

-- the value at a point of the rows, each times its factor, and of the reduced costs
costs_apart : {F : Type 0} (value : F → Number) (lp : Lp F) (factors x : List Number) (prices : ℕ → Number) → All (λ (row : Row F). All (λ (e : ℕ × F). e.0 < length lp.columns) row.entries) lp.rows → sum_by_ℚ (λ (p : Row F × Number). p.1 *ℚ row_sum value p.0.entries x) (zip lp.rows factors) +ℚ sum_by_ℚ (λ (q : ℕ × Column F). reduced_cost value lp prices factors q.0 *ℚ value_of_column x q.0) (enumerate_from 0 lp.columns) ≡ sum_by_ℚ (λ (q : ℕ × Column F). prices q.0 *ℚ value_of_column x q.0) (enumerate_from 0 lp.columns)
costs_apart {F} value lp factors x prices there =
    let rows = zip lp.rows factors in
    let columns = enumerate_from 0 lp.columns in
    let part = λ (j : ℕ). sum_by_ℚ (λ (p : Row F × Number). p.1 *ℚ column_coefficient value p.0.entries j) rows in
    let at_rows = sum_by_ℚ (λ (p : Row F × Number). p.1 *ℚ row_sum value p.0.entries x) rows in
    let exchanged : sum_by_ℚ (λ (q : ℕ × Column F). part q.0 *ℚ value_of_column x q.0) columns ≡ at_rows =
    sum_by_same _ (λ (q : ℕ × Column F). sum_by_ℚ (λ (p : Row F × Number). p.1 *ℚ column_coefficient value p.0.entries q.0 *ℚ value_of_column x q.0) rows) columns (λ q. sym (sum_by_ℚ-*ℚ_right (value_of_column x q.0) (λ (p : Row F × Number). p.1 *ℚ column_coefficient value p.0.entries q.0) rows))
    ∙ sum_by_ℚ_exchanged (λ (q : ℕ × Column F) (p : Row F × Number). p.1 *ℚ column_coefficient value p.0.entries q.0 *ℚ value_of_column x q.0) columns rows
    ∙ sum_by_ℚ_same _ (λ (p : Row F × Number). p.1 *ℚ row_sum value p.0.entries x) rows
    (All-weaker (λ (p : Row F × Number). All (λ (e : ℕ × F). e.0 < length lp.columns) p.0.entries) _
    (λ p inside. sum_by_same _ (λ (q : ℕ × Column F). p.1 *ℚ (column_coefficient value p.0.entries q.0 *ℚ value_of_column x q.0)) columns (λ q. *ℚ_assoc p.1 (column_coefficient value p.0.entries q.0) (value_of_column x q.0)) ∙ sum_by_ℚ-*ℚ p.1 (λ (q : ℕ × Column F). column_coefficient value p.0.entries q.0 *ℚ value_of_column x q.0) columns ∙ ap (λ u. p.1 *ℚ u) (row_by_columns value lp.columns x p.0.entries inside))
    rows (All-zip (λ (row : Row F). All (λ (e : ℕ × F). e.0 < length lp.columns) row.entries) lp.rows factors there)) in
    ap (λ u. at_rows +ℚ u)
    (sum_by_same (λ (q : ℕ × Column F). reduced_cost value lp prices factors q.0 *ℚ value_of_column x q.0) (λ (q : ℕ × Column F). prices q.0 *ℚ value_of_column x q.0 -ℚ part q.0 *ℚ value_of_column x q.0) columns (λ q. -ℚ-*ℚ (prices q.0) (part q.0) (value_of_column x q.0))
    ∙ sum_by_ℚ--ℚ (λ (q : ℕ × Column F). prices q.0 *ℚ value_of_column x q.0) (λ (q : ℕ × Column F). part q.0 *ℚ value_of_column x q.0) columns ∙ ap (λ u. sum_by_ℚ (λ (q : ℕ × Column F). prices q.0 *ℚ value_of_column x q.0) columns -ℚ u) exchanged)
    ∙ put_back at_rows (sum_by_ℚ (λ (q : ℕ × Column F). prices q.0 *ℚ value_of_column x q.0) columns)
  where
    put_back : (a b : Number) → a +ℚ (b -ℚ a) ≡ b
    put_back a b = simp ring_ℚ

module _ {F : Type 0} (value : F → Number) (lp : Lp F) (costs : List Number) where
  -- the duals, without direction, and the numbers of the columns
  abbrev pub duals : List Number
  duals = form.duals_from (form.multiplier (form.variables_of value lp) costs) 0 lp.rows

  abbrev pub own_place : ℕ
  own_place = sum_by (λ (row : Row F). form.rows_of_sense row.sense) lp.rows

  abbrev pub of_columns : (ℕ → ℕ → Option F → Option F → Number) → List Number
  of_columns f = by_columns value costs (form.variables_of value lp) f 1 own_place lp.columns

  abbrev pub slopes : List Number
  slopes = of_columns (slope value costs (form.variables_of value lp))

  abbrev pub seconds : List Number
  seconds = of_columns (second value costs (form.variables_of value lp))

  abbrev pub constants : List Number
  constants = of_columns (constant value costs (form.variables_of value lp))

  module _ (formed : IsWellFormed value lp) (x t : ℕ → Number) where
    abbrev shifts : List form.Shift
    shifts = map (shift_for value) lp.columns

    abbrev lifted : List Number
    lifted = whole (pos 0) ∷ lift x t shifts 0

    abbrev pub at_point : List Number
    at_point = map x (range_with_len 0 (length lp.columns))

    lifted_point : map (λ c. form.shifted_back c lifted) (form.columns_of value lp) ≡ at_point
    lifted_point = lift_back x t shifts (whole (pos 0) ∷ []) lifted 1 0 refl refl ∙ ap (λ k. map x (range_with_len 0 k)) (length-map lp.columns (shift_for value))

    -- the value of the coefficients, in terms of the program
    pub priced_sum : priced_at (form.standard_form value lp) costs lifted ≡ (weighted x 0 slopes +ℚ weighted t 0 seconds +ℚ plain constants) +ℚ neg_ℚ (sum_by_ℚ (λ (q : Row F × Number). q.1 *ℚ (value q.0.right -ℚ row_sum value q.0.entries at_point)) (zip lp.rows duals))
    priced_sum =
        let n = form.variables_of value lp in
        let columns = form.columns_of value lp in
        let count : length (form.standard_form value lp).objective ≡ form.variables_of value lp = length-map-range_with_len _ 1 (form.variables_of value lp) in
        let g = λ (w : ℕ). value_of_column costs w *ℚ value_of_column lifted w in
        let first = rows_over value columns 0 lp.rows in
        let following = bounds_over value columns 0 lp.columns in
        let there = entries_within value lp (length columns) formed (columns_sized value lp lifted) in
        ap₂ (λ u w. u +ℚ w)
        (ap (λ k. sum_by_ℚ g (range_with_len 1 k)) (count ∙ variables_counted value lp))
        (ap (λ k. slack_sum costs lifted (k + 1) (first ++ following)) count ∙ slack_sum-append costs lifted (form.variables_of value lp + 1) first following
        ∙ ap₂ (λ u w. u +ℚ w)
        (ap (λ k. slack_sum costs lifted k first) (let c : form.variables_of value lp + 1 ≡ form.variables_of value lp + 1 + 0 = omega arith in c) ∙ rows_sum costs lifted (form.variables_of value lp) value columns 0 0 lp.rows there ∙ ap (λ X. neg_ℚ (sum_by_ℚ (λ (q : Row F × Number). q.1 *ℚ (value q.0.right -ℚ row_sum value q.0.entries X)) (zip lp.rows duals))) lifted_point)
        (ap (λ k. slack_sum costs lifted (form.variables_of value lp + 1 + k) following) (rows_over_counted value columns 0 lp.rows)))
        ∙ turned _ _ _
        ∙ ap (λ u. u +ℚ neg_ℚ (sum_by_ℚ (λ (q : Row F × Number). q.1 *ℚ (value q.0.right -ℚ row_sum value q.0.entries at_point)) (zip lp.rows duals)))
        (columns_sum x t value costs (form.variables_of value lp) columns lp.columns (whole (pos 0) ∷ []) lifted 1 own_place 0 refl refl (λ k. ap (form.column_at columns) (let c : 0 + k ≡ k = omega arith in c)))
      where
        turned : (a b c : Number) → a +ℚ (b +ℚ c) ≡ (a +ℚ c) +ℚ b
        turned a b c = simp ring_ℚ

  -- ---- the coefficients of a priced row, and a direction
  module _ (formed : IsWellFormed value lp) (start : Number) (target : List Number → Number) (are : Costs (form.standard_form value lp) costs start target) (b : Bool) (prices : ℕ → Number) (aim : (y : List Number) → form.directed b (target y) ≡ sum_by_ℚ (λ (q : ℕ × Column F). prices q.0 *ℚ value_of_column (form.point_of (form.standard_form value lp) y) q.0) (enumerate_from 0 lp.columns)) where
    abbrev pub back : List Number
    back = map (form.directed b) duals

    abbrev rights : Number
    rights = sum_by_ℚ (λ (q : Row F × Number). q.1 *ℚ value q.0.right) (zip lp.rows back)

    abbrev reduced_at : (ℕ → Number) → Number
    reduced_at x = sum_by_ℚ (λ (q : ℕ × Column F). reduced_cost value lp prices back q.0 *ℚ value_of_column (map x (range_with_len 0 (length lp.columns))) q.0) (enumerate_from 0 lp.columns)

    master : (x t : ℕ → Number) → form.directed b (weighted x 0 slopes) +ℚ form.directed b (weighted t 0 seconds) +ℚ form.directed b (plain constants) ≡ (form.directed b start +ℚ rights) +ℚ reduced_at x
    master x t =
        let y = whole (pos 0) ∷ lift x t (map (shift_for value) lp.columns) 0 in
        let X = map x (range_with_len 0 (length lp.columns)) in
        let sized : length y ≡ length (form.standard_form value lp).objective + 1 = omega (arith, length-lift x t (map (shift_for value) lp.columns) 0, variables_counted value lp, length-map-range_with_len (λ v. sum_by_ℚ (λ (e : ℕ × Number). cond (eqb e.0 v) e.1 (whole (pos 0))) (form.spread (form.column_at (form.columns_of value lp) lp.objective).0 (form.column_at (form.columns_of value lp) lp.objective).1 (form.directed lp.maximize (whole (pos 1))))) 1 (form.variables_of value lp)) in
        let A = weighted x 0 slopes in
        let B = weighted t 0 seconds in
        let C = plain constants in
        let D = sum_by_ℚ (λ (q : Row F × Number). q.1 *ℚ (value q.0.right -ℚ row_sum value q.0.entries X)) (zip lp.rows duals) in
        let R = sum_by_ℚ (λ (q : Row F × Number). q.1 *ℚ value q.0.right) (zip lp.rows duals) in
        let S = sum_by_ℚ (λ (q : Row F × Number). q.1 *ℚ row_sum value q.0.entries X) (zip lp.rows duals) in
        let identity : (A +ℚ B +ℚ C) +ℚ neg_ℚ D ≡ start +ℚ target y = sym (priced_sum formed x t) ∙ are.sums y sized refl in
        let split : D ≡ R -ℚ S = sum_by_same _ (λ (q : Row F × Number). q.1 *ℚ value q.0.right -ℚ q.1 *ℚ row_sum value q.0.entries X) (zip lp.rows duals) (λ q. apart q.1 (value q.0.right) (row_sum value q.0.entries X)) ∙ sum_by_ℚ--ℚ (λ (q : Row F × Number). q.1 *ℚ value q.0.right) (λ (q : Row F × Number). q.1 *ℚ row_sum value q.0.entries X) (zip lp.rows duals) in
        let point : form.directed b (target y) ≡ sum_by_ℚ (λ (q : ℕ × Column F). prices q.0 *ℚ value_of_column X q.0) (enumerate_from 0 lp.columns) = aim y ∙ ap (λ Z. sum_by_ℚ (λ (q : ℕ × Column F). prices q.0 *ℚ value_of_column Z q.0) (enumerate_from 0 lp.columns)) (lifted_point formed x t) in
        let whole_sum = costs_apart value lp back X prices (entries_within value lp (length lp.columns) formed refl) in
        solved (form.directed b A) (form.directed b B) (form.directed b C) (form.directed b R) (form.directed b S) (form.directed b start) (reduced_at x)
        (sym (directed-+ℚ b (A +ℚ B +ℚ C) (neg_ℚ (R -ℚ S)) ∙ ap₂ (λ u w. u +ℚ w) (directed-+ℚ b (A +ℚ B) C ∙ ap (λ u. u +ℚ form.directed b C) (directed-+ℚ b A B)) (directed_neg b (R -ℚ S) ∙ ap neg_ℚ (directed-ℚ b R S))) ∙ ap (form.directed b) (ap (λ u. (A +ℚ B +ℚ C) +ℚ neg_ℚ u) (sym split) ∙ identity) ∙ directed-+ℚ b start (target y) ∙ ap (λ u. form.directed b start +ℚ u) (point ∙ sym whole_sum ∙ ap (λ u. u +ℚ reduced_at x) (directed_zip b (λ (row : Row F). row_sum value row.entries X) lp.rows duals)))
        ∙ ap (λ u. (form.directed b start +ℚ u) +ℚ reduced_at x) (sym (directed_zip b (λ (row : Row F). value row.right) lp.rows duals))
      where
        apart : (a r s : Number) → a *ℚ (r -ℚ s) ≡ a *ℚ r -ℚ a *ℚ s
        apart a r s = simp ring_ℚ

        directed-ℚ : (b : Bool) (r s : Number) → form.directed b (r -ℚ s) ≡ form.directed b r -ℚ form.directed b s
        directed-ℚ true r s = refl
        directed-ℚ false r s = simp ring_ℚ

        solved : (a c d r s k q : Number) → (a +ℚ c +ℚ d) +ℚ neg_ℚ (r -ℚ s) ≡ k +ℚ (s +ℚ q) → a +ℚ c +ℚ d ≡ (k +ℚ r) +ℚ q
        solved a c d r s k q e = one a c d r s ∙ ap (λ z. z +ℚ (r -ℚ s)) e ∙ two k r s q
          where
            one : (a c d r s : Number) → a +ℚ c +ℚ d ≡ ((a +ℚ c +ℚ d) +ℚ neg_ℚ (r -ℚ s)) +ℚ (r -ℚ s)
            one a c d r s = simp ring_ℚ

            two : (k r s q : Number) → (k +ℚ (s +ℚ q)) +ℚ (r -ℚ s) ≡ (k +ℚ r) +ℚ q
            two k r s q = simp ring_ℚ

    reduced_sum : (x : ℕ → Number) → reduced_at x ≡ sum_by_ℚ (λ (q : ℕ × Column F). reduced_cost value lp prices back q.0 *ℚ x q.0) (enumerate_from 0 lp.columns)
    reduced_sum x =
        enumerate_same (λ j. reduced_cost value lp prices back j *ℚ value_of_column (map x (range_with_len 0 (length lp.columns))) j) (λ j. reduced_cost value lp prices back j *ℚ x j) 0 lp.columns
        (λ k low high. ap (λ u. reduced_cost value lp prices back k *ℚ u) (get_or-map-range_with_len x 0 (length lp.columns) k k (whole (pos 0)) (omega arith) (omega arith)))

    reduced_none : reduced_at (λ v. whole (pos 0)) ≡ whole (pos 0)
    reduced_none =
        reduced_sum (λ v. whole (pos 0)) ∙ sum_by_same (λ (q : ℕ × Column F). reduced_cost value lp prices back q.0 *ℚ whole (pos 0)) (λ (q : ℕ × Column F). whole (pos 0)) (enumerate_from 0 lp.columns) (λ q. *ℚ-zero (reduced_cost value lp prices back q.0)) ∙ sum_by_ℚ-zero (enumerate_from 0 lp.columns)

    reduced_unit : (k : ℕ) → k < length lp.columns → reduced_at (unit_at k (whole (pos 1))) ≡ reduced_cost value lp prices back k
    reduced_unit k h =
        reduced_sum (unit_at k (whole (pos 1)))
        ∙ sum_by_same (λ (q : ℕ × Column F). reduced_cost value lp prices back q.0 *ℚ unit_at k (whole (pos 1)) q.0) (λ (q : ℕ × Column F). unit_at k (whole (pos 1)) q.0 *ℚ reduced_cost value lp prices back q.0) (enumerate_from 0 lp.columns) (λ q. *ℚ_comm (reduced_cost value lp prices back q.0) (unit_at k (whole (pos 1)) q.0))
        ∙ unit_sum k (whole (pos 1)) (reduced_cost value lp prices back) 0 lp.columns (omega arith) (omega arith) ∙ one_times (reduced_cost value lp prices back k)
      where
        one_times : (a : Number) → whole (pos 1) *ℚ a ≡ a
        one_times a = simp ring_ℚ

    constants_sum : form.directed b (plain constants) ≡ form.directed b start +ℚ rights
    constants_sum =
        lone (form.directed b (plain constants))
        ∙ sym (ap₂ (λ u w. u +ℚ w +ℚ form.directed b (plain constants)) (ap (form.directed b) (weighted_none 0 slopes) ∙ directed_zero b) (ap (form.directed b) (weighted_none 0 seconds) ∙ directed_zero b))
        ∙ master (λ v. whole (pos 0)) (λ v. whole (pos 0))
        ∙ ap (λ u. (form.directed b start +ℚ rights) +ℚ u) reduced_none ∙ ends (form.directed b start +ℚ rights)
      where
        lone : (c : Number) → c ≡ whole (pos 0) +ℚ whole (pos 0) +ℚ c
        lone c = simp ring_ℚ

        ends : (c : Number) → c +ℚ whole (pos 0) ≡ c
        ends c = simp ring_ℚ

    pub slopes_are : (k : ℕ) → k < length lp.columns → reduced_cost value lp prices back k ≡ form.directed b (value_of_column slopes k)
    slopes_are k h =
        sym (cancelled (form.directed b (value_of_column slopes k)) (form.directed b (plain constants)) (form.directed b start +ℚ rights) (reduced_cost value lp prices back k) constants_sum
        (sym (ap₂ (λ u w. u +ℚ w +ℚ form.directed b (plain constants)) (ap (form.directed b) (ap (λ m. weighted (unit_at m (whole (pos 1))) 0 slopes) (let c : k ≡ 0 + k = omega arith in c) ∙ weighted_unit 0 k slopes (omega (arith, length-by_columns value costs (form.variables_of value lp) (slope value costs (form.variables_of value lp)) 1 own_place lp.columns)))) (ap (form.directed b) (weighted_none 0 seconds) ∙ directed_zero b))
        ∙ master (unit_at k (whole (pos 1))) (λ v. whole (pos 0))
        ∙ ap (λ u. (form.directed b start +ℚ rights) +ℚ u) (reduced_unit k h)))
      where
        cancelled : (a c k q : Number) → c ≡ k → a +ℚ whole (pos 0) +ℚ c ≡ k +ℚ q → a ≡ q
        cancelled a c k q e f = one a c ∙ ap₂ (λ u w. u -ℚ w) f e ∙ two k q
          where
            one : (a c : Number) → a ≡ (a +ℚ whole (pos 0) +ℚ c) -ℚ c
            one a c = simp ring_ℚ

            two : (k q : Number) → (k +ℚ q) -ℚ k ≡ q
            two k q = simp ring_ℚ

    pub seconds_are : (k : ℕ) → k < length lp.columns → value_of_column seconds k ≡ whole (pos 0)
    seconds_are k h =
        sym (directed_twice b (value_of_column seconds k)) ∙ ap (form.directed b) (cancelled (form.directed b (value_of_column seconds k)) (form.directed b (plain constants)) (form.directed b start +ℚ rights) constants_sum
        (sym (ap₂ (λ u w. u +ℚ w +ℚ form.directed b (plain constants)) (ap (form.directed b) (weighted_none 0 slopes) ∙ directed_zero b) (ap (form.directed b) (ap (λ m. weighted (unit_at m (whole (pos 1))) 0 seconds) (let c : k ≡ 0 + k = omega arith in c) ∙ weighted_unit 0 k seconds (omega (arith, length-by_columns value costs (form.variables_of value lp) (second value costs (form.variables_of value lp)) 1 own_place lp.columns)))))
        ∙ master (λ v. whole (pos 0)) (unit_at k (whole (pos 1)))
        ∙ ap (λ u. (form.directed b start +ℚ rights) +ℚ u) reduced_none)) ∙ directed_zero b
      where
        cancelled : (a c k : Number) → c ≡ k → whole (pos 0) +ℚ a +ℚ c ≡ k +ℚ whole (pos 0) → a ≡ whole (pos 0)
        cancelled a c k e f = one a c ∙ ap₂ (λ u w. u -ℚ w) f e ∙ two k
          where
            one : (a c : Number) → a ≡ (whole (pos 0) +ℚ a +ℚ c) -ℚ c
            one a c = simp ring_ℚ

            two : (k : Number) → (k +ℚ whole (pos 0)) -ℚ k ≡ whole (pos 0)
            two k = simp ring_ℚ

    -- the used bounds have a sum, which in the objective's direction is at most the negated start
    pub bound_is : All (λ (column : Column F). ¬ (Crosses value column.lower column.upper)) lp.columns → (t : Number) × (both (total (map (λ (q : Row F × Number). used q.1 (cond b (row_upper q.0.sense (value q.0.right)) (row_lower q.0.sense (value q.0.right))) (cond b (row_lower q.0.sense (value q.0.right)) (row_upper q.0.sense (value q.0.right)))) (zip lp.rows back))) (total (map (λ (q : ℕ × Column F). used (reduced_cost value lp prices back q.0) (cond b (bound_value value q.1.upper) (bound_value value q.1.lower)) (cond b (bound_value value q.1.lower) (bound_value value q.1.upper))) (enumerate_from 0 lp.columns))) ≡ Some t) × (form.directed b t ≤ℚ neg_ℚ start)
    bound_is ordered =
        let rows = rows_total value b (form.multiplier (form.variables_of value lp) costs) (λ k. neg-zero-≤ℚ (value_of_column costs (form.variables_of value lp + 1 + k)) (are.below (form.variables_of value lp + 1 + k) (omega arith))) 0 lp.rows in
        let columns = columns_total value b costs (form.variables_of value lp) are.below (reduced_cost value lp prices back) lp.columns 1 own_place 0 (omega arith) ordered (λ k h. ap (reduced_cost value lp prices back) (let c : 0 + k ≡ k = omega arith in c) ∙ slopes_are k h) seconds_are in (
          rights +ℚ columns.0,
          ap₂ both rows columns.1,
          subst (λ u. u ≤ℚ neg_ℚ start) (sym (directed-+ℚ b rights columns.0)) (≤ℚ_from columns.2 (balanced b (form.directed b rights) (form.directed b columns.0) (plain constants) start (sym (directed_twice b (plain constants)) ∙ ap (form.directed b) constants_sum ∙ directed-+ℚ b (form.directed b start) rights ∙ ap (λ u. u +ℚ form.directed b rights) (directed_twice b start)))),
        )
      where
        balanced : (b : Bool) (r u c k : Number) → c ≡ k +ℚ r → (r +ℚ u) +ℚ neg_ℚ c ≡ neg_ℚ k +ℚ u
        balanced b r u c k e = ap (λ z. (r +ℚ u) +ℚ neg_ℚ z) e ∙ rest r u k
          where
            rest : (r u k : Number) → (r +ℚ u) +ℚ neg_ℚ (k +ℚ r) ≡ neg_ℚ k +ℚ u
            rest r u k = simp ring_ℚ
