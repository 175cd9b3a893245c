-- Values that keep the rows of a standard form, and feasible points.
use Rattle.std.proofs.Common.{◌≡◌, ◌↔◌, ℕ, zero, suc, ◌+◌, ◌<◌, ◌≤◌, Bool, true, false, pos, inl, inr, List, [], ◌∷◌, length, map, get_or, Option, Some, None, refl, sym, ap, ap₂, ◌∙◌, subst, arith}
use Rattle.std.specs.Prelude.{if◌then◌else◌, ◌==◌}
use Rattle.std.specs.List.{All, enumerate_from}
use Rattle.std.proofs.lemmas.List.{length-map, get_or-map, get_or_past}
use Rattle.std.proofs.lemmas.List.Elements.{All-nil, All-cons, All-head, All-tail, All-append}
use Rattle.std.proofs.lemmas.Bool.{cases_lt}
use Rattle.gq_number.specs.Number.{Number, whole, ◌+ℚ◌, ◌-ℚ◌, ◌*ℚ◌, neg_ℚ}
use Rattle.gq_number.specs.Order.{◌≤ℚ◌}
use Rattle.gq_number.specs.Sums.{sum_by_ℚ}
use Rattle.gq_number.proofs.Order
use Rattle.gq_number.proofs.Ring.{ring_ℚ}
use Rattle.gq_number.proofs.Linear.{≤ℚ_from}
use Rattle.gq_number.proofs.Sums.{sum_by_ℚ-nil, sum_by_ℚ-cons, sum_by_ℚ-append}
use Rattle.lp_core.specs.declared.program.Sense.{Sense}
use Rattle.lp_core.specs.declared.program.Sense.TheVariants as sense
use Rattle.lp_core.specs.declared.program.Column.{Column}
use Rattle.lp_core.specs.declared.program.Row.{Row}
use Rattle.lp_core.specs.declared.program.Lp.{Lp}
use Rattle.lp_core.specs.Sums.{value_of_column, row_sum}
use Rattle.lp_core.specs.Feasible.{KeepsSense, KeepsRow, KeepsBounds, KeepsLower, KeepsUpper, bound_value, Feasible}
use Rattle.lp_core.specs.WellFormed.{IsWellFormed}
use Rattle.lp_core.specs.StandardForm as form
use Rattle.lp_core.proofs.Points.{entries_within}
use Rattle.lp_std.specs.InnerSteps.{spread_entries, rows_over, bounds_over}
use Rattle.lp_std.specs.Points.{AreAtLeastZero, sum_at, KeepsRows, objective_at}
use Rattle.lp_std.proofs.Shapes.{shift_for, length-numbered, columns_numbered}
use Rattle.lp_std.proofs.Sums.{All-append_left, All-append_right, range_entries, enumerated_range}

-- ---- columns

-- the value of a column is its bound and the change that its variables make
pub base_and_change : (c : ℕ × form.Shift) (y : List Number) → form.shifted_back c y ≡ form.base c.1 +ℚ form.changed_back c y
base_and_change (v, form.from_lower b) y = refl
base_and_change (v, form.from_upper b) y = simp ring_ℚ
base_and_change (v, form.free) y = simp ring_ℚ

-- a coefficient of a column, expressed by the column's variables
pub spread_at : (c : ℕ × form.Shift) (a : Number) (y : List Number) → sum_at (form.spread c.0 c.1 a) y ≡ a *ℚ form.changed_back c y
spread_at (v, form.from_lower b) a y = sum_by_ℚ-cons _ (v, a) [] ∙ ap (λ u. a *ℚ value_of_column y v +ℚ u) (sum_by_ℚ-nil _) ∙ simp ring_ℚ
spread_at (v, form.from_upper b) a y = sum_by_ℚ-cons _ (v, neg_ℚ a) [] ∙ ap (λ u. neg_ℚ a *ℚ value_of_column y v +ℚ u) (sum_by_ℚ-nil _) ∙ simp ring_ℚ
spread_at (v, form.free) a y =
    sum_by_ℚ-cons _ (v, a) ((v + 1, neg_ℚ a) ∷ [])
    ∙ ap (λ u. a *ℚ value_of_column y v +ℚ u) (sum_by_ℚ-cons _ (v + 1, neg_ℚ a) [] ∙ ap (λ u. neg_ℚ a *ℚ value_of_column y (v + 1) +ℚ u) (sum_by_ℚ-nil _))
    ∙ simp ring_ℚ

-- a column at its place, past the end one without effect
pub number_of-map : (columns : List (ℕ × form.Shift)) (f : ℕ × form.Shift → Number) (j : ℕ) → j < length columns → value_of_column (map f columns) j ≡ f (form.column_at columns j)
number_of-map columns f j h = get_or-map f columns j (0, form.free) (whole (pos 0)) h

-- the shift of a numbered column is its own
pub column_at-numbered : (n : ℕ) (shifts : List form.Shift) (j : ℕ) → j < length shifts → (form.column_at (form.numbered n shifts) j).1 ≡ get_or shifts j form.free
column_at-numbered n [] j h = absurd (omega arith)
column_at-numbered n (s ∷ shifts) zero h = refl
column_at-numbered n (s ∷ shifts) (suc j) h = column_at-numbered (n + form.width s) shifts j (omega arith)

-- ---- rows

module _ {F : Type 0} (value : F → Number) (columns : List (ℕ × form.Shift)) (y : List Number) where
  -- entries expressed by variables have the row's sum at the changes
  pub spread_changes : (entries : List (ℕ × F)) → All (λ (e : ℕ × F). e.0 < length columns) entries → sum_at (spread_entries value columns entries) y ≡ row_sum value entries (map (λ c. form.changed_back c y) columns)
  spread_changes [] there = sum_by_ℚ-nil _ ∙ sym (sum_by_ℚ-nil _)
  spread_changes (e ∷ entries) there =
      let here = All-head (λ (e : ℕ × F). e.0 < length columns) e entries there in
      sum_by_ℚ-append _ (form.spread (form.column_at columns e.0).0 (form.column_at columns e.0).1 (value e.1)) (spread_entries value columns entries)
      ∙ ap₂ (λ u w. u +ℚ w) (spread_at (form.column_at columns e.0) (value e.1) y ∙ ap (λ u. value e.1 *ℚ u) (sym (number_of-map columns (λ c. form.changed_back c y) e.0 here))) (spread_changes entries (All-tail (λ (e : ℕ × F). e.0 < length columns) e entries there))
      ∙ sym (sum_by_ℚ-cons _ e entries)

  -- the sum at the point is that at the changes and the bounds' part
  pub point_sum : (entries : List (ℕ × F)) → All (λ (e : ℕ × F). e.0 < length columns) entries → row_sum value entries (map (λ c. form.shifted_back c y) columns) ≡ sum_by_ℚ (λ (e : ℕ × F). value e.1 *ℚ form.base (form.column_at columns e.0).1) entries +ℚ sum_at (spread_entries value columns entries) y
  point_sum [] there = sum_by_ℚ-nil _ ∙ sym (ap₂ (λ u w. u +ℚ w) (sum_by_ℚ-nil _) (sum_by_ℚ-nil _) ∙ simp ring_ℚ)
  point_sum (e ∷ entries) there =
      let here = All-head (λ (e : ℕ × F). e.0 < length columns) e entries there in
      let c = form.column_at columns e.0 in
      sum_by_ℚ-cons _ e entries
      ∙ ap₂ (λ u w. value e.1 *ℚ u +ℚ w) (number_of-map columns (λ c. form.shifted_back c y) e.0 here ∙ base_and_change c y) (point_sum entries (All-tail (λ (e : ℕ × F). e.0 < length columns) e entries there))
      ∙ apart (value e.1) (form.base c.1) (form.changed_back c y) _ (sum_at (spread_entries value columns entries) y)
      ∙ ap₂ (λ u w. u +ℚ w) (sym (sum_by_ℚ-cons _ e entries)) (ap (λ u. u +ℚ sum_at (spread_entries value columns entries) y) (sym (spread_at c (value e.1) y)) ∙ sym (sum_by_ℚ-append _ (form.spread c.0 c.1 (value e.1)) (spread_entries value columns entries)))
    where
      apart : (a b d s t : Number) → a *ℚ (b +ℚ d) +ℚ (s +ℚ t) ≡ (a *ℚ b +ℚ s) +ℚ (a *ℚ d +ℚ t)
      apart a b d s t = simp ring_ℚ

-- differences that are equal, as sums
crossed : (a b c d : Number) → a -ℚ b ≡ c -ℚ d → d +ℚ a ≡ c +ℚ b
crossed a b c d e = apart a b d ∙ ap (λ u. u +ℚ (b +ℚ d)) e ∙ joined c d b
  where
    apart : (a b d : Number) → d +ℚ a ≡ (a -ℚ b) +ℚ (b +ℚ d)
    apart a b d = simp ring_ℚ

    joined : (c d b : Number) → (c -ℚ d) +ℚ (b +ℚ d) ≡ c +ℚ b
    joined c d b = simp ring_ℚ

-- a row with its sign changed
pub negated_at : (entries : List (ℕ × Number)) (y : List Number) → sum_at (map (λ (e : ℕ × Number). (e.0, neg_ℚ e.1)) entries) y ≡ neg_ℚ (sum_at entries y)
negated_at [] y = sum_by_ℚ-nil _ ∙ sym (ap neg_ℚ (sum_by_ℚ-nil _) ∙ simp ring_ℚ)
negated_at (e ∷ entries) y =
    sum_by_ℚ-cons _ (e.0, neg_ℚ e.1) (map (λ (e : ℕ × Number). (e.0, neg_ℚ e.1)) entries)
    ∙ ap (λ u. neg_ℚ e.1 *ℚ value_of_column y e.0 +ℚ u) (negated_at entries y)
    ∙ apart e.1 (value_of_column y e.0) (sum_at entries y)
    ∙ ap neg_ℚ (sym (sum_by_ℚ-cons _ e entries))
  where
    apart : (a b s : Number) → neg_ℚ a *ℚ b +ℚ neg_ℚ s ≡ neg_ℚ (a *ℚ b +ℚ s)
    apart a b s = simp ring_ℚ

module _ (y : List Number) where
  abbrev pub RowKept : form.StandardRow → Type 0
  RowKept row = sum_at row.entries y ≤ℚ row.right

  -- what a row of the standard form asks, by what its right side leaves
  module _ (r : form.StandardRow) (sum right : Number) (left : r.right -ℚ sum_at r.entries y ≡ right -ℚ sum) where
    up : RowKept r ↔ (sum ≤ℚ right)
    up = (λ h. ≤ℚ_from h (crossed r.right (sum_at r.entries y) right sum left), λ h. ≤ℚ_from h (crossed right sum r.right (sum_at r.entries y) (sym left)))

    down : (i : ℕ) → RowKept (form.negated_row i r) ↔ (right ≤ℚ sum)
    down i =
        let same = negated_at r.entries y in (
          λ h. ≤ℚ_from (subst (λ u. u ≤ℚ neg_ℚ r.right) same h) (turned right sum (sum_at r.entries y) r.right (crossed r.right (sum_at r.entries y) right sum left)),
          λ h. subst (λ u. u ≤ℚ neg_ℚ r.right) (sym same) (≤ℚ_from h (turned_back right sum (sum_at r.entries y) r.right (crossed r.right (sum_at r.entries y) right sum left))),
        )
      where
        turned : (right sum s r : Number) → sum +ℚ r ≡ right +ℚ s → right +ℚ neg_ℚ r ≡ sum +ℚ neg_ℚ s
        turned right sum s r e = apart right r s ∙ ap (λ u. u +ℚ (neg_ℚ s +ℚ neg_ℚ r)) (sym e) ∙ joined sum r s
          where
            apart : (right r s : Number) → right +ℚ neg_ℚ r ≡ right +ℚ s +ℚ (neg_ℚ s +ℚ neg_ℚ r)
            apart right r s = simp ring_ℚ

            joined : (sum r s : Number) → sum +ℚ r +ℚ (neg_ℚ s +ℚ neg_ℚ r) ≡ sum +ℚ neg_ℚ s
            joined sum r s = simp ring_ℚ

        turned_back : (right sum s r : Number) → sum +ℚ r ≡ right +ℚ s → neg_ℚ s +ℚ sum ≡ neg_ℚ r +ℚ right
        turned_back right sum s r e = apart sum r s ∙ ap (λ u. u +ℚ (neg_ℚ s +ℚ neg_ℚ r)) e ∙ joined right r s
          where
            apart : (sum r s : Number) → neg_ℚ s +ℚ sum ≡ sum +ℚ r +ℚ (neg_ℚ s +ℚ neg_ℚ r)
            apart sum r s = simp ring_ℚ

            joined : (right r s : Number) → right +ℚ s +ℚ (neg_ℚ s +ℚ neg_ℚ r) ≡ neg_ℚ r +ℚ right
            joined right r s = simp ring_ℚ

    pub by_sense : (s : Sense) (i : ℕ) → All RowKept (form.rows_by_sense s i r) ↔ KeepsSense s sum right
    by_sense sense.E i = (
      λ all. Order.≤ℚ_antisymm sum right (up.0 (All-head RowKept r (form.negated_row i r ∷ []) all)) ((down i).0 (All-head RowKept (form.negated_row i r) [] (All-tail RowKept r (form.negated_row i r ∷ []) all))),
      λ e. All-cons RowKept r (form.negated_row i r ∷ []) (up.1 (Order.≤ℚ_from_≡ sum right e)) (All-cons RowKept (form.negated_row i r) [] ((down i).1 (Order.≤ℚ_from_≡ right sum (sym e))) (All-nil RowKept)),
    )
    by_sense sense.L i = (λ all. up.0 (All-head RowKept r [] all), λ h. All-cons RowKept r [] (up.1 h) (All-nil RowKept))
    by_sense sense.G i =
        (λ all. (down i).0 (All-head RowKept (form.negated_row i r) [] all), λ h. All-cons RowKept (form.negated_row i r) [] ((down i).1 h) (All-nil RowKept))
    by_sense sense.N i = (λ _. tt, λ _. All-nil RowKept)

  -- ---- columns with two bounds

  one_entry : (v : ℕ) → sum_at ((v, whole (pos 1)) ∷ []) y ≡ value_of_column y v
  one_entry v = sum_by_ℚ-cons _ (v, whole (pos 1)) [] ∙ ap (λ u. whole (pos 1) *ℚ value_of_column y v +ℚ u) (sum_by_ℚ-nil _) ∙ simp ring_ℚ

  rises_from : (l x : Number) → whole (pos 0) ≤ℚ x → l ≤ℚ l +ℚ x
  rises_from l x h = ≤ℚ_from h (simp ring_ℚ)

  falls_from : (u x : Number) → whole (pos 0) ≤ℚ x → u -ℚ x ≤ℚ u
  falls_from u x h = ≤ℚ_from h (simp ring_ℚ)

  below : (l u x : Number) → x ≤ℚ u -ℚ l → l +ℚ x ≤ℚ u
  below l u x h = ≤ℚ_from h (simp ring_ℚ)

  below_back : (l u x : Number) → l +ℚ x ≤ℚ u → x ≤ℚ u -ℚ l
  below_back l u x h = ≤ℚ_from h (simp ring_ℚ)

  module _ (j v : ℕ) (above : whole (pos 0) ≤ℚ value_of_column y v) where
    pub by_bounds : (lower upper : Option Number) → All RowKept (form.bound_rows j v lower upper) ↔ (KeepsLower lower (form.shifted_back (v, form.shift_of lower upper) y) × KeepsUpper upper (form.shifted_back (v, form.shift_of lower upper) y))
    by_bounds (Some l) (Some u) =
        let row : form.StandardRow = record { right = u -ℚ l; entries = (v, whole (pos 1)) ∷ []; origin = form.of_bound j } in (
          λ all. (rises_from l (value_of_column y v) above, below l u (value_of_column y v) (subst (λ x. x ≤ℚ u -ℚ l) (one_entry v) (All-head RowKept row [] all))),
          λ h. All-cons RowKept row [] (subst (λ x. x ≤ℚ u -ℚ l) (sym (one_entry v)) (below_back l u (value_of_column y v) h.1)) (All-nil RowKept),
        )
    by_bounds (Some l) None = (λ _. (rises_from l (value_of_column y v) above, tt), λ _. All-nil RowKept)
    by_bounds None (Some u) = (λ _. (tt, falls_from u (value_of_column y v) above), λ _. All-nil RowKept)
    by_bounds None None = (λ _. (tt, tt), λ _. All-nil RowKept)

-- a value that is at least 0, also past the end
pub at_least_zero : (y : List Number) → AreAtLeastZero y → (v : ℕ) → whole (pos 0) ≤ℚ value_of_column y v
at_least_zero y all v =
    elim (cases_lt v (length y)) [
      | inl h ↦ all v (whole (pos 0)) h
      | inr h ↦ subst (λ x. whole (pos 0) ≤ℚ x) (sym (get_or_past y v (whole (pos 0)) h)) (Order.≤ℚ_refl (whole (pos 0)))
    ]

-- ---- the rows of a program

module _ {F : Type 0} (value : F → Number) (columns : List (ℕ × form.Shift)) (y : List Number) where
  -- what a row leaves at the point
  pub left_at : (i : ℕ) (row : Row F) → All (λ (e : ℕ × F). e.0 < length columns) row.entries → (value row.right -ℚ sum_by_ℚ (λ (e : ℕ × F). value e.1 *ℚ form.base (form.column_at columns e.0).1) row.entries) -ℚ sum_at (spread_entries value columns row.entries) y ≡ value row.right -ℚ row_sum value row.entries (map (λ c. form.shifted_back c y) columns)
  left_at i row there = joined (value row.right) _ (sum_at (spread_entries value columns row.entries) y) ∙ ap (λ u. value row.right -ℚ u) (sym (point_sum value columns y row.entries there))
    where
      joined : (a b c : Number) → (a -ℚ b) -ℚ c ≡ a -ℚ (b +ℚ c)
      joined a b c = simp ring_ℚ

  pub rows_kept : (i : ℕ) (rows : List (Row F)) → All (λ (row : Row F). All (λ (e : ℕ × F). e.0 < length columns) row.entries) rows → All (RowKept y) (rows_over value columns i rows) ↔ All (λ (row : Row F). KeepsRow value row (map (λ c. form.shifted_back c y) columns)) rows
  rows_kept i [] there = (λ _. All-nil (λ (row : Row F). KeepsRow value row (map (λ c. form.shifted_back c y) columns)), λ _. All-nil (RowKept y))
  rows_kept i (row ∷ rows) there =
      let entries = All-head (λ (row : Row F). All (λ (e : ℕ × F). e.0 < length columns) row.entries) row rows there in
      let made : form.StandardRow = record { right = value row.right -ℚ sum_by_ℚ (λ (e : ℕ × F). value e.1 *ℚ form.base (form.column_at columns e.0).1) row.entries; entries = spread_entries value columns row.entries; origin = form.of_row i } in
      let here = by_sense y made (row_sum value row.entries (map (λ c. form.shifted_back c y) columns)) (value row.right) (left_at i row entries) row.sense i in
      let rest = rows_kept (i + 1) rows (All-tail (λ (row : Row F). All (λ (e : ℕ × F). e.0 < length columns) row.entries) row rows there) in
      let first = form.rows_by_sense row.sense i made in (
        λ all. All-cons (λ (row : Row F). KeepsRow value row (map (λ c. form.shifted_back c y) columns)) row rows (here.0 (All-append_left (RowKept y) first (rows_over value columns (i + 1) rows) all)) (rest.0 (All-append_right (RowKept y) first (rows_over value columns (i + 1) rows) all)),
        λ all. All-append (RowKept y) first (rows_over value columns (i + 1) rows) (here.1 (All-head (λ (row : Row F). KeepsRow value row (map (λ c. form.shifted_back c y) columns)) row rows all)) (rest.1 (All-tail (λ (row : Row F). KeepsRow value row (map (λ c. form.shifted_back c y) columns)) row rows all)),
      )

  pub bounds_kept : (j : ℕ) (bounded : List (Column F)) → j + length bounded ≤ length columns → ((k : ℕ) (d : Column F) → k < length bounded → (form.column_at columns (j + k)).1 ≡ shift_for value (get_or bounded k d)) → AreAtLeastZero y → All (RowKept y) (bounds_over value columns j bounded) ↔ All (λ (p : ℕ × Column F). KeepsBounds value p.1 (value_of_column (map (λ c. form.shifted_back c y) columns) p.0)) (enumerate_from j bounded)
  bounds_kept j [] within shifts above = (λ _. All-nil (λ (p : ℕ × Column F). KeepsBounds value p.1 (value_of_column (map (λ c. form.shifted_back c y) columns) p.0)), λ _. All-nil (RowKept y))
  bounds_kept j (column ∷ bounded) within shifts above =
      let c = form.column_at columns j in
      let P : ℕ × Column F → Type 0 = λ (p : ℕ × Column F). KeepsBounds value p.1 (value_of_column (map (λ c. form.shifted_back c y) columns) p.0) in
      let shift : c.1 ≡ shift_for value column = ap (λ k. (form.column_at columns k).1) (let e : j ≡ j + 0 = omega arith in e) ∙ shifts 0 column (omega arith) in
      let level : value_of_column (map (λ c. form.shifted_back c y) columns) j ≡ form.shifted_back (c.0, shift_for value column) y = number_of-map columns (λ c. form.shifted_back c y) j (omega arith) ∙ ap (λ s. form.shifted_back (c.0, s) y) shift in
      let here = by_bounds y j c.0 (at_least_zero y above c.0) (bound_value value column.lower) (bound_value value column.upper) in
      let first = form.bound_rows j c.0 (bound_value value column.lower) (bound_value value column.upper) in
      let rest = bounds_kept (j + 1) bounded (omega arith) (λ k d h. ap (λ m. (form.column_at columns m).1) (let e : j + 1 + k ≡ j + suc k = omega arith in e) ∙ shifts (suc k) d (omega arith)) above in (
        λ all. All-cons P (j, column) (enumerate_from (j + 1) bounded) (subst (λ x. KeepsBounds value column x) (sym level) (here.0 (All-append_left (RowKept y) first (bounds_over value columns (j + 1) bounded) all))) (rest.0 (All-append_right (RowKept y) first (bounds_over value columns (j + 1) bounded) all)),
        λ all. All-append (RowKept y) first (bounds_over value columns (j + 1) bounded) (here.1 (subst (λ x. KeepsBounds value column x) level (All-head P (j, column) (enumerate_from (j + 1) bounded) all))) (rest.1 (All-tail P (j, column) (enumerate_from (j + 1) bounded) all)),
      )

-- ---- a program

module _ {F : Type 0} (value : F → Number) (lp : Lp F) (y : List Number) where
  pub columns_sized : length (form.columns_of value lp) ≡ length lp.columns
  columns_sized = length-numbered 1 (map (shift_for value) lp.columns) ∙ length-map lp.columns (shift_for value)

  pub same_points : IsWellFormed value lp → AreAtLeastZero y → KeepsRows (form.standard_form value lp) y ↔ Feasible value lp (form.point_of (form.standard_form value lp) y)
  same_points formed above =
      let columns = form.columns_of value lp in
      let rows = rows_kept value columns y 0 lp.rows (entries_within value lp (length columns) formed columns_sized) in
      let bounds = bounds_kept value columns y 0 lp.columns (omega (arith, columns_sized)) (λ k d h. ap (λ m. (form.column_at (form.columns_of value lp) m).1) (let c : 0 + k ≡ k = omega arith in c) ∙ column_at-numbered 1 (map (shift_for value) lp.columns) k (omega (arith, length-map lp.columns (shift_for value))) ∙ get_or-map (shift_for value) lp.columns k d form.free h) above in
      let first = rows_over value columns 0 lp.rows in
      let following = bounds_over value columns 0 lp.columns in (
        λ all. record { sized = length-map columns (λ c. form.shifted_back c y) ∙ columns_sized; bounds = bounds.0 (All-append_right (RowKept y) first following all); rows = rows.0 (All-append_left (RowKept y) first following all) },
        λ feasible. All-append (RowKept y) first following (rows.1 feasible.rows) (bounds.1 feasible.bounds),
      )

-- the variables of a column are among those of the form
pub spread_within : (low high v : ℕ) (s : form.Shift) (a : Number) → low ≤ v → v + form.width s ≤ high → All (λ (e : ℕ × Number). (low ≤ e.0) × (e.0 < high)) (form.spread v s a)
spread_within low high v (form.from_lower b) a from to = All-cons (λ (e : ℕ × Number). (low ≤ e.0) × (e.0 < high)) (v, a) [] (omega arith, omega arith) (All-nil (λ (e : ℕ × Number). (low ≤ e.0) × (e.0 < high)))
spread_within low high v (form.from_upper b) a from to = All-cons (λ (e : ℕ × Number). (low ≤ e.0) × (e.0 < high)) (v, neg_ℚ a) [] (omega arith, omega arith) (All-nil (λ (e : ℕ × Number). (low ≤ e.0) × (e.0 < high)))
spread_within low high v form.free a from to =
    All-cons (λ (e : ℕ × Number). (low ≤ e.0) × (e.0 < high)) (v, a) ((v + 1, neg_ℚ a) ∷ []) (omega arith, omega arith) (All-cons (λ (e : ℕ × Number). (low ≤ e.0) × (e.0 < high)) (v + 1, neg_ℚ a) [] (omega arith, omega arith) (All-nil (λ (e : ℕ × Number). (low ≤ e.0) × (e.0 < high))))

-- a multiple of a column as an objective
pub objective_sum : (count : ℕ) (c : ℕ × form.Shift) (a : Number) (y : List Number) → 1 ≤ c.0 → c.0 + form.width c.1 ≤ 1 + count → sum_at (enumerate_from 1 (form.objective_of count (form.spread c.0 c.1 a))) y ≡ a *ℚ form.changed_back c y
objective_sum count c a y from to =
    enumerated_range (λ v. sum_by_ℚ (λ (e : ℕ × Number). if e.0 == v then e.1 else whole (pos 0)) (form.spread c.0 c.1 a)) (λ v n. n *ℚ value_of_column y v) 1 count
    ∙ range_entries (value_of_column y) 1 count (form.spread c.0 c.1 a) (spread_within 1 (1 + count) c.0 c.1 a from to)
    ∙ spread_at c a y

directed_sum : (b : Bool) (x y : Number) → form.directed b x +ℚ form.directed b (whole (pos 1)) *ℚ y ≡ form.directed b (x +ℚ y)
directed_sum true x y = kept x y
  where
    kept : (x y : Number) → x +ℚ whole (pos 1) *ℚ y ≡ x +ℚ y
    kept x y = simp ring_ℚ
directed_sum false x y = turned x y
  where
    turned : (x y : Number) → neg_ℚ x +ℚ neg_ℚ (whole (pos 1)) *ℚ y ≡ neg_ℚ (x +ℚ y)
    turned x y = simp ring_ℚ

module _ {F : Type 0} (value : F → Number) (lp : Lp F) (y : List Number) where
  -- the number of the objective's first variable
  pub objective_numbered : IsWellFormed value lp → (1 ≤ (form.column_at (form.columns_of value lp) lp.objective).0) × ((form.column_at (form.columns_of value lp) lp.objective).0 + form.width (form.column_at (form.columns_of value lp) lp.objective).1 ≤ 1 + form.variables_of value lp)
  objective_numbered formed = columns_numbered value lp lp.objective (0, form.free) (omega (arith, formed.objective, columns_sized value lp y))

  pub same_objective : IsWellFormed value lp → objective_at (form.standard_form value lp) y ≡ form.directed lp.maximize (value_of_column (form.point_of (form.standard_form value lp) y) lp.objective)
  same_objective formed =
      let columns = form.columns_of value lp in
      let z = form.column_at columns lp.objective in
      let within = objective_numbered formed in
      ap (λ u. form.directed lp.maximize (form.base z.1) +ℚ u) (objective_sum (form.variables_of value lp) z (form.directed lp.maximize (whole (pos 1))) y within.0 within.1)
      ∙ directed_sum lp.maximize (form.base z.1) (form.changed_back z y)
      ∙ ap (form.directed lp.maximize) (sym (base_and_change z y) ∙ sym (number_of-map columns (λ c. form.shifted_back c y) lp.objective (omega (arith, formed.objective, columns_sized value lp y))))
