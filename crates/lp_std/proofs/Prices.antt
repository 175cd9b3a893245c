-- The coefficients of the standard form's variables as duals and reduced costs of the program.
use Rattle.std.proofs.Common.{◌≡◌, ℕ, suc, ◌+◌, ◌<◌, pos, List, [], ◌∷◌, ◌++◌, length, map, sym, ap, ap₂, ◌∙◌, arith}
use Rattle.std.specs.List.{All, zip, enumerate_from}
use Rattle.std.proofs.lemmas.List.Elements.{All-head, All-tail}
use Rattle.gq_number.specs.Number.{Number, whole, ◌+ℚ◌, ◌-ℚ◌, ◌*ℚ◌, neg_ℚ}
use Rattle.gq_number.specs.Sums.{sum_by_ℚ}
use Rattle.gq_number.proofs.Ring.{ring_ℚ}
use Rattle.gq_number.proofs.Sums.{sum_by_ℚ-nil, sum_by_ℚ-cons, sum_by_ℚ-append}
use Rattle.lp_core.specs.declared.program.Sense.{Sense}
use Rattle.lp_core.specs.declared.program.Sense.TheVariants as sense
use Rattle.lp_core.specs.declared.program.Row.{Row}
use Rattle.lp_core.specs.Sums.{value_of_column, row_sum}
use Rattle.lp_core.specs.StandardForm as form
use Rattle.lp_std.specs.InnerSteps.{rows_over, spread_entries}
use Rattle.lp_std.specs.Points.{sum_at}
use Rattle.lp_std.proofs.RowSteps.{counted_by_sense}
use Rattle.lp_std.proofs.SamePoints.{left_at, negated_at}

-- places in lists joined
pub enumerate-append : {X : Type 0} (a : ℕ) (xs ys : List X) → enumerate_from a (xs ++ ys) ≡ enumerate_from a xs ++ enumerate_from (a + length xs) ys
enumerate-append a [] ys = ap (λ k. enumerate_from k ys) (let e : a ≡ a + 0 = omega arith in e)
enumerate-append a (x ∷ xs) ys = ap (λ zs. (a, x) ∷ zs) (enumerate-append (a + 1) xs ys ∙ ap (λ k. enumerate_from (a + 1) xs ++ enumerate_from k ys) (let e : a + 1 + length xs ≡ a + suc (length xs) = omega arith in e))

-- what rows of the standard form leave, each times its coefficient; the first has number a
abbrev pub slack_sum : List Number → List Number → ℕ → List form.StandardRow → Number
slack_sum costs y a rows = sum_by_ℚ (λ (p : ℕ × form.StandardRow). value_of_column costs p.0 *ℚ (p.1.right -ℚ sum_at p.1.entries y)) (enumerate_from a rows)

pub slack_sum-append : (costs y : List Number) (a : ℕ) (xs ys : List form.StandardRow) → slack_sum costs y a (xs ++ ys) ≡ slack_sum costs y a xs +ℚ slack_sum costs y (a + length xs) ys
slack_sum-append costs y a xs ys = ap (sum_by_ℚ (λ (p : ℕ × form.StandardRow). value_of_column costs p.0 *ℚ (p.1.right -ℚ sum_at p.1.entries y))) (enumerate-append a xs ys) ∙ sum_by_ℚ-append _ (enumerate_from a xs) (enumerate_from (a + length xs) ys)

pub one_slack : (costs y : List Number) (a : ℕ) (row : form.StandardRow) → slack_sum costs y a (row ∷ []) ≡ value_of_column costs a *ℚ (row.right -ℚ sum_at row.entries y)
one_slack costs y a row = sum_by_ℚ-cons _ (a, row) [] ∙ ap (λ u. value_of_column costs a *ℚ (row.right -ℚ sum_at row.entries y) +ℚ u) (sum_by_ℚ-nil _) ∙ simp ring_ℚ

two_slacks : (costs y : List Number) (a : ℕ) (row next : form.StandardRow) → slack_sum costs y a (row ∷ next ∷ []) ≡ value_of_column costs a *ℚ (row.right -ℚ sum_at row.entries y) +ℚ value_of_column costs (a + 1) *ℚ (next.right -ℚ sum_at next.entries y)
two_slacks costs y a row next = sum_by_ℚ-cons _ (a, row) ((a + 1, next) ∷ []) ∙ ap (λ u. value_of_column costs a *ℚ (row.right -ℚ sum_at row.entries y) +ℚ u) (one_slack costs y (a + 1) next)

-- what a row with its sign changed leaves
negated_left : (i : ℕ) (row : form.StandardRow) (y : List Number) (left : Number) → row.right -ℚ sum_at row.entries y ≡ left → (form.negated_row i row).right -ℚ sum_at (form.negated_row i row).entries y ≡ neg_ℚ left
negated_left i row y left e = ap (λ u. neg_ℚ row.right -ℚ u) (negated_at row.entries y) ∙ turned row.right (sum_at row.entries y) ∙ ap neg_ℚ e
  where
    turned : (a b : Number) → neg_ℚ a -ℚ neg_ℚ b ≡ neg_ℚ (a -ℚ b)
    turned a b = simp ring_ℚ

module _ (costs y : List Number) (n : ℕ) where
  -- the rows of a program's row: its dual times what it leaves
  sense_sum : (s : Sense) (i r : ℕ) (row : form.StandardRow) (left : Number) → row.right -ℚ sum_at row.entries y ≡ left → slack_sum costs y (n + 1 + r) (form.rows_by_sense s i row) ≡ neg_ℚ (form.dual_by_sense s (form.multiplier n costs) r *ℚ left)
  sense_sum sense.E i r row left e =
      two_slacks costs y (n + 1 + r) row (form.negated_row i row)
      ∙ ap₂ (λ u w. value_of_column costs (n + 1 + r) *ℚ u +ℚ value_of_column costs (n + 1 + r + 1) *ℚ w) e (negated_left i row y left e)
      ∙ ap (λ k. value_of_column costs (n + 1 + r) *ℚ left +ℚ value_of_column costs k *ℚ neg_ℚ left) (let c : n + 1 + r + 1 ≡ n + 1 + (r + 1) = omega arith in c)
      ∙ apart (value_of_column costs (n + 1 + r)) (value_of_column costs (n + 1 + (r + 1))) left
    where
      apart : (a b l : Number) → a *ℚ l +ℚ b *ℚ neg_ℚ l ≡ neg_ℚ ((neg_ℚ a -ℚ neg_ℚ b) *ℚ l)
      apart a b l = simp ring_ℚ
  sense_sum sense.L i r row left e = one_slack costs y (n + 1 + r) row ∙ ap (λ u. value_of_column costs (n + 1 + r) *ℚ u) e ∙ apart (value_of_column costs (n + 1 + r)) left
    where
      apart : (a l : Number) → a *ℚ l ≡ neg_ℚ (neg_ℚ a *ℚ l)
      apart a l = simp ring_ℚ
  sense_sum sense.G i r row left e = one_slack costs y (n + 1 + r) (form.negated_row i row) ∙ ap (λ u. value_of_column costs (n + 1 + r) *ℚ u) (negated_left i row y left e) ∙ apart (value_of_column costs (n + 1 + r)) left
    where
      apart : (a l : Number) → a *ℚ neg_ℚ l ≡ neg_ℚ (neg_ℚ (neg_ℚ a) *ℚ l)
      apart a l = simp ring_ℚ
  sense_sum sense.N i r row left e = sum_by_ℚ-nil _ ∙ apart left
    where
      apart : (l : Number) → whole (pos 0) ≡ neg_ℚ (whole (pos 0) *ℚ l)
      apart l = simp ring_ℚ

  module _ {F : Type 0} (value : F → Number) (columns : List (ℕ × form.Shift)) where
    pub rows_sum : (i r : ℕ) (rows : List (Row F)) → All (λ (row : Row F). All (λ (e : ℕ × F). e.0 < length columns) row.entries) rows → slack_sum costs y (n + 1 + r) (rows_over value columns i rows) ≡ neg_ℚ (sum_by_ℚ (λ (q : Row F × Number). q.1 *ℚ (value q.0.right -ℚ row_sum value q.0.entries (map (λ c. form.shifted_back c y) columns))) (zip rows (form.duals_from (form.multiplier n costs) r rows)))
    rows_sum i r [] there = sum_by_ℚ-nil _ ∙ sym (ap neg_ℚ (sum_by_ℚ-nil _) ∙ simp ring_ℚ)
    rows_sum i r (row ∷ rows) there =
        let entries = All-head (λ (row : Row F). All (λ (e : ℕ × F). e.0 < length columns) row.entries) row rows there in
        let made : form.StandardRow = record { right = value row.right -ℚ sum_by_ℚ (λ (e : ℕ × F). value e.1 *ℚ form.base (form.column_at columns e.0).1) row.entries; entries = spread_entries value columns row.entries; origin = form.of_row i } in
        let left = value row.right -ℚ row_sum value row.entries (map (λ c. form.shifted_back c y) columns) in
        let dual = form.dual_by_sense row.sense (form.multiplier n costs) r in
        let count = form.rows_of_sense row.sense in
        slack_sum-append costs y (n + 1 + r) (form.rows_by_sense row.sense i made) (rows_over value columns (i + 1) rows)
        ∙ ap₂ (λ u w. u +ℚ w) (sense_sum row.sense i r made left (left_at value columns y i row entries)) (ap (λ k. slack_sum costs y k (rows_over value columns (i + 1) rows)) (ap (λ c. n + 1 + r + c) (counted_by_sense row.sense i made) ∙ (let c : n + 1 + r + form.rows_of_sense row.sense ≡ n + 1 + (r + form.rows_of_sense row.sense) = omega arith in c)) ∙ rows_sum (i + 1) (r + form.rows_of_sense row.sense) rows (All-tail (λ (row : Row F). All (λ (e : ℕ × F). e.0 < length columns) row.entries) row rows there))
        ∙ joined (dual *ℚ left) _
        ∙ ap neg_ℚ (sym (sum_by_ℚ-cons _ (row, dual) (zip rows (form.duals_from (form.multiplier n costs) (r + form.rows_of_sense row.sense) rows))))
      where
        joined : (a b : Number) → neg_ℚ a +ℚ neg_ℚ b ≡ neg_ℚ (a +ℚ b)
        joined a b = simp ring_ℚ
