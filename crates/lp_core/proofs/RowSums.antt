-- The sum of a row as a sum over columns.
use Rattle.std.proofs.Common.{◌≡◌, ◌≢◌, ℕ, ◌+◌, ◌<◌, ◌≤◌, cond, eqb, pos, List, [], ◌∷◌, length, inl, inr, refl, sym, ap, ap₂, ◌∙◌, subst, arith, eq-eqb}
use Rattle.std.specs.List.{All, enumerate_from}
use Rattle.std.proofs.lemmas.Bool.{cases_eq}
use Rattle.std.proofs.lemmas.Bool.Decides.{nat_tests}
use Rattle.std.proofs.lemmas.List.Elements.{All-head, All-tail}
use Rattle.gq_number.specs.Number.{Number, whole, ◌+ℚ◌, ◌*ℚ◌}
use Rattle.gq_number.specs.Sums.{sum_by_ℚ}
use Rattle.gq_number.proofs.Ring.{zero-*ℚ, zero-+ℚ, +ℚ-*ℚ}
use Rattle.gq_number.proofs.Field.{+ℚ-zero}
use Rattle.gq_number.proofs.Sums.{sum_by_ℚ-nil, sum_by_ℚ-cons, sum_by_ℚ-zero, sum_by_ℚ-+ℚ}
use Rattle.lp_core.specs.Sums.{value_of_column, column_coefficient, row_sum}

-- sums of equal functions
pub sum_by_same : {X : Type 0} (f g : X → Number) (xs : List X) → ((x : X) → f x ≡ g x) → sum_by_ℚ f xs ≡ sum_by_ℚ g xs
sum_by_same f g xs e = ap (λ h. sum_by_ℚ h xs) (λ i x. e x i)

-- a number at one place
abbrev pub unit_at : ℕ → Number → ℕ → Number
unit_at k a j = cond (eqb k j) a (whole (pos 0))

unit_here : (k : ℕ) (a : Number) → unit_at k a k ≡ a
unit_here k a = rw (eq-eqb k k refl) refl

unit_there : (k j : ℕ) (a : Number) → k ≢ j → unit_at k a j ≡ whole (pos 0)
unit_there k j a other = grind (arith, nat_tests)

module _ {X : Type 0} (k : ℕ) (a : Number) (f : ℕ → Number) where
  -- places after it
  unit_sum_past : (n : ℕ) (xs : List X) → k < n → sum_by_ℚ (λ (q : ℕ × X). unit_at k a q.0 *ℚ f q.0) (enumerate_from n xs) ≡ whole (pos 0)
  unit_sum_past n [] h = sum_by_ℚ-nil _
  unit_sum_past n (x ∷ xs) h =
      let other : k ≢ n = omega arith in
      sum_by_ℚ-cons _ (n, x) (enumerate_from (n + 1) xs) ∙ ap₂ (λ u v. u *ℚ f n +ℚ v) (unit_there k n a other) (unit_sum_past (n + 1) xs (omega arith)) ∙ ap (λ u. u +ℚ whole (pos 0)) (zero-*ℚ (f n)) ∙ zero-+ℚ (whole (pos 0))

  -- the sum over places of a number at one of them
  pub unit_sum : (n : ℕ) (xs : List X) → n ≤ k → k < n + length xs → sum_by_ℚ (λ (q : ℕ × X). unit_at k a q.0 *ℚ f q.0) (enumerate_from n xs) ≡ a *ℚ f k
  unit_sum n [] low h = absurd (omega arith)
  unit_sum n (x ∷ xs) low h =
      sum_by_ℚ-cons _ (n, x) (enumerate_from (n + 1) xs) ∙ elim (cases_eq k n) [
        | inl e ↦ ap₂ (λ u v. u *ℚ f n +ℚ v) (subst (λ j. unit_at k a j ≡ a) e (unit_here k a)) (unit_sum_past (n + 1) xs (omega arith)) ∙ +ℚ-zero (a *ℚ f n) ∙ ap (λ j. a *ℚ f j) (sym e)
        | inr other ↦ ap₂ (λ u v. u *ℚ f n +ℚ v) (unit_there k n a other) (unit_sum (n + 1) xs (omega arith) (omega arith)) ∙ ap (λ u. u +ℚ a *ℚ f k) (zero-*ℚ (f n)) ∙ zero-+ℚ (a *ℚ f k)
      ]

module _ {F X : Type 0} (value : F → Number) (columns : List X) (x : List Number) where
  -- a row's sum, column by column
  pub row_by_columns : (entries : List (ℕ × F)) → All (λ (e : ℕ × F). e.0 < length columns) entries → sum_by_ℚ (λ (q : ℕ × X). column_coefficient value entries q.0 *ℚ value_of_column x q.0) (enumerate_from 0 columns) ≡ row_sum value entries x
  row_by_columns [] there =
      sum_by_same _ (λ (q : ℕ × X). whole (pos 0)) (enumerate_from 0 columns) (λ q. ap (λ u. u *ℚ value_of_column x q.0) (sum_by_ℚ-nil _) ∙ zero-*ℚ (value_of_column x q.0)) ∙ sum_by_ℚ-zero (enumerate_from 0 columns) ∙ sym (sum_by_ℚ-nil _)
  row_by_columns (e ∷ entries) there =
      let split = sum_by_same (λ (q : ℕ × X). column_coefficient value (e ∷ entries) q.0 *ℚ value_of_column x q.0) (λ (q : ℕ × X). unit_at e.0 (value e.1) q.0 *ℚ value_of_column x q.0 +ℚ column_coefficient value entries q.0 *ℚ value_of_column x q.0) (enumerate_from 0 columns)
      (λ q. ap (λ u. u *ℚ value_of_column x q.0) (sum_by_ℚ-cons _ e entries) ∙ +ℚ-*ℚ (unit_at e.0 (value e.1) q.0) (column_coefficient value entries q.0) (value_of_column x q.0)) in
      split
      ∙ sum_by_ℚ-+ℚ (λ (q : ℕ × X). unit_at e.0 (value e.1) q.0 *ℚ value_of_column x q.0) (λ (q : ℕ × X). column_coefficient value entries q.0 *ℚ value_of_column x q.0) (enumerate_from 0 columns)
      ∙ ap₂ (λ u v. u +ℚ v) (unit_sum e.0 (value e.1) (value_of_column x) 0 columns (omega arith) (omega (arith, All-head (λ (e : ℕ × F). e.0 < length columns) e entries there))) (row_by_columns entries (All-tail (λ (e : ℕ × F). e.0 < length columns) e entries there))
      ∙ sym (sum_by_ℚ-cons _ e entries)
