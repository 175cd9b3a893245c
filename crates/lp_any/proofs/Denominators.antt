-- A common denominator of one number more.
use Rattle.std.proofs.Common.{◌≡◌, ℕ, suc, ◌+◌, ap₂, ◌∙◌, subst, arith}
use Rattle.lp_core.specs.Dictionary.{Dictionary}
use Rattle.lp_any.specs.Denominators.{multiple_of, row_denominator, column_denominator}

module _ (d : Dictionary) (after common denominator n : ℕ) (is : after ≡ multiple_of common denominator) where
  pub more_of_row : (row : ℕ) → common ≡ row_denominator d row n → denominator ≡ (d.numbers row n).denominator → after ≡ row_denominator d row (n + 1)
  more_of_row row so here =
      let one : suc n ≡ n + 1 = omega arith in
      subst (λ m. after ≡ row_denominator d row m) one (is ∙ ap₂ multiple_of so here)

  pub more_of_column : (column : ℕ) → common ≡ column_denominator d column n → denominator ≡ (d.numbers n column).denominator → after ≡ column_denominator d column (n + 1)
  more_of_column column so here =
      let one : suc n ≡ n + 1 = omega arith in
      subst (λ m. after ≡ column_denominator d column m) one (is ∙ ap₂ multiple_of so here)
