-- What a ratio test tells of the cost of a variable.
use Rattle.std.proofs.Common.{◌≡◌, ℕ, inl, inr, Some, None, refl, ap, ◌∙◌}
use Rattle.std.specs.Prelude.{slice_get}
use Rattle.gq_number.specs.Number.{Number}
use Rattle.lp_core.specs.Dictionary.{Dictionary}
use Rattle.lp_core.specs.Steps.{ratio_steps}
use Rattle.lp_std.specs.declared.stop.Stop.{Stop}
use Rattle.lp_std.specs.declared.stop.Stop.TheVariants as stop
use Rattle.lp_fraction_dict.specs.Pivots.{IsLeaving, IsLimit}
use Rattle.lp_any.specs.Measures.{IsCostBy, cost_of_gain, cost_in_row, cost_in_both}

module _ (limit : ℕ) (d : Dictionary) (v : ℕ) (AtRow : Dictionary → ℕ → ℕ → ℕ → Type 0) where
  pub by_row : (leave n : ℕ) → IsLeaving d v (Some leave) → ((k : ℕ) → slice_get d.basic k ≡ Some leave → AtRow d v k n) → IsCostBy limit AtRow d v n
  by_row leave n leaving at = inr (inl (leaving.0.0, (leave, leaving, leaving.0.1), at leaving.0.0 leaving.0.1))

  pub unlimited : IsLeaving d v None → IsCostBy limit AtRow d v 0
  unlimited none = inl (none, refl)

  pub by_stop : (pivot : ℕ) (why : Stop) → IsLimit (ratio_steps limit pivot d v) why → IsCostBy limit AtRow d v 10000
  by_stop pivot (stop.Limit step) h = inr (inr (refl, (pivot, step, h)))
  by_stop pivot (stop.Crossed j) h = absurd h
  by_stop pivot stop.Memory h = absurd h

pub same_gain : (a b c x y z : Number) → a ≡ x → b ≡ y → c ≡ z → cost_of_gain a b c ≡ cost_of_gain x y z
same_gain a b c x y z coefficient constant number =
    ap (λ n. cost_of_gain n b c) coefficient ∙ ap (λ n. cost_of_gain x n c) constant ∙ ap (λ n. cost_of_gain x y n) number

pub same_in_row : (a b c x y z : Number) (m n : ℕ) → a ≡ x → b ≡ y → c ≡ z → m ≡ n → cost_in_row a b c m ≡ cost_in_row x y z n
same_in_row a b c x y z m n coefficient constant number in_row =
    ap (λ t. cost_in_row t b c m) coefficient ∙ ap (λ t. cost_in_row x t c m) constant ∙ ap (λ t. cost_in_row x y t m) number ∙ ap (cost_in_row x y z) in_row

pub same_in_both : (a b c x y z : Number) (m n i j : ℕ) → a ≡ x → b ≡ y → c ≡ z → m ≡ n → i ≡ j → cost_in_both a b c m i ≡ cost_in_both x y z n j
same_in_both a b c x y z m n i j coefficient constant number in_row in_column =
    ap (λ t. cost_in_both t b c m i) coefficient ∙ ap (λ t. cost_in_both x t c m i) constant ∙ ap (λ t. cost_in_both x y t m i) number
    ∙ ap (λ t. cost_in_both x y z t i) in_row ∙ ap (cost_in_both x y z n) in_column
