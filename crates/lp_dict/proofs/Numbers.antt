-- Whole numbers over one another as numbers of a field.
use Rattle.std.proofs.Common.{◌≡◌, ℕ, ◌<◌, ◌≤◌, true, false, ℤ, nat_abs, ap₂, ◌∙◌, arith}
use Rattle.gq_number.specs.Number.{ratio}
use Rattle.gq_number.proofs.Means.{ratio_means}
use Rattle.gq_field.specs.Fits.{fits}
use Rattle.lp_integer_dict.proofs.BoundLemmas.{fits_by_means}

-- whole numbers below a bound fit
pub small_fits : (bound limit : ℕ) (n : ℤ) (d : ℕ) → bound ≤ limit → 0 < d → nat_abs n ≤ bound → d ≤ bound → fits limit (ratio n d) ≡ true
small_fits bound limit n d most above top low = fits_by_means limit (ratio_means n d above) (omega arith) (omega arith)

-- a fraction that fits is not found not to fit
pub never : (limit : ℕ) (n m : ℤ) (d e : ℕ) → m ≡ n → e ≡ d → fits limit (ratio n d) ≡ true → fits limit (ratio m e) ≡ false → ⊥
never limit n m d e top low fit not_fit = absurd (let h : fits limit (ratio m e) ≡ true = ap₂ (λ x y. fits limit (ratio x y)) top low ∙ fit in cc)
