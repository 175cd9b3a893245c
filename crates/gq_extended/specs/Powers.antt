-- Powers of exact numbers with whole exponents, by repeated multiplication (Rudin, Principles of
-- Mathematical Analysis, chapter 1; any algebra text).
use Rattle.std.specs.Prelude.{ℕ, zero, suc, ℤ, pos, negsuc}
use Rattle.gq_number.specs.Number.{Number, whole, ◌*ℚ◌, inv_ℚ}

-- the product of n factors x; 1 for n = 0
unfoldable pub repeated_product : ℕ → Number → Number
repeated_product zero x = whole (pos 1)
repeated_product (suc n) x = x *ℚ repeated_product n x

-- x to the power n; for n below 0, the reciprocal of x to the power of the magnitude of n
unfoldable pub power_ℚ : Number → ℤ → Number
power_ℚ x (pos n) = repeated_product n x
power_ℚ x (negsuc n) = repeated_product (suc n) (inv_ℚ x)
