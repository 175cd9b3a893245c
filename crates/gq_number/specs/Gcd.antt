-- The greatest common divisor of two counting numbers.
use Rattle.std.specs.Prelude.{ℕ, zero, suc, ◌%◌}

-- the first of the two numbers that Euclid's algorithm has after at most `steps` steps from a and
-- b: their greatest common divisor if `steps` is above b
unfoldable pub gcd_in_steps : ℕ → ℕ → ℕ → ℕ
gcd_in_steps zero a b = a
gcd_in_steps (suc steps) a zero = a
gcd_in_steps (suc steps) a (suc b) = gcd_in_steps steps (suc b) (a % suc b)

-- the greatest common divisor; that of 0 and b is b
unfoldable pub gcd : ℕ → ℕ → ℕ
gcd a b = gcd_in_steps (suc b) a b
