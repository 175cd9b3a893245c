-- Exact numbers: reduced fractions of whole numbers, without limit.
use Rattle.std.specs.Prelude.{ℕ, zero, suc, ◌+◌, ◌*◌, ◌/◌, ℤ, pos, negsuc, ◌+ℤ◌, ◌*ℤ◌, neg_ℤ, nat_abs, int_div}
use Rattle.gq_number.specs.Reduced.{whole_reduced, ratio_reduced, neg_reduced}
-- passed on: the greatest common divisor, and what a reduced fraction is
unfoldable pub use Rattle.gq_number.specs.Gcd.{gcd}
pub use Rattle.gq_number.specs.Reduced.{IsReduced}

-- a rational number as its reduced fraction; numerator and denominator determine it
pub record Number : Type 0 where
  pub numerator : ℤ
  -- above 0
  pub denominator : ℕ
  -- numerator and denominator have no common divisor but 1
  pub reduced : IsReduced numerator denominator

-- a whole number
unfoldable pub whole : ℤ → Number
whole n = record { numerator = n; denominator = 1; reduced = whole_reduced n }

-- the fraction of n over d, both divided by their greatest common divisor; 0 where d is 0
unfoldable pub ratio : ℤ → ℕ → Number
ratio n zero = whole (pos 0)
ratio n (suc d) =
    record { numerator = int_div n (pos (gcd (nat_abs n) (suc d))); denominator = suc d / gcd (nat_abs n) (suc d); reduced = ratio_reduced n d }

infixl 6 ◌+ℚ◌ ◌-ℚ◌
infixl 7 ◌*ℚ◌ ◌/ℚ◌
-- the sum: each numerator times the other denominator, added, over the product of the denominators
unfoldable pub ◌+ℚ◌ : Number → Number → Number
x +ℚ y = ratio (x.numerator *ℤ pos y.denominator +ℤ y.numerator *ℤ pos x.denominator) (x.denominator * y.denominator)

-- the number with its sign changed
unfoldable pub neg_ℚ : Number → Number
neg_ℚ x = record { numerator = neg_ℤ x.numerator; denominator = x.denominator; reduced = neg_reduced x.numerator x.denominator x.reduced }

-- the difference
unfoldable pub ◌-ℚ◌ : Number → Number → Number
x -ℚ y = x +ℚ neg_ℚ y

-- the product: numerator by numerator, denominator by denominator
unfoldable pub ◌*ℚ◌ : Number → Number → Number
x *ℚ y = ratio (x.numerator *ℤ y.numerator) (x.denominator * y.denominator)

-- the reciprocal d/n of the fraction n/d, with the sign in the numerator; 0 if n is 0
abbrev pub turned_over : ℤ → ℕ → Number
turned_over (pos zero) d = whole (pos 0)
turned_over (pos (suc n)) d = ratio (pos d) (suc n)
turned_over (negsuc n) d = ratio (neg_ℤ (pos d)) (suc n)

-- the reciprocal of a number; 0 for the number 0
unfoldable pub inv_ℚ : Number → Number
inv_ℚ x = turned_over x.numerator x.denominator

-- the quotient x/y; 0 if y is 0
unfoldable pub ◌/ℚ◌ : Number → Number → Number
x /ℚ y = x *ℚ inv_ℚ y

-- -1, 0 or 1, as a whole number is below, at or above 0
abbrev pub sign_of_ℤ : ℤ → ℤ
sign_of_ℤ (pos zero) = pos 0
sign_of_ℤ (pos (suc n)) = pos 1
sign_of_ℤ (negsuc n) = negsuc 0

-- -1, 0 or 1, as the number is below, at or above 0
unfoldable pub sign_of : Number → ℤ
sign_of x = sign_of_ℤ x.numerator

-- n over d without its fractional part: rounded towards 0
abbrev pub quotient_towards_zero : ℤ → ℕ → ℤ
quotient_towards_zero (pos n) d = pos (n / d)
quotient_towards_zero (negsuc n) d = neg_ℤ (pos (suc n / d))

-- the greatest whole number that is at most n over d; if n is -(k + 1), then this is one below the
-- negated whole part of k over d
abbrev pub quotient_down : ℤ → ℕ → ℤ
quotient_down (pos n) d = pos (n / d)
quotient_down (negsuc k) d = negsuc (k / d)

-- the whole number nearest to n over d, halves away from 0: (2 |n| + d) / (2 d) without its
-- fractional part, with the sign of n
abbrev pub quotient_to_nearest : ℤ → ℕ → ℤ
quotient_to_nearest (pos n) d = pos ((2 * n + d) / (2 * d))
quotient_to_nearest (negsuc n) d = neg_ℤ (pos ((2 * suc n + d) / (2 * d)))

-- the number without its fractional part: rounded towards 0
unfoldable pub truncated : Number → ℤ
truncated x = quotient_towards_zero x.numerator x.denominator

-- the greatest whole number that is at most the number
unfoldable pub floor_of : Number → ℤ
floor_of x = quotient_down x.numerator x.denominator

-- the least whole number that is at least the number: the floor of the negated number, negated
unfoldable pub ceiling_of : Number → ℤ
ceiling_of x = neg_ℤ (floor_of (neg_ℚ x))

-- the nearest whole number, halves away from 0
unfoldable pub rounded : Number → ℤ
rounded x = quotient_to_nearest x.numerator x.denominator
