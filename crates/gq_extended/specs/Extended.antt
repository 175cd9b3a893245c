-- Extended numbers, and what each step on them gives: exact numbers, the two infinities and NA. The
-- language and its extended range arithmetic: GAMS User's Guide, "Parameters". Which steps on
-- infinities and NA are faults is this project's rule.
use Rattle.std.specs.Prelude.{ℕ, zero, suc, ◌%◌, Bool, true, false, ◌&&◌, ◌==◌, nat_le, if◌then◌else◌, ℤ, pos, negsuc, ◌*ℤ◌, nat_abs, Option, Some, None, Result, Ok, Err}
use Rattle.gq_number.specs.Number.{Number, whole, ◌+ℚ◌, ◌*ℚ◌, ◌/ℚ◌, neg_ℚ, sign_of, truncated, floor_of, ceiling_of, rounded}
use Rattle.gq_number.specs.Order.{abs_ℚ}
use Rattle.gq_field.specs.Fits.{fits, sum_fits}
use Rattle.gq_extended.specs.Powers.{power_ℚ}
use Rattle.gq_extended.specs.declared.fault.ExtendedFault.{ExtendedFault}
use Rattle.gq_extended.specs.declared.fault.ExtendedFault.TheVariants.{Limit, Divide, Undefined, Exponent}

-- an extended number
pub data Extended : Type 0 where
  -- an exact number
  number : Number → Extended
  -- above every number
  plus_infinity : Extended
  -- below every number
  minus_infinity : Extended
  -- not available
  na : Extended

-- what a step on extended numbers gives: an extended number, or the step's fault
abbrev pub Outcome : Type 0
Outcome = Result Extended ExtendedFault

infixl 10 ◌then_step◌
-- the outcome of a step followed by `next`: that of `next` at the value of the step, or the fault
-- of the step if it has one
abbrev pub ◌then_step◌ : Outcome → (Extended → Outcome) → Outcome
(Ok x) then_step next = next x
(Err fault) then_step next = Err fault

-- the exact number x if the Bool is true, else the fault `Limit`; the Bool says whether x stays
-- within the limit on numerators and denominators
abbrev pub number_if : Bool → Number → Outcome
number_if true x = Ok (number x)
number_if false x = Err Limit

-- whether a number is 0
abbrev pub is_zero : Number → Bool
is_zero x = nat_abs x.numerator == 0

-- ---- signs

-- the value with its sign changed; NA stays NA
unfoldable pub negated : Extended → Extended
negated (number x) = number (neg_ℚ x)
negated plus_infinity = minus_infinity
negated minus_infinity = plus_infinity
negated na = na

-- the absolute value; NA stays NA
unfoldable pub magnitude : Extended → Extended
magnitude (number x) = number (abs_ℚ x)
magnitude plus_infinity = plus_infinity
magnitude minus_infinity = plus_infinity
magnitude na = na

-- the number -1, 0 or 1, as the value is below, at or above 0; NA stays NA
unfoldable pub sign : Extended → Extended
sign (number x) = number (whole (sign_of x))
sign plus_infinity = number (whole (pos 1))
sign minus_infinity = number (whole (negsuc 0))
sign na = na

-- the sign of a value as a factor: -1, 0 or 1, as it is below, at or above 0; 0 for NA
abbrev pub direction : Extended → ℤ
direction (number x) = sign_of x
direction plus_infinity = pos 1
direction minus_infinity = negsuc 0
direction na = pos 0

-- plus infinity if the sign is above 0, minus infinity if it is below; the fault `Undefined` if it
-- is 0
abbrev pub infinity_of : ℤ → Outcome
infinity_of (pos zero) = Err Undefined
infinity_of (pos (suc n)) = Ok plus_infinity
infinity_of (negsuc n) = Ok minus_infinity

-- ---- sums

-- the sum under the limit: NA if one of both is NA; `Undefined` for two opposite infinities; else
-- an infinity if one of both is; and for two numbers their sum, or `Limit` if an intermediate
-- number of the sum exceeds the limit in magnitude (`sum_fits`)
unfoldable pub sum : ℕ → Extended → Extended → Outcome
sum limit (number x) (number y) = number_if (sum_fits limit x y) (x +ℚ y)
sum limit na y = Ok na
sum limit x na = Ok na
sum limit plus_infinity minus_infinity = Err Undefined
sum limit minus_infinity plus_infinity = Err Undefined
sum limit plus_infinity y = Ok plus_infinity
sum limit minus_infinity y = Ok minus_infinity
sum limit (number x) infinity = Ok infinity

-- the difference under the limit: the sum of x and the negated y
unfoldable pub difference : ℕ → Extended → Extended → Outcome
difference limit x y = sum limit x (negated y)

-- ---- products

-- the product under the limit: NA if one of both is NA; if one is an infinity, that with the
-- product of the two signs, and `Undefined` if the other is 0; for two numbers their product, or
-- `Limit` if its numerator or its denominator exceeds the limit in magnitude
unfoldable pub product : ℕ → Extended → Extended → Outcome
product limit (number x) (number y) = number_if (fits limit (x *ℚ y)) (x *ℚ y)
product limit na y = Ok na
product limit x na = Ok na
product limit x y = infinity_of (direction x *ℤ direction y)

-- the quotient of two values, of which the second is not the number 0: NA if either is NA; 0 for a
-- number over an infinity; for an infinity over a number the infinity with the product of the two
-- signs; `Undefined` for an infinity over an infinity; for two numbers their quotient, or `Limit`
-- if its numerator or its denominator exceeds the limit in magnitude
abbrev pub divided : ℕ → Extended → Extended → Outcome
divided limit (number x) (number y) = number_if (fits limit (x /ℚ y)) (x /ℚ y)
divided limit na y = Ok na
divided limit x na = Ok na
divided limit (number x) infinity = Ok (number (whole (pos 0)))
divided limit infinity (number y) = infinity_of (direction infinity *ℤ sign_of y)
divided limit x y = Err Undefined

-- the quotient under the limit; the fault `Divide` if y is the number 0, even if x is NA
unfoldable pub quotient : ℕ → Extended → Extended → Outcome
quotient limit x (number y) = if is_zero y then Err Divide else divided limit x (number y)
quotient limit x y = divided limit x y

-- ---- roundings

-- the integer to which `rounding` rounds a number, as a value; an infinity and NA are unchanged
abbrev pub to_whole : (Number → ℤ) → Extended → Extended
to_whole rounding (number x) = number (whole (rounding x))
to_whole rounding x = x

-- the nearest whole number, halves away from 0; an infinity and NA stay
unfoldable pub nearest : Extended → Extended
nearest x = to_whole rounded x

-- the greatest whole number that is at most the value; an infinity and NA stay
unfoldable pub floor : Extended → Extended
floor x = to_whole floor_of x

-- the least whole number that is at least the value; an infinity and NA stay
unfoldable pub ceiling : Extended → Extended
ceiling x = to_whole ceiling_of x

-- the value without its fractional part; an infinity and NA stay
unfoldable pub truncation : Extended → Extended
truncation x = to_whole truncated x

-- ---- remainders

-- the remainder of x divided by y, in four steps: the quotient, without its fractional part, times
-- y, subtracted from x; the first fault of a step is that of the remainder
unfoldable pub remainder : ℕ → Extended → Extended → Outcome
remainder limit x y =
    quotient limit x y then_step λ q. product limit y (truncation q) then_step λ p. difference limit x p

-- ---- powers

-- the integer that equals an exponent; None if the exponent is an infinity, NA, no integer, or
-- above 1,024 in magnitude
abbrev pub exponent_of : Extended → Option ℤ
exponent_of (number y) = if y.denominator == 1 && nat_le (nat_abs y.numerator) 1024 then Some y.numerator else None
exponent_of y = None

-- x to the power of an integer n: 1 if n is 0, even for NA; else NA for NA; the fault `Divide` for
-- 0 and n below 0; 0 for an infinity and n below 0; for an infinity and n above 0 an infinity,
-- which is negative only if x is and n is odd; else the power of a number, or `Limit` if its
-- numerator or its denominator exceeds the limit in magnitude
abbrev pub raised : ℕ → Extended → ℤ → Outcome
raised limit x (pos zero) = Ok (number (whole (pos 1)))
raised limit na n = Ok na
raised limit (number x) (pos n) = number_if (fits limit (power_ℚ x (pos n))) (power_ℚ x (pos n))
raised limit (number x) (negsuc n) =
    if is_zero x then Err Divide else number_if (fits limit (power_ℚ x (negsuc n))) (power_ℚ x (negsuc n))
raised limit plus_infinity (pos n) = Ok plus_infinity
raised limit minus_infinity (pos n) = Ok (if n % 2 == 0 then plus_infinity else minus_infinity)
raised limit infinity (negsuc n) = Ok (number (whole (pos 0)))

-- x to the power y; the fault `Exponent`, whatever x is, if y is an infinity, NA, not whole, or
-- above 1,024 in magnitude
unfoldable pub power : ℕ → Extended → Extended → Outcome
power limit x y = powered limit x (exponent_of y)
  where
    powered : ℕ → Extended → Option ℤ → Outcome
    powered limit x None = Err Exponent
    powered limit x (Some n) = raised limit x n
