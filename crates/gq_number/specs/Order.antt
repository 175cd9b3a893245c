-- The order of exact numbers, that of fractions by their cross products (any algebra text); the
-- lesser, the greater and the magnitude.
use Rattle.std.specs.Prelude.{pos, ◌*ℤ◌, ◌≤ℤ◌, ◌<ℤ◌}
use Rattle.std.specs.declared.cmp.Ordering.{Ordering}
use Rattle.std.specs.Ordering.{int_cmp}
use Rattle.std.specs.declared.cmp.Ordering.TheVariants.{Less, Equal, Greater}
use Rattle.gq_number.specs.Number.{Number, neg_ℚ}

-- how x compares with y: each numerator times the other's denominator, compared
unfoldable pub number_cmp : Number → Number → Ordering
number_cmp x y = int_cmp (x.numerator *ℤ pos y.denominator) (y.numerator *ℤ pos x.denominator)

infix 4 ◌≤ℚ◌ ◌<ℚ◌
-- x is at most y
pub record ◌≤ℚ◌ (x y : Number) : Type 0 where
  pub cross : (x.numerator *ℤ pos y.denominator) ≤ℤ (y.numerator *ℤ pos x.denominator)

-- x is below y
pub record ◌<ℚ◌ (x y : Number) : Type 0 where
  pub cross : (x.numerator *ℤ pos y.denominator) <ℤ (y.numerator *ℤ pos x.denominator)

-- the lesser of x and y, where the `Ordering` is how x compares with y; x if they are equal
abbrev pub the_lesser : Ordering → Number → Number → Number
the_lesser Less x y = x
the_lesser Equal x y = x
the_lesser Greater x y = y

-- the lesser of two numbers
unfoldable pub min_ℚ : Number → Number → Number
min_ℚ x y = the_lesser (number_cmp x y) x y

-- the greater of two numbers
unfoldable pub max_ℚ : Number → Number → Number
max_ℚ x y = the_lesser (number_cmp y x) x y

-- the magnitude: the greater of the number and of the negated number
unfoldable pub abs_ℚ : Number → Number
abs_ℚ x = max_ℚ x (neg_ℚ x)
