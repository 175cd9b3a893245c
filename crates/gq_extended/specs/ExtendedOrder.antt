-- The order of extended numbers, the six relations, the lesser and the greater of two (GAMS User's
-- Guide, "Conditional Expressions, Assignments and Equations", numerical relations). How NA
-- compares is this project's rule.
use Rattle.std.specs.Prelude.{Bool, true, false, not, Option, Some, None}
use Rattle.std.specs.declared.cmp.Ordering.{Ordering}
use Rattle.std.specs.declared.cmp.Ordering.TheVariants.{Less, Equal, Greater}
use Rattle.gq_number.specs.Order.{number_cmp, min_ℚ, max_ℚ}
use Rattle.gq_extended.specs.Extended.{Extended, number, plus_infinity, minus_infinity, na}

-- how x compares with y; None if x or y is NA
unfoldable pub comparison : Extended → Extended → Option Ordering
comparison (number x) (number y) = Some (number_cmp x y)
comparison na y = None
comparison x na = None
comparison plus_infinity plus_infinity = Some Equal
comparison minus_infinity minus_infinity = Some Equal
comparison plus_infinity y = Some Greater
comparison minus_infinity y = Some Less
comparison (number x) plus_infinity = Some Less
comparison (number x) minus_infinity = Some Greater

-- whether a comparison gave Less
abbrev pub less : Option Ordering → Bool
less (Some Less) = true
less other = false

-- whether a comparison gave Equal
abbrev pub same : Option Ordering → Bool
same (Some Equal) = true
same other = false

-- whether a comparison gave Less or Equal
abbrev pub less_or_same : Option Ordering → Bool
less_or_same (Some Less) = true
less_or_same (Some Equal) = true
less_or_same other = false

-- x = y: NA is equal to NA, and to nothing else
unfoldable pub equals : Extended → Extended → Bool
equals na na = true
equals x y = same (comparison x y)

-- x <> y: the contrary of x = y, so NA differs from all but NA
unfoldable pub differs : Extended → Extended → Bool
differs x y = not (equals x y)

-- x < y; it does not hold if x or y is NA
unfoldable pub is_less : Extended → Extended → Bool
is_less x y = less (comparison x y)

-- x <= y; it does not hold if x or y is NA, even if both are
unfoldable pub is_at_most : Extended → Extended → Bool
is_at_most x y = less_or_same (comparison x y)

-- x > y: the same as y < x
unfoldable pub is_greater : Extended → Extended → Bool
is_greater x y = is_less y x

-- x >= y: the same as y <= x
unfoldable pub is_at_least : Extended → Extended → Bool
is_at_least x y = is_at_most y x

-- the lesser of two extended numbers; NA if one of them is NA
unfoldable pub lesser : Extended → Extended → Extended
lesser (number x) (number y) = number (min_ℚ x y)
lesser na y = na
lesser x na = na
lesser minus_infinity y = minus_infinity
lesser x minus_infinity = minus_infinity
lesser plus_infinity y = y
lesser x plus_infinity = x

-- the greater of two extended numbers; NA if one of them is NA
unfoldable pub greater : Extended → Extended → Extended
greater (number x) (number y) = number (max_ℚ x y)
greater na y = na
greater x na = na
greater plus_infinity y = plus_infinity
greater x plus_infinity = plus_infinity
greater minus_infinity y = y
greater x minus_infinity = x
