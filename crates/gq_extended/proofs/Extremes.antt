-- The lesser and the greater of two are what the comparison picks.
use Rattle.std.proofs.Common.{◌≡◌, Bool, true, false, Some, refl, subst}
use Rattle.std.specs.declared.cmp.Ordering.{Ordering}
use Rattle.std.specs.declared.cmp.Ordering.TheVariants.{Less, Equal, Greater}
use Rattle.std.specs.Ordering.{is_gt}
use Rattle.gq_number.specs.Number.{Number}
use Rattle.gq_number.specs.Order.{number_cmp, the_lesser, min_ℚ, max_ℚ}
use Rattle.gq_extended.specs.Extended.{Extended, number, plus_infinity, minus_infinity, na}
use Rattle.gq_extended.specs.ExtendedOrder.{comparison, lesser, greater}

-- the second where the order is Greater, else the first
abbrev pub picked : Bool → Extended → Extended → Extended
picked true x y = y
picked false x y = x

lesser_number : (o : Ordering) (x y : Number) → number (the_lesser o x y) ≡ picked (is_gt o) (number x) (number y)
lesser_number Less x y = refl
lesser_number Equal x y = refl
lesser_number Greater x y = refl

same_order : (o p : Ordering) → Some o ≡ Some p → o ≡ p
same_order o p e = cc

at_order : (x y z : Extended) (o p : Ordering) → Some o ≡ Some p → z ≡ picked (is_gt o) x y → z ≡ picked (is_gt p) x y
at_order x y z o p e h = subst (λ q. z ≡ picked (is_gt q) x y) (same_order o p e) h

pub lesser_picked : (x y : Extended) (o : Ordering) → comparison x y ≡ Some o → lesser x y ≡ picked (is_gt o) x y
unfolding comparison lesser min_ℚ
lesser_picked (number x) (number y) o e = at_order _ _ _ (number_cmp x y) o e (lesser_number (number_cmp x y) x y)
lesser_picked na y o e = cc
lesser_picked (number x) na o e = cc
lesser_picked plus_infinity na o e = cc
lesser_picked minus_infinity na o e = cc
lesser_picked (number x) plus_infinity o e = at_order _ _ _ Less o e refl
lesser_picked (number x) minus_infinity o e = at_order _ _ _ Greater o e refl
lesser_picked plus_infinity (number y) o e = at_order _ _ _ Greater o e refl
lesser_picked plus_infinity plus_infinity o e = at_order _ _ _ Equal o e refl
lesser_picked plus_infinity minus_infinity o e = at_order _ _ _ Greater o e refl
lesser_picked minus_infinity (number y) o e = at_order _ _ _ Less o e refl
lesser_picked minus_infinity plus_infinity o e = at_order _ _ _ Less o e refl
lesser_picked minus_infinity minus_infinity o e = at_order _ _ _ Equal o e refl

pub greater_picked : (x y : Extended) (o : Ordering) → comparison y x ≡ Some o → greater x y ≡ picked (is_gt o) x y
unfolding comparison greater max_ℚ
greater_picked (number x) (number y) o e = at_order _ _ _ (number_cmp y x) o e (lesser_number (number_cmp y x) x y)
greater_picked na (number y) o e = cc
greater_picked na plus_infinity o e = cc
greater_picked na minus_infinity o e = cc
greater_picked na na o e = cc
greater_picked (number x) na o e = cc
greater_picked plus_infinity na o e = cc
greater_picked minus_infinity na o e = cc
greater_picked (number x) plus_infinity o e = at_order _ _ _ Greater o e refl
greater_picked (number x) minus_infinity o e = at_order _ _ _ Less o e refl
greater_picked plus_infinity (number y) o e = at_order _ _ _ Less o e refl
greater_picked plus_infinity plus_infinity o e = at_order _ _ _ Equal o e refl
greater_picked plus_infinity minus_infinity o e = at_order _ _ _ Less o e refl
greater_picked minus_infinity (number y) o e = at_order _ _ _ Greater o e refl
greater_picked minus_infinity plus_infinity o e = at_order _ _ _ Greater o e refl
greater_picked minus_infinity minus_infinity o e = at_order _ _ _ Equal o e refl
