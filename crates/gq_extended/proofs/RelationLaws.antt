-- The laws of the order and the relations.
use Rattle.std.proofs.Common.{◌≡◌, ◌≢◌, ◌↔◌, true, false, not, ◌||◌, IsTrue, if◌then◌else◌, Some, None, refl, sym, ap, ◌∙◌}
use Rattle.std.specs.declared.cmp.Ordering.{Ordering}
use Rattle.std.specs.declared.cmp.Ordering.TheVariants.{Less, Equal, Greater}
use Rattle.std.specs.Ordering.{MatchOrdering, ordering_reverse, is_gt}
use Rattle.gq_number.specs.Number.{Number}
use Rattle.gq_number.specs.Order.{◌≤ℚ◌, ◌<ℚ◌, number_cmp}
use Rattle.gq_number.proofs.Order
use Rattle.gq_number.proofs.Compares.{number_ranks, number_cmp_decides, number_cmp_total}
use Rattle.gq_extended.proofs.Extremes.{picked, lesser_picked, greater_picked}
use Rattle.gq_extended.specs.Extended.{Extended, number, plus_infinity, minus_infinity, na}
use Rattle.gq_extended.specs.ExtendedOrder.{comparison, less, same, less_or_same, equals, is_less, is_at_most, lesser, greater}

-- ---- of numbers

same_is : (o : Ordering) → (same (Some o) ≡ true) ↔ (o ≡ Equal)
same_is Less = (λ e. absurd (cc), λ e. absurd (cc))
same_is Equal = (λ _. refl, λ _. refl)
same_is Greater = (λ e. absurd (cc), λ e. absurd (cc))

less_is : (o : Ordering) → (less (Some o) ≡ true) ↔ (o ≡ Less)
less_is Less = (λ _. refl, λ _. refl)
less_is Equal = (λ e. absurd (cc), λ e. absurd (cc))
less_is Greater = (λ e. absurd (cc), λ e. absurd (cc))

at_most_is : (o : Ordering) (x y : Number) → MatchOrdering o (x <ℚ y) (x ≡ y) (y <ℚ x) → (less_or_same (Some o) ≡ true) ↔ (x ≤ℚ y)
at_most_is Less x y h = (λ _. Order.≤ℚ_from_<ℚ x y h, λ _. refl)
at_most_is Equal x y h = (λ _. Order.≤ℚ_from_≡ x y h, λ _. refl)
at_most_is Greater x y h = (λ e. absurd (cc), λ k. absurd (Order.not_above x y k h))

pub equals_numbers : (x y : Number) → IsTrue (equals (number x) (number y)) ↔ (x ≡ y)
unfolding equals comparison
equals_numbers x y =
    let test = same_is (number_cmp x y) in
    let told = (number_cmp_decides x y).1 in
    (λ e. told.0 (test.0 e), λ e. test.1 (told.1 e))

pub less_numbers : (x y : Number) → IsTrue (is_less (number x) (number y)) ↔ (x <ℚ y)
unfolding is_less comparison
less_numbers x y =
    let test = less_is (number_cmp x y) in
    let told = (number_cmp_decides x y).0 in
    (λ e. told.0 (test.0 e), λ e. test.1 (told.1 e))

pub at_most_numbers : (x y : Number) → IsTrue (is_at_most (number x) (number y)) ↔ (x ≤ℚ y)
unfolding is_at_most comparison
at_most_numbers x y = at_most_is (number_cmp x y) x y (number_ranks x y)

-- ---- being the same

pub equals_is : (x y : Extended) → IsTrue (equals x y) ↔ (x ≡ y)
unfolding equals comparison
equals_is (number x) (number y) =
    let told = equals_numbers x y in
    (λ e. ap number (told.0 e), λ e. told.1 (let f : x ≡ y = cc in f))
equals_is plus_infinity plus_infinity = (λ _. refl, λ _. refl)
equals_is minus_infinity minus_infinity = (λ _. refl, λ _. refl)
equals_is na na = (λ _. refl, λ _. refl)
equals_is x y = (λ e. absurd (cc), λ e. absurd (cc))

-- ---- NA and the ends

na_compares : (x : Extended) → comparison na x ≡ None
unfolding comparison
na_compares (number x) = refl
na_compares plus_infinity = refl
na_compares minus_infinity = refl
na_compares na = refl

compares_na : (x : Extended) → comparison x na ≡ None
unfolding comparison
compares_na (number x) = refl
compares_na plus_infinity = refl
compares_na minus_infinity = refl
compares_na na = refl

pub na_less : (x : Extended) → is_less na x ≡ false
unfolding is_less
na_less x = ap less (na_compares x)

pub less_na : (x : Extended) → is_less x na ≡ false
unfolding is_less
less_na x = ap less (compares_na x)

pub na_at_most : (x : Extended) → is_at_most na x ≡ false
unfolding is_at_most
na_at_most x = ap less_or_same (na_compares x)

pub at_most_na : (x : Extended) → is_at_most x na ≡ false
unfolding is_at_most
at_most_na x = ap less_or_same (compares_na x)

plus_less : (y : Extended) → is_less plus_infinity y ≡ false
unfolding is_less comparison
plus_less (number y) = refl
plus_less plus_infinity = refl
plus_less minus_infinity = refl
plus_less na = refl

less_minus : (x : Extended) → is_less x minus_infinity ≡ false
unfolding is_less comparison
less_minus (number x) = refl
less_minus plus_infinity = refl
less_minus minus_infinity = refl
less_minus na = refl

pub between : (x : Number) → IsTrue (is_less minus_infinity (number x)) × IsTrue (is_less (number x) plus_infinity)
unfolding is_less comparison
between x = (refl, refl)

-- ---- an order

pub is_less_trans : (x y z : Extended) → IsTrue (is_less x y) → IsTrue (is_less y z) → IsTrue (is_less x z)
unfolding is_less comparison
is_less_trans plus_infinity y z h k = absurd (let e : true ≡ false = sym h ∙ plus_less y in cc)
is_less_trans na y z h k = absurd (let e : true ≡ false = sym h ∙ na_less y in cc)
is_less_trans minus_infinity y (number z) h k = refl
is_less_trans minus_infinity y plus_infinity h k = refl
is_less_trans minus_infinity y minus_infinity h k = absurd (let e : true ≡ false = sym k ∙ less_minus y in cc)
is_less_trans minus_infinity y na h k = absurd (let e : true ≡ false = sym k ∙ less_na y in cc)
is_less_trans (number x) y plus_infinity h k = refl
is_less_trans (number x) y minus_infinity h k = absurd (let e : true ≡ false = sym k ∙ less_minus y in cc)
is_less_trans (number x) y na h k = absurd (let e : true ≡ false = sym k ∙ less_na y in cc)
is_less_trans (number x) (number y) (number z) h k =
    (less_numbers x z).1 (Order.<ℚ_trans x y z ((less_numbers x y).0 h) ((less_numbers y z).0 k))
is_less_trans (number x) plus_infinity (number z) h k = absurd (let e : true ≡ false = sym k ∙ plus_less (number z) in cc)
is_less_trans (number x) minus_infinity (number z) h k = absurd (let e : true ≡ false = sym h ∙ less_minus (number x) in cc)
is_less_trans (number x) na (number z) h k = absurd (let e : true ≡ false = sym h ∙ less_na (number x) in cc)

at_most_splits : (o : Ordering) → less_or_same (Some o) ≡ less (Some o) || same (Some o)
at_most_splits Less = refl
at_most_splits Equal = refl
at_most_splits Greater = refl

pub at_most_either : (x y : Extended) → x ≢ na → is_at_most x y ≡ (is_less x y || equals x y)
unfolding is_at_most is_less equals comparison
at_most_either na y some = absurd (some refl)
at_most_either (number x) (number y) some = at_most_splits (number_cmp x y)
at_most_either (number x) plus_infinity some = refl
at_most_either (number x) minus_infinity some = refl
at_most_either (number x) na some = refl
at_most_either plus_infinity (number y) some = refl
at_most_either plus_infinity plus_infinity some = refl
at_most_either plus_infinity minus_infinity some = refl
at_most_either plus_infinity na some = refl
at_most_either minus_infinity (number y) some = refl
at_most_either minus_infinity plus_infinity some = refl
at_most_either minus_infinity minus_infinity some = refl
at_most_either minus_infinity na some = refl

turned : (o : Ordering) → less (Some (ordering_reverse o)) ≡ not (less_or_same (Some o))
turned Less = refl
turned Equal = refl
turned Greater = refl

pub opposite : (x y : Extended) → x ≢ na → y ≢ na → is_less x y ≡ not (is_at_most y x)
unfolding is_at_most is_less comparison
opposite na y some other = absurd (some refl)
opposite (number x) na some other = absurd (other refl)
opposite plus_infinity na some other = absurd (other refl)
opposite minus_infinity na some other = absurd (other refl)
opposite (number x) (number y) some other =
    ap (λ o. less (Some o)) (number_cmp_total.antisymm x y) ∙ turned (number_cmp y x)
opposite (number x) plus_infinity some other = refl
opposite (number x) minus_infinity some other = refl
opposite plus_infinity (number y) some other = refl
opposite plus_infinity plus_infinity some other = refl
opposite plus_infinity minus_infinity some other = refl
opposite minus_infinity (number y) some other = refl
opposite minus_infinity plus_infinity some other = refl
opposite minus_infinity minus_infinity some other = refl

-- ---- the lesser and the greater

-- two that are not NA compare
compares : (x y : Extended) → x ≢ na → y ≢ na → (o : Ordering) × (comparison x y ≡ Some o)
unfolding comparison
compares na y some other = absurd (some refl)
compares x na some other = absurd (other refl)
compares (number x) (number y) some other = (number_cmp x y, refl)
compares (number x) plus_infinity some other = (Less, refl)
compares (number x) minus_infinity some other = (Greater, refl)
compares plus_infinity (number y) some other = (Greater, refl)
compares plus_infinity plus_infinity some other = (Equal, refl)
compares plus_infinity minus_infinity some other = (Greater, refl)
compares minus_infinity (number y) some other = (Less, refl)
compares minus_infinity plus_infinity some other = (Less, refl)
compares minus_infinity minus_infinity some other = (Equal, refl)

picked_by : (o : Ordering) (x y : Extended) → picked (is_gt o) x y ≡ (if less_or_same (Some o) then x else y)
picked_by Less x y = refl
picked_by Equal x y = refl
picked_by Greater x y = refl

pub lesser_is : (x y : Extended) → x ≢ na → y ≢ na → lesser x y ≡ (if is_at_most x y then x else y)
unfolding is_at_most
lesser_is x y some other =
    let found = compares x y some other in
    lesser_picked x y found.0 found.1 ∙ picked_by found.0 x y ∙ ap (λ p. if less_or_same p then x else y) (sym found.1)

pub greater_is : (x y : Extended) → x ≢ na → y ≢ na → greater x y ≡ (if is_at_most y x then x else y)
unfolding is_at_most
greater_is x y some other =
    let found = compares y x other some in
    greater_picked x y found.0 found.1 ∙ picked_by found.0 x y ∙ ap (λ p. if less_or_same p then x else y) (sym found.1)
