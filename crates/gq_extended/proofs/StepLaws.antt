-- Sums and products commute, faults included.
use Rattle.std.proofs.Common.{◌≡◌, ◌≢◌, ℕ, ◌*◌, ◌/◌, ◌<◌, Bool, true, false, ◌&&◌, nat_le, ℤ, pos, ◌+ℤ◌, ◌*ℤ◌, nat_abs, refl, sym, ap, ap₂, ◌∙◌, arith, mul-pos, Ok, Err}
use Rattle.std.proofs.Math.IntN.{*ℤ_comm, +ℤ_comm}
use Rattle.std.specs.Int.{◌∣◌}
use Rattle.std.proofs.Math.Nat.{dvd_trans, div-mul_cancel, eq_of_mul-eq-mul_right}
use Rattle.gq_number.specs.Number.{Number, gcd, whole}
use Rattle.gq_number.proofs.Gcd.{gcd_comm, gcd_pos, gcd-dvd_left, gcd-dvd_right}
use Rattle.gq_number.proofs.Field.{+ℚ_comm, *ℚ_comm}
use Rattle.gq_number.proofs.Ring.{neg_neg}
use Rattle.gq_field.specs.Fits.{fits, sum_fits}
use Rattle.gq_extended.specs.Extended.{Extended, number, plus_infinity, minus_infinity, na, number_if, sum, product, infinity_of, direction, negated, difference, quotient}
use Rattle.gq_extended.specs.declared.fault.ExtendedFault.TheVariants.{Divide}
use Rattle.gq_extended.proofs.Raised.{other_test}

-- ---- what fits is the same for both orders

exchange : (p r g h : ℕ) → p * r * (g * h) ≡ p * g * (r * h)
exchange p r g h = omega arith

same_denominator : (b d g h : ℕ) → g ∣ b → g ∣ d → h ∣ g → 0 < g → 0 < h → b / g * (d / h) ≡ d / g * (b / h)
same_denominator b d g h in_b in_d low pos_g pos_h =
    let left : b / g * (d / h) * (g * h) ≡ b * d =
    exchange (b / g) (d / h) g h ∙ ap₂ (λ m n. m * n) (div-mul_cancel g in_b) (div-mul_cancel h (dvd_trans h low in_d)) in
    let right : d / g * (b / h) * (g * h) ≡ d * b =
    exchange (d / g) (b / h) g h ∙ ap₂ (λ m n. m * n) (div-mul_cancel g in_d) (div-mul_cancel h (dvd_trans h low in_b)) in
    let turned : b * d ≡ d * b = omega arith in
    eq_of_mul-eq-mul_right (g * h) (mul-pos pos_g pos_h) _ _ (left ∙ turned ∙ sym right)

-- the tests of a sum, from the numerators over the common denominator
abbrev sum_tests : ℕ → ℤ → ℤ → ℕ → ℕ → ℕ → Bool
sum_tests limit u v b d g =
    nat_le (nat_abs u) limit && nat_le (nat_abs v) limit && nat_le (nat_abs (u +ℤ v)) limit && nat_le (b / g * (d / gcd (nat_abs (u +ℤ v)) g)) limit

swapped : (p q r s : Bool) → (p && q && r && s) ≡ (q && p && r && s)
swapped true true r s = refl
swapped true false r s = refl
swapped false true r s = refl
swapped false false r s = refl

sum_tests_commute : (limit : ℕ) (u v : ℤ) (b d g : ℕ) → g ∣ b → g ∣ d → 0 < g → sum_tests limit u v b d g ≡ sum_tests limit v u d b g
sum_tests_commute limit u v b d g in_b in_d pos_g =
    let turned : u +ℤ v ≡ v +ℤ u = +ℤ_comm u v in
    let h : ℕ = gcd (nat_abs (v +ℤ u)) g in
    let below : b / g * (d / h) ≡ d / g * (b / h) = same_denominator b d g h in_b in_d (gcd-dvd_right (nat_abs (v +ℤ u)) g) pos_g (gcd_pos (nat_abs (v +ℤ u)) g pos_g) in
    swapped (nat_le (nat_abs u) limit) (nat_le (nat_abs v) limit) (nat_le (nat_abs (u +ℤ v)) limit) (nat_le (b / g * (d / gcd (nat_abs (u +ℤ v)) g)) limit) ∙ ap (λ t. nat_le (nat_abs v) limit && nat_le (nat_abs u) limit && nat_le (nat_abs t) limit && nat_le (b / g * (d / gcd (nat_abs t) g)) limit) turned ∙ ap (λ n. nat_le (nat_abs v) limit && nat_le (nat_abs u) limit && nat_le (nat_abs (v +ℤ u)) limit && nat_le n limit) below

sum_fits_comm : (limit : ℕ) (x y : Number) → sum_fits limit x y ≡ sum_fits limit y x
sum_fits_comm limit x y =
    let b = x.denominator in
    let d = y.denominator in
    let g : ℕ = gcd b d in
    sum_tests_commute limit (x.numerator *ℤ pos (d / g)) (y.numerator *ℤ pos (b / g)) b d g (gcd-dvd_left b d) (gcd-dvd_right b d) (gcd_pos b d y.reduced.positive) ∙ ap (λ g. sum_tests limit (y.numerator *ℤ pos (b / g)) (x.numerator *ℤ pos (d / g)) d b g) (gcd_comm b d)

-- ---- steps

pub sum_comm : (limit : ℕ) (x y : Extended) → sum limit x y ≡ sum limit y x
unfolding sum
sum_comm limit (number x) (number y) = ap₂ number_if (sum_fits_comm limit x y) (+ℚ_comm x y)
sum_comm limit (number x) plus_infinity = refl
sum_comm limit (number x) minus_infinity = refl
sum_comm limit (number x) na = refl
sum_comm limit plus_infinity (number y) = refl
sum_comm limit plus_infinity plus_infinity = refl
sum_comm limit plus_infinity minus_infinity = refl
sum_comm limit plus_infinity na = refl
sum_comm limit minus_infinity (number y) = refl
sum_comm limit minus_infinity plus_infinity = refl
sum_comm limit minus_infinity minus_infinity = refl
sum_comm limit minus_infinity na = refl
sum_comm limit na (number y) = refl
sum_comm limit na plus_infinity = refl
sum_comm limit na minus_infinity = refl
sum_comm limit na na = refl

signs_comm : (x y : Extended) → infinity_of (direction x *ℤ direction y) ≡ infinity_of (direction y *ℤ direction x)
signs_comm x y = ap infinity_of (*ℤ_comm (direction x) (direction y))

pub product_comm : (limit : ℕ) (x y : Extended) → product limit x y ≡ product limit y x
unfolding product
product_comm limit (number x) (number y) = ap (λ z. number_if (fits limit z) z) (*ℚ_comm x y)
product_comm limit (number x) plus_infinity = signs_comm (number x) plus_infinity
product_comm limit (number x) minus_infinity = signs_comm (number x) minus_infinity
product_comm limit (number x) na = refl
product_comm limit plus_infinity (number y) = signs_comm plus_infinity (number y)
product_comm limit plus_infinity plus_infinity = refl
product_comm limit plus_infinity minus_infinity = refl
product_comm limit plus_infinity na = refl
product_comm limit minus_infinity (number y) = signs_comm minus_infinity (number y)
product_comm limit minus_infinity plus_infinity = refl
product_comm limit minus_infinity minus_infinity = refl
product_comm limit minus_infinity na = refl
product_comm limit na (number y) = refl
product_comm limit na plus_infinity = refl
product_comm limit na minus_infinity = refl
product_comm limit na na = refl

pub negated_twice : (x : Extended) → negated (negated x) ≡ x
unfolding negated
negated_twice (number x) = ap number (neg_neg x)
negated_twice plus_infinity = refl
negated_twice minus_infinity = refl
negated_twice na = refl

pub over_nothing : (limit : ℕ) (x : Extended) → quotient limit x (number (whole (pos 0))) ≡ Err Divide
unfolding quotient whole
over_nothing limit x = refl

pub na_in_sums : (limit : ℕ) (x : Extended) → (sum limit na x ≡ Ok na) × (difference limit na x ≡ Ok na) × (difference limit x na ≡ Ok na) × (product limit na x ≡ Ok na)
unfolding sum difference product negated
na_in_sums limit (number x) = (refl, refl, refl, refl)
na_in_sums limit plus_infinity = (refl, refl, refl, refl)
na_in_sums limit minus_infinity = (refl, refl, refl, refl)
na_in_sums limit na = (refl, refl, refl, refl)

pub na_over : (limit : ℕ) (x : Extended) → x ≢ number (whole (pos 0)) → quotient limit na x ≡ Ok na
unfolding quotient
na_over limit (number x) other = rw (other_test x (λ e. other (ap number e))) refl
na_over limit plus_infinity other = refl
na_over limit minus_infinity other = refl
na_over limit na other = refl
