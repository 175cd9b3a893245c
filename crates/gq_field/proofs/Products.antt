-- What products, quotients and reduced pairs of fractions show.
use Rattle.std.proofs.Common.{◌≡◌, ℕ, zero, suc, ◌*◌, ◌/◌, ◌<◌, Bool, true, false, not, pos, ◌*ℤ◌, neg_ℤ, refl, sym, ap, ap₂, ◌∙◌, arith, mul-pos, one-mul}
use mathlib.Core.Bool.{beq}
use Rattle.gq_number.specs.Gcd.{gcd}
use Rattle.gq_number.specs.Reduced.{IsReduced}
use Rattle.gq_number.specs.Number.{Number, whole, ratio, ◌*ℚ◌, inv_ℚ, turned_over}
use Rattle.gq_number.proofs.Gcd.{gcd_comm, gcd-times_left, gcd-times_right, coprime-rest, coprime-mul, coprime-mul_right, coprime_of_dvd}
use Rattle.gq_number.proofs.Ring.{zero-*ℚ}
use Rattle.gq_field.specs.declared.fraction.Fraction.{Fraction}
use Rattle.gq_field.specs.Fits.{fits}
use Rattle.gq_field.specs.Values.{fraction_value, signed}
use Rattle.gq_field.proofs.Binary.{gcd-one_left, gcd-one_right}
use Rattle.gq_field.proofs.Signs.{zero_from_magnitude, whole_fits}
use Rattle.gq_field.proofs.Fractions.{Shows, ratio_shows, signed-times, signed-*ℤ, rest_left, rest_right, rest_pos}

exchange : (a b g : ℕ) → a * (b * g) ≡ a * g * b
exchange a b g = omega arith

-- a pair divided by its greatest common divisor
pub reduced_shows : (s : Bool) (m d : ℕ) → 0 < d → Shows (ratio (signed s m) d) s (m / gcd m d) (d / gcd m d)
reduced_shows s m d pos_d =
    let g = gcd m d in
    let cross : m / g * d ≡ m * (d / g) =
    ap (λ n. m / g * n) (sym (gcd-times_right m d)) ∙ exchange (m / g) (d / g) g ∙ ap (λ n. n * (d / g)) (gcd-times_left m d) in
    ratio_shows s (m / g) (d / g) (signed s m) d (record { coprime = coprime-rest m d pos_d; positive = rest_pos m d pos_d }) pos_d
    (signed-times s (m / g) d ∙ ap (signed s) cross ∙ sym (signed-times s m (d / g)))

cross_parts : (m n b d g h : ℕ) → m * n * ((b * h) * (d * g)) ≡ (m * g) * (n * h) * (b * d)
cross_parts m n b d g h = omega arith

module _ (s t : Bool) (m b n d : ℕ) (first : IsReduced (pos m) b) (second : IsReduced (pos n) d) where
  product_reduced : IsReduced (pos (m / gcd m d * (n / gcd n b))) (b / gcd n b * (d / gcd m d))
  product_reduced =
      record {
        coprime =
            coprime-mul_right _ _ _
            (coprime-mul _ _ _ (coprime_of_dvd m b _ _ (rest_left m d) (rest_right n b) first.coprime) (coprime-rest n b first.positive))
            (coprime-mul _ _ _ (coprime-rest m d second.positive) (coprime_of_dvd n d _ _ (rest_left n b) (rest_right m d) second.coprime));
        positive = mul-pos (rest_pos n b first.positive) (rest_pos m d second.positive);
      }

  product_shows : Shows (ratio (signed s m *ℤ signed t n) (b * d)) (not (beq s t)) (m / gcd m d * (n / gcd n b)) (b / gcd n b * (d / gcd m d))
  product_shows =
      let g = gcd m d in
      let h = gcd n b in
      let low : (b / h * h) * (d / g * g) ≡ b * d = ap₂ (λ x y. x * y) (gcd-times_right n b) (gcd-times_right m d) in
      let high : (m / g * g) * (n / h * h) ≡ m * n = ap₂ (λ x y. x * y) (gcd-times_left m d) (gcd-times_left n b) in
      let cross : m / g * (n / h) * (b * d) ≡ m * n * (b / h * (d / g)) =
      ap (λ k. m / g * (n / h) * k) (sym low) ∙ cross_parts (m / g) (n / h) (b / h) (d / g) g h ∙ ap (λ k. k * (b / h * (d / g))) high in
      let sign = not (beq s t) in
      ratio_shows sign _ _ (signed s m *ℤ signed t n) (b * d) product_reduced (mul-pos first.positive second.positive)
      (signed-times sign _ (b * d) ∙ ap (signed sign) cross ∙ sym (signed-times sign (m * n) _) ∙ ap (λ z. z *ℤ pos (b / h * (d / g))) (sym (signed-*ℤ s t m n)))

-- the product of two fractions, by the parts that the program computes
pub product_of_fractions : (x y : Fraction) (left right m d : ℕ) → left ≡ gcd x.magnitude y.denominator → right ≡ gcd y.magnitude x.denominator → m ≡ x.magnitude / left * (y.magnitude / right) → d ≡ x.denominator / right * (y.denominator / left) → Shows (fraction_value x *ℚ fraction_value y) (not (beq x.negative y.negative)) m d
unfolding ◌*ℚ◌ fraction_value
product_of_fractions x y left right m d e f p q =
    rw (p, q, e, f) (product_shows x.negative y.negative x.magnitude x.denominator y.magnitude y.denominator x.reduced y.reduced)

-- the same, by the rests that it computes on the way
pub product_by_parts : (x y : Fraction) (left right a b p q m d : ℕ) → left ≡ gcd x.magnitude y.denominator → right ≡ gcd y.magnitude x.denominator → a ≡ x.magnitude / left → b ≡ y.magnitude / right → p ≡ x.denominator / right → q ≡ y.denominator / left → m ≡ a * b → d ≡ p * q → Shows (fraction_value x *ℚ fraction_value y) (not (beq x.negative y.negative)) m d
product_by_parts x y left right a b p q m d e f is_a is_b is_p is_q is_m is_d =
    product_of_fractions x y left right m d e f (is_m ∙ ap₂ (λ i j. i * j) is_a is_b) (is_d ∙ ap₂ (λ i j. i * j) is_p is_q)

same_over_one : (m : ℕ) → m / 1 ≡ m
same_over_one m = omega arith

-- the product of two whole numbers
pub product_of_wholes : (x y : Fraction) (m : ℕ) → x.denominator ≡ 1 → y.denominator ≡ 1 → m ≡ x.magnitude * y.magnitude → Shows (fraction_value x *ℚ fraction_value y) (not (beq x.negative y.negative)) m 1
product_of_wholes x y m e f is =
    let left : 1 ≡ gcd x.magnitude y.denominator = sym (ap (gcd x.magnitude) f ∙ gcd-one_right x.magnitude) in
    let right : 1 ≡ gcd y.magnitude x.denominator = sym (ap (gcd y.magnitude) e ∙ gcd-one_right y.magnitude) in
    product_of_fractions x y 1 1 m 1 left right (is ∙ sym (ap₂ (λ i j. i * j) (same_over_one x.magnitude) (same_over_one y.magnitude))) (sym (ap₂ (λ i j. i * j) (same_over_one x.denominator ∙ e) (same_over_one y.denominator ∙ f)))

-- the product with 1 or -1
pub product_with_unit : (x y : Fraction) → x.magnitude ≡ 1 → x.denominator ≡ 1 → Shows (fraction_value x *ℚ fraction_value y) (not (beq x.negative y.negative)) y.magnitude y.denominator
product_with_unit x y e f =
    let left : 1 ≡ gcd x.magnitude y.denominator = sym (ap (λ n. gcd n y.denominator) e ∙ gcd-one_left y.denominator) in
    let right : 1 ≡ gcd y.magnitude x.denominator = sym (ap (gcd y.magnitude) f ∙ gcd-one_right y.magnitude) in
    let above : y.magnitude ≡ 1 * y.magnitude = sym (one-mul y.magnitude) in
    let below : y.denominator ≡ 1 * y.denominator = sym (one-mul y.denominator) in
    product_of_fractions x y 1 1 y.magnitude y.denominator left right
    (above ∙ sym (ap₂ (λ i j. i * j) (same_over_one x.magnitude ∙ e) (same_over_one y.magnitude)))
    (below ∙ sym (ap₂ (λ i j. i * j) (same_over_one x.denominator ∙ f) (same_over_one y.denominator)))

-- the product with 0
pub product_with_zero : (x y : Fraction) → x.magnitude ≡ 0 → fraction_value x *ℚ fraction_value y ≡ whole (pos 0)
product_with_zero x y none = ap (λ v. v *ℚ fraction_value y) (zero_from_magnitude x none) ∙ zero-*ℚ (fraction_value y)

-- 0 fits
pub zero_answers : (limit : ℕ) (f : Fraction) (v : Number) → 0 < limit → v ≡ whole (pos 0) → fraction_value f ≡ whole (pos 0) → (fits limit v ≡ true) × (fraction_value f ≡ v)
zero_answers limit f v some none same = (ap (fits limit) none ∙ whole_fits limit (pos 0) (omega arith) some, same ∙ sym none)

turned_reduced : (m d : ℕ) → IsReduced (pos m) d → 0 < m → IsReduced (pos d) m
turned_reduced m d r some = record { coprime = gcd_comm d m ∙ r.coprime; positive = some }

turned_shows : (s : Bool) (m d : ℕ) → IsReduced (pos m) d → 0 < m → Shows (turned_over (signed s m) d) s d m
turned_shows s zero d r some = absurd (omega arith)
turned_shows false (suc m) d r some = ratio_shows false d (suc m) (pos d) (suc m) (turned_reduced (suc m) d r some) some refl
turned_shows true (suc m) d r some = ratio_shows true d (suc m) (neg_ℤ (pos d)) (suc m) (turned_reduced (suc m) d r some) some refl

-- a fraction turned over
pub reciprocal_shows : (x : Fraction) → 0 < x.magnitude → Shows (inv_ℚ (fraction_value x)) x.negative x.denominator x.magnitude
unfolding inv_ℚ fraction_value
reciprocal_shows x some = turned_shows x.negative x.magnitude x.denominator x.reduced some

-- a pair divided by its greatest common divisor, as the program computes it
pub reduced_by : (s : Bool) (m d common : ℕ) → common ≡ gcd m d → 0 < d → Shows (ratio (signed s m) d) s (m / common) (d / common)
reduced_by s m d common e pos_d = rw e (reduced_shows s m d pos_d)

pub reduced_by_parts : (s : Bool) (m d common high low : ℕ) → common ≡ gcd m d → 0 < d → high ≡ m / common → low ≡ d / common → Shows (ratio (signed s m) d) s high low
reduced_by_parts s m d common high low e pos_d p q = rw (p, q) (reduced_by s m d common e pos_d)
