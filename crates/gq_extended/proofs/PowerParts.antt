-- The numerator and denominator of a power of a reduced fraction are the powers of the
-- fraction's: so a power fits only if each lower power does.
use Rattle.std.proofs.Common.{◌≡◌, ◌≢◌, ℕ, zero, suc, ◌+◌, ◌*◌, ◌/◌, ◌%◌, ◌^◌, ◌≤◌, true, false, Bool, ℤ, pos, negsuc, neg_ℤ, ◌*ℤ◌, nat_abs, refl, sym, ap, ◌∙◌, subst, arith, mul-pos, Result, Ok, Err}
use Rattle.std.specs.Result.{IsErr}
use Rattle.std.proofs.lemmas.Bool.Decides.{nat_tests}
use Rattle.std.proofs.Math.Nat.{eq-one_of_dvd-one, pow-zero, pow-succ', pow-le-pow_right}
use Rattle.gq_number.specs.Reduced.{IsReduced, nat_abs-neg}
use Rattle.gq_number.specs.Number.{Number, whole, gcd, ◌*ℚ◌, inv_ℚ, turned_over}
use Rattle.gq_number.proofs.Gcd.{gcd_comm, coprime_from, coprime-mul, coprime-mul_right}
use Rattle.gq_number.proofs.Whole.{nat_abs-*ℤ}
use Rattle.gq_number.proofs.Naming.{ratio_keeps}
use Rattle.gq_number.proofs.Field.{*ℚ_assoc, *ℚ_comm}
use Rattle.gq_number.proofs.Ring.{one-*ℚ}
use Rattle.gq_field.specs.Fits.{fits, Answers}
use Rattle.gq_field.specs.declared.field.Limit.{Limit}
use Rattle.gq_extended.specs.Powers.{repeated_product}

-- ---- the parts

pub product_of-zero : (x : Number) → repeated_product 0 x ≡ whole (pos 1)
unfolding repeated_product
product_of-zero x = refl

pub product_of-suc : (n : ℕ) (x : Number) → repeated_product (suc n) x ≡ x *ℚ repeated_product n x
unfolding repeated_product
product_of-suc n x = refl

coprime-one : (b : ℕ) → gcd 1 b ≡ 1
coprime-one b = coprime_from 1 b (λ d in_one _. eq-one_of_dvd-one in_one)

coprime-pow : (n a b : ℕ) → gcd a b ≡ 1 → gcd (a ^ n) b ≡ 1
coprime-pow zero a b e = rw pow-zero (coprime-one b)
coprime-pow (suc n) a b e = rw (pow-succ' a n) (coprime-mul a (a ^ n) b e (coprime-pow n a b e))

-- x to the power n has these parts
record PowerParts (n : ℕ) (x : Number) : Type 0 where
  above : nat_abs (repeated_product n x).numerator ≡ nat_abs x.numerator ^ n
  below : (repeated_product n x).denominator ≡ x.denominator ^ n

-- the product of two fractions that have no common divisor crosswise is reduced
cross_reduced : (x y : Number) → gcd (nat_abs x.numerator) y.denominator ≡ 1 → gcd (nat_abs y.numerator) x.denominator ≡ 1 → IsReduced (x.numerator *ℤ y.numerator) (x.denominator * y.denominator)
cross_reduced x y left right =
    record {
      coprime =
          ap (λ m. gcd m (x.denominator * y.denominator)) (nat_abs-*ℤ x.numerator y.numerator) ∙ coprime-mul_right _ _ _ (coprime-mul _ _ _ x.reduced.coprime right) (coprime-mul _ _ _ left y.reduced.coprime);
      positive = mul-pos x.reduced.positive y.reduced.positive;
    }

product_parts : (x y : Number) → gcd (nat_abs x.numerator) y.denominator ≡ 1 → gcd (nat_abs y.numerator) x.denominator ≡ 1 → (nat_abs (x *ℚ y).numerator ≡ nat_abs x.numerator * nat_abs y.numerator) × ((x *ℚ y).denominator ≡ x.denominator * y.denominator)
unfolding ◌*ℚ◌
product_parts x y left right =
    let kept = ratio_keeps (x.numerator *ℤ y.numerator) (x.denominator * y.denominator) (cross_reduced x y left right) in
    (ap nat_abs kept.0 ∙ nat_abs-*ℤ x.numerator y.numerator, kept.1)

power_parts : (n : ℕ) (x : Number) → PowerParts n x
unfolding repeated_product whole
power_parts zero x = record { above = sym (pow-zero _); below = sym (pow-zero _) }
power_parts (suc n) x =
    let rest = power_parts n x in
    let a = nat_abs x.numerator in
    let d = x.denominator in
    let left : gcd a (repeated_product n x).denominator ≡ 1 = rw rest.below (gcd_comm a (d ^ n) ∙ coprime-pow n d a (gcd_comm d a ∙ x.reduced.coprime)) in
    let right : gcd (nat_abs (repeated_product n x).numerator) d ≡ 1 = rw rest.above (coprime-pow n a d x.reduced.coprime) in
    let parts = product_parts x (repeated_product n x) left right in
    record {
      above = parts.0 ∙ ap (λ m. a * m) rest.above ∙ sym (pow-succ' a n);
      below = parts.1 ∙ ap (λ m. d * m) rest.below ∙ sym (pow-succ' d n);
    }

-- ---- what fits

parts_fit : (limit : ℕ) (x : Number) → fits limit x ≡ true → (nat_abs x.numerator ≤ limit) × (x.denominator ≤ limit)
parts_fit limit x h = (grind (arith, nat_tests), grind (arith, nat_tests))

fit_parts : (limit : ℕ) (x : Number) → nat_abs x.numerator ≤ limit → x.denominator ≤ limit → fits limit x ≡ true
fit_parts limit x h k = grind (arith, nat_tests)

lower_pow : (a k n limit : ℕ) → k ≤ n → 1 ≤ limit → a ^ n ≤ limit → a ^ k ≤ limit
lower_pow zero zero n limit h some top = rw pow-zero some
lower_pow zero (suc k) n limit h some top = rw (pow-succ' 0 k) (omega arith)
lower_pow (suc a) k n limit h some top =
    let rises : suc a ^ k ≤ suc a ^ n = pow-le-pow_right {n = suc a} (omega arith) {i = k} {j = n} h in omega arith

-- where a power fits, so does each lower one
pub lower_power_fits : (limit k n : ℕ) (x : Number) → k ≤ n → 1 ≤ limit → fits limit (repeated_product n x) ≡ true → fits limit (repeated_product k x) ≡ true
lower_power_fits limit k n x h some top =
    let high = power_parts n x in
    let low = power_parts k x in
    let both = parts_fit limit (repeated_product n x) top in
    fit_parts limit (repeated_product k x) (rw low.above (lower_pow _ k n limit h some (subst (λ m. m ≤ limit) high.above both.0))) (rw low.below (lower_pow _ k n limit h some (subst (λ m. m ≤ limit) high.below both.1)))

-- and where a lower one does not, neither does the power
pub no_power_fits : (limit k n : ℕ) (x : Number) → k ≤ n → 1 ≤ limit → fits limit (repeated_product k x) ≡ false → fits limit (repeated_product n x) ≡ false
no_power_fits limit k n x h some low =
    unless _ (λ top. let f : true ≡ false = sym (lower_power_fits limit k n x h some top) ∙ low in cc)
  where
    unless : (b : Bool) → (b ≡ true → b ≡ false) → b ≡ false
    unless true f = f refl
    unless false f = refl

-- ---- sums of exponents

pub product_of-+ : (n m : ℕ) (x : Number) → repeated_product (n + m) x ≡ repeated_product n x *ℚ repeated_product m x
product_of-+ zero m x = ap (λ k. repeated_product k x) (let e : 0 + m ≡ m = omega arith in e) ∙ sym (ap (λ w. w *ℚ repeated_product m x) (product_of-zero x) ∙ one-*ℚ _)
product_of-+ (suc n) m x =
    ap (λ k. repeated_product k x) (let e : suc n + m ≡ suc (n + m) = omega arith in e) ∙ product_of-suc (n + m) x ∙ ap (λ w. x *ℚ w) (product_of-+ n m x) ∙ sym (ap (λ w. w *ℚ repeated_product m x) (product_of-suc n x) ∙ *ℚ_assoc x (repeated_product n x) (repeated_product m x))

-- ---- a power by the square of its root

pub one_where_none : (limit n : ℕ) (x one : Number) → n ≡ 0 → 1 ≤ limit → one ≡ whole (pos 1) → (fits limit (repeated_product n x) ≡ true) × (one ≡ repeated_product n x)
unfolding repeated_product whole
one_where_none limit n x one none some e = rw none (fit_parts limit (whole (pos 1)) some some, e)

pub square_is : (n : ℕ) (x root : Number) → root ≡ repeated_product (n / 2) x → root *ℚ root ≡ repeated_product (n / 2 + n / 2) x
square_is n x root e = rw e (sym (product_of-+ (n / 2) (n / 2) x))

pub even_power : (n : ℕ) (x root : Number) → n % 2 ≡ 0 → root ≡ repeated_product (n / 2) x → root *ℚ root ≡ repeated_product n x
even_power n x root even e = square_is n x root e ∙ ap (λ k. repeated_product k x) (let f : n / 2 + n / 2 ≡ n = omega arith in f)

pub odd_power : (n : ℕ) (x root square : Number) → n % 2 ≢ 0 → root ≡ repeated_product (n / 2) x → square ≡ root *ℚ root → square *ℚ x ≡ repeated_product n x
odd_power n x root square odd e f =
    ap (λ w. w *ℚ x) (f ∙ square_is n x root e) ∙ *ℚ_comm _ x ∙ sym (product_of-suc (n / 2 + n / 2) x) ∙ ap (λ k. repeated_product k x) (let h : suc (n / 2 + n / 2) ≡ n = omega arith in h)

-- what was not found for a lower power is not found for this one
pub err_answers : {F : Type 0} (value : F → Number) (limit k n : ℕ) (x : Number) (r : Result F Limit) → IsErr r → k ≤ n → 1 ≤ limit → fits limit (repeated_product k x) ≡ false → Answers value r (fits limit (repeated_product n x)) (repeated_product n x)
err_answers value limit k n x (Ok y) gave_up h some low = absurd (let f : false ≡ true = gave_up in cc)
err_answers value limit k n x (Err e) gave_up h some low = no_power_fits limit k n x h some low

-- the same answer for the same number
pub same_answers : {F : Type 0} (value : F → Number) (limit : ℕ) (x y : Number) (r : Result F Limit) → x ≡ y → Answers value r (fits limit x) x → Answers value r (fits limit y) y
same_answers value limit x y r e h = subst (λ w. Answers value r (fits limit w) w) e h

-- ---- reciprocals

turned_parts : (n : ℤ) (d : ℕ) → IsReduced n d → n ≢ pos 0 → (nat_abs (turned_over n d).numerator ≡ d) × ((turned_over n d).denominator ≡ nat_abs n)
turned_parts (pos zero) d r some = absurd (some refl)
turned_parts (pos (suc n)) d r some =
    let kept = ratio_keeps (pos d) (suc n) (record { coprime = gcd_comm d (suc n) ∙ r.coprime; positive = omega arith }) in
    (ap nat_abs kept.0, kept.1)
turned_parts (negsuc n) d r some =
    let kept = ratio_keeps (neg_ℤ (pos d)) (suc n) (record { coprime = ap (λ m. gcd m (suc n)) (nat_abs-neg (pos d)) ∙ gcd_comm d (suc n) ∙ r.coprime; positive = omega arith }) in
    (ap nat_abs kept.0 ∙ nat_abs-neg (pos d), kept.1)

-- the reciprocal of what fits
pub reciprocal_fits : (limit : ℕ) (x : Number) → x.numerator ≢ pos 0 → fits limit x ≡ true → fits limit (inv_ℚ x) ≡ true
unfolding inv_ℚ
reciprocal_fits limit x some h =
    let parts = turned_parts x.numerator x.denominator x.reduced some in
    let both = parts_fit limit x h in
    fit_parts limit (turned_over x.numerator x.denominator) (rw parts.0 both.1) (rw parts.1 both.0)
