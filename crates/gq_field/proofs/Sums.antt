-- What the sum of two fractions shows, and when it fits.
use Rattle.std.proofs.Common.{◌≡◌, ℕ, ◌+◌, ◌-◌, ◌*◌, ◌/◌, ◌<◌, ◌≤◌, ◌⊎◌, inl, inr, Bool, true, false, ◌&&◌, nat_le, pos, ◌+ℤ◌, ◌*ℤ◌, nat_abs, sym, ap, ap₂, ◌∙◌, subst, arith, mul-pos, mul_assoc, mul-one, one-mul}
use Rattle.std.specs.Int.{◌∣◌}
use Rattle.std.proofs.lemmas.Int.{ints}
use Rattle.std.proofs.lemmas.Bool.Decides.{nat_tests}
use Rattle.std.proofs.Math.Nat.{dvd-add, dvd-sub, dvd-mul_left_of_dvd, dvd_refl, mul-div_cancel, pos_of_dvd_of_pos}
use Rattle.gq_number.specs.Gcd.{gcd}
use Rattle.gq_number.specs.Reduced.{IsReduced}
use Rattle.gq_number.specs.Number.{ratio, ◌+ℚ◌}
use Rattle.gq_number.proofs.Gcd.{gcd_comm, gcd_pos, gcd-times_left, gcd-times_right, coprime_from, coprime_only, coprime-rest, coprime-mul, coprime-mul_right, coprime_of_dvd}
use Rattle.gq_number.proofs.Whole.{*ℤ-+ℤ}
use Rattle.gq_field.specs.declared.fraction.Fraction.{Fraction}
use Rattle.gq_field.specs.Fits.{sum_fits}
use Rattle.gq_field.specs.Values.{fraction_value, signed}
use Rattle.gq_field.proofs.Binary.{gcd_self}
use Rattle.gq_field.proofs.Fractions.{Shows, ratio_shows, signed-times, nat_abs-signed, rest_left, rest_right, rest_pos}

-- of three numbers one is the sum of the others
abbrev OneIsSum : ℕ → ℕ → ℕ → Type 0
OneIsSum a b c = (c ≡ a + b) ⊎ ((a ≡ b + c) ⊎ (b ≡ a + c))

-- the magnitudes of two whole numbers and their sum
magnitudes : (r s t : Bool) (c a b : ℕ) → signed r c ≡ signed s a +ℤ signed t b → OneIsSum a b c
magnitudes false false false c a b e = inl (omega (arith, ints))
magnitudes true false false c a b e = inl (omega (arith, ints))
magnitudes false true true c a b e = inl (omega (arith, ints))
magnitudes true true true c a b e = inl (omega (arith, ints))
magnitudes false false true c a b e = inr (inl (omega (arith, ints)))
magnitudes true false true c a b e = inr (inr (omega (arith, ints)))
magnitudes false true false c a b e = inr (inr (omega (arith, ints)))
magnitudes true true false c a b e = inr (inl (omega (arith, ints)))

-- what divides the sum and one of them divides the other
dvd_first : (p a b c : ℕ) → OneIsSum a b c → p ∣ c → p ∣ b → p ∣ a
dvd_first p a b c (inl e) h k = let f : c - b ≡ a = omega arith in subst (λ n. p ∣ n) f (dvd-sub p h k)
dvd_first p a b c (inr (inl e)) h k = subst (λ n. p ∣ n) (sym e) (dvd-add p k h)
dvd_first p a b c (inr (inr e)) h k = let f : b - c ≡ a = omega arith in subst (λ n. p ∣ n) f (dvd-sub p k h)

dvd_second : (p a b c : ℕ) → OneIsSum a b c → p ∣ c → p ∣ a → p ∣ b
dvd_second p a b c (inl e) h k = let f : c - a ≡ b = omega arith in subst (λ n. p ∣ n) f (dvd-sub p h k)
dvd_second p a b c (inr (inl e)) h k = let f : a - c ≡ b = omega arith in subst (λ n. p ∣ n) f (dvd-sub p k h)
dvd_second p a b c (inr (inr e)) h k = subst (λ n. p ∣ n) (sym e) (dvd-add p k h)

cross_sum : (q h b k g : ℕ) → q * ((b * g) * (k * h)) ≡ q * h * g * (b * k)
cross_sum q h b k g = omega arith

-- the sum over the common denominator, as its numerators and the sum of these are found
module _ (r s t : Bool) (top m n b d : ℕ) (first : IsReduced (pos m) b) (second : IsReduced (pos n) d) (e : signed r top ≡ signed s (m * (d / gcd b d)) +ℤ signed t (n * (b / gcd b d))) where
  one_is_sum : OneIsSum (m * (d / gcd b d)) (n * (b / gcd b d)) top
  one_is_sum = magnitudes r s t top (m * (d / gcd b d)) (n * (b / gcd b d)) e

  shared_pos : 0 < gcd b d
  shared_pos = gcd_pos b d second.positive

  first_pos : 0 < b / gcd b d
  first_pos = pos_of_dvd_of_pos (rest_left b d) first.positive

  apart_first : gcd top (b / gcd b d) ≡ 1
  apart_first =
      let parts : gcd (m * (d / gcd b d)) (b / gcd b d) ≡ 1 =
      coprime-mul m (d / gcd b d) (b / gcd b d) (coprime_of_dvd m b _ _ (dvd_refl m) (rest_left b d) first.coprime) (gcd_comm _ _ ∙ coprime-rest b d second.positive) in
      coprime_from top (b / gcd b d) (λ p in_top in_rest.
      coprime_only _ _ p parts (dvd_first p _ _ top one_is_sum in_top (dvd-mul_left_of_dvd p in_rest n)) in_rest)

  apart_second : gcd top (d / gcd b d) ≡ 1
  apart_second =
      let parts : gcd (n * (b / gcd b d)) (d / gcd b d) ≡ 1 =
      coprime-mul n (b / gcd b d) (d / gcd b d) (coprime_of_dvd n d _ _ (dvd_refl n) (rest_right b d) second.coprime) (coprime-rest b d second.positive) in
      coprime_from top (d / gcd b d) (λ p in_top in_rest.
      coprime_only _ _ p parts (dvd_second p _ _ top one_is_sum in_top (dvd-mul_left_of_dvd p in_rest m)) in_rest)

  -- the greatest common divisor of the sum's numerator and of both denominators divides the second
  times_divisor : d / gcd b d * (gcd b d / gcd top (gcd b d)) * gcd top (gcd b d) ≡ d
  times_divisor =
      mul_assoc (d / gcd b d) _ _ ∙ ap (λ k. d / gcd b d * k) (gcd-times_right top (gcd b d)) ∙ gcd-times_right b d

  second_rest : d / gcd top (gcd b d) ≡ d / gcd b d * (gcd b d / gcd top (gcd b d))
  second_rest =
      ap (λ k. k / gcd top (gcd b d)) (sym times_divisor) ∙ mul-div_cancel (d / gcd b d * (gcd b d / gcd top (gcd b d))) (gcd_pos top (gcd b d) shared_pos)

  sum_reduced : IsReduced (pos (top / gcd top (gcd b d))) (b / gcd b d * (d / gcd top (gcd b d)))
  sum_reduced =
      let h : ℕ = gcd top (gcd b d) in
      let low : gcd (top / h) (d / h) ≡ 1 =
      ap (gcd (top / h)) second_rest
      ∙ coprime-mul_right (top / h) (d / gcd b d) (gcd b d / h) (coprime_of_dvd top _ _ _ (rest_left top (gcd b d)) (dvd_refl _) apart_second) (coprime-rest top (gcd b d) shared_pos) in
      record {
        coprime = coprime-mul_right (top / h) (b / gcd b d) (d / h) (coprime_of_dvd top _ _ _ (rest_left top (gcd b d)) (dvd_refl _) apart_first) low;
        positive = mul-pos first_pos (subst (λ k. 0 < k) (sym second_rest) (mul-pos (rest_pos b d second.positive) (rest_pos top (gcd b d) shared_pos)));
      }

  sum_shows : Shows (ratio (signed s m *ℤ pos d +ℤ signed t n *ℤ pos b) (b * d)) r (top / gcd top (gcd b d)) (b / gcd b d * (d / gcd top (gcd b d)))
  sum_shows =
      let g : ℕ = gcd b d in
      let h : ℕ = gcd top g in
      let left : signed s m *ℤ pos d ≡ signed s (m * (d / g)) *ℤ pos g =
      ap (λ k. signed s m *ℤ pos k) (sym (gcd-times_right b d)) ∙ signed-times s m (d / g * g) ∙ ap (signed s) (sym (mul_assoc m (d / g) g)) ∙ sym (signed-times s (m * (d / g)) g) in
      let right : signed t n *ℤ pos b ≡ signed t (n * (b / g)) *ℤ pos g =
      ap (λ k. signed t n *ℤ pos k) (sym (gcd-times_left b d)) ∙ signed-times t n (b / g * g) ∙ ap (signed t) (sym (mul_assoc n (b / g) g)) ∙ sym (signed-times t (n * (b / g)) g) in
      let both : signed s m *ℤ pos d +ℤ signed t n *ℤ pos b ≡ signed r (top * g) =
      ap₂ (λ x y. x +ℤ y) left right ∙ sym (*ℤ-+ℤ (signed s (m * (d / g))) (signed t (n * (b / g))) (pos g)) ∙ ap (λ z. z *ℤ pos g) (sym e) ∙ signed-times r top g in
      let d_is : d / h * h ≡ d = ap (λ k. k * h) second_rest ∙ times_divisor in
      let cross : top / h * (b * d) ≡ top * g * (b / g * (d / h)) =
      ap₂ (λ x y. top / h * (x * y)) (sym (gcd-times_left b d)) (sym d_is) ∙ cross_sum (top / h) h (b / g) (d / h) g ∙ ap (λ k. k * g * (b / g * (d / h))) (gcd-times_left top g) in
      ratio_shows r _ _ (signed s m *ℤ pos d +ℤ signed t n *ℤ pos b) (b * d) sum_reduced (mul-pos first.positive second.positive)
      (signed-times r (top / h) (b * d) ∙ ap (signed r) cross ∙ sym (signed-times r (top * g) _) ∙ ap (λ z. z *ℤ pos (b / g * (d / h))) (sym both))

-- the four tests of a sum, by the magnitudes that the program has
abbrev pub all_small : ℕ → ℕ → ℕ → ℕ → ℕ → Bool
all_small limit first second top low = nat_le first limit && nat_le second limit && nat_le top limit && nat_le low limit

pub sum_tests : (limit : ℕ) (x y : Fraction) (r : Bool) (top : ℕ) → signed r top ≡ signed x.negative (x.magnitude * (y.denominator / gcd x.denominator y.denominator)) +ℤ signed y.negative (y.magnitude * (x.denominator / gcd x.denominator y.denominator)) → sum_fits limit (fraction_value x) (fraction_value y) ≡ all_small limit (x.magnitude * (y.denominator / gcd x.denominator y.denominator)) (y.magnitude * (x.denominator / gcd x.denominator y.denominator)) top (x.denominator / gcd x.denominator y.denominator * (y.denominator / gcd top (gcd x.denominator y.denominator)))
unfolding fraction_value
sum_tests limit x y r top e =
    let g : ℕ = gcd x.denominator y.denominator in
    let u = signed-times x.negative x.magnitude (y.denominator / g) in
    let v = signed-times y.negative y.magnitude (x.denominator / g) in
    let first = ap nat_abs u ∙ nat_abs-signed x.negative (x.magnitude * (y.denominator / g)) in
    let second = ap nat_abs v ∙ nat_abs-signed y.negative (y.magnitude * (x.denominator / g)) in
    let total = ap nat_abs (ap₂ (λ p q. p +ℤ q) u v ∙ sym e) ∙ nat_abs-signed r top in
    let low = λ (c : ℕ). x.denominator / g * (y.denominator / gcd c g) in
    let v_before : ℕ = nat_abs (signed y.negative y.magnitude *ℤ pos (x.denominator / g)) in
    let t_before : ℕ = nat_abs (signed x.negative x.magnitude *ℤ pos (y.denominator / g) +ℤ signed y.negative y.magnitude *ℤ pos (x.denominator / g)) in
    ap (λ a. all_small limit a v_before t_before (low t_before)) first
    ∙ ap (λ b. all_small limit (x.magnitude * (y.denominator / g)) b t_before (low t_before)) second
    ∙ ap (λ c. all_small limit (x.magnitude * (y.denominator / g)) (y.magnitude * (x.denominator / g)) c (low c)) total

pub first_large : (limit first second top low : ℕ) → ¬ (first ≤ limit) → all_small limit first second top low ≡ false
first_large limit first second top low h = grind (arith, nat_tests)

pub second_large : (limit first second top low : ℕ) → ¬ (second ≤ limit) → all_small limit first second top low ≡ false
second_large limit first second top low h = grind (arith, nat_tests)

pub top_large : (limit first second top low : ℕ) → ¬ (top ≤ limit) → all_small limit first second top low ≡ false
top_large limit first second top low h = grind (arith, nat_tests)

pub low_large : (limit first second top low : ℕ) → ¬ (low ≤ limit) → all_small limit first second top low ≡ false
low_large limit first second top low h = grind (arith, nat_tests)

pub none_large : (limit first second top low : ℕ) → first ≤ limit → second ≤ limit → top ≤ limit → low ≤ limit → all_small limit first second top low ≡ true
none_large limit first second top low h k l m = grind (arith, nat_tests)

-- the sum of two fractions, by the numbers that the program computes
pub record IsSum (limit : ℕ) (x y : Fraction) (r : Bool) (first second top magnitude low : ℕ) : Type 0 where
  pub shows : Shows (fraction_value x +ℚ fraction_value y) r magnitude low
  pub tests : sum_fits limit (fraction_value x) (fraction_value y) ≡ all_small limit first second top low

sum_is : (limit : ℕ) (x y : Fraction) (r : Bool) (top : ℕ) → signed r top ≡ signed x.negative (x.magnitude * (y.denominator / gcd x.denominator y.denominator)) +ℤ signed y.negative (y.magnitude * (x.denominator / gcd x.denominator y.denominator)) → IsSum limit x y r (x.magnitude * (y.denominator / gcd x.denominator y.denominator)) (y.magnitude * (x.denominator / gcd x.denominator y.denominator)) top (top / gcd top (gcd x.denominator y.denominator)) (x.denominator / gcd x.denominator y.denominator * (y.denominator / gcd top (gcd x.denominator y.denominator)))
unfolding ◌+ℚ◌ fraction_value
sum_is limit x y r top e =
    record {
      shows = sum_shows r x.negative y.negative top x.magnitude y.magnitude x.denominator y.denominator x.reduced y.reduced e;
      tests = sum_tests limit x y r top e;
    }

pub sum_of_fractions : (limit : ℕ) (x y : Fraction) (common first second : ℕ) (r : Bool) (top shared low : ℕ) → common ≡ gcd x.denominator y.denominator → first ≡ x.magnitude * (y.denominator / common) → second ≡ y.magnitude * (x.denominator / common) → signed r top ≡ signed x.negative first +ℤ signed y.negative second → shared ≡ gcd top common → low ≡ x.denominator / common * (y.denominator / shared) → IsSum limit x y r first second top (top / shared) low
sum_of_fractions limit x y common first second r top shared low c p q e h l =
    let in_first : first ≡ x.magnitude * (y.denominator / gcd x.denominator y.denominator) = p ∙ ap (λ k. x.magnitude * (y.denominator / k)) c in
    let in_second : second ≡ y.magnitude * (x.denominator / gcd x.denominator y.denominator) = q ∙ ap (λ k. y.magnitude * (x.denominator / k)) c in
    let total = e ∙ ap₂ (λ a b. signed x.negative a +ℤ signed y.negative b) in_first in_second in
    rw (in_first, in_second, l, h, c) (sum_is limit x y r top total)

-- the same, by the rests that it computes on the way
pub sum_by_parts : (limit : ℕ) (x y : Fraction) (common left right first second : ℕ) (r : Bool) (top shared rest high low : ℕ) → common ≡ gcd x.denominator y.denominator → left ≡ x.denominator / common → right ≡ y.denominator / common → first ≡ x.magnitude * right → second ≡ y.magnitude * left → signed r top ≡ signed x.negative first +ℤ signed y.negative second → shared ≡ gcd top common → rest ≡ y.denominator / shared → high ≡ top / shared → low ≡ left * rest → IsSum limit x y r first second top high low
sum_by_parts limit x y common left right first second r top shared rest high low is_common is_left is_right is_first is_second total is_shared is_rest is_high is_low =
    rw is_high (sum_of_fractions limit x y common first second r top shared low is_common (is_first ∙ ap (λ k. x.magnitude * k) is_right) (is_second ∙ ap (λ k. y.magnitude * k) is_left) total is_shared (is_low ∙ ap₂ (λ i j. i * j) is_left is_rest))

-- the sum over one denominator
pub sum_of_same : (limit : ℕ) (x y : Fraction) (r : Bool) (top shared high low : ℕ) → x.denominator ≡ y.denominator → signed r top ≡ signed x.negative x.magnitude +ℤ signed y.negative y.magnitude → shared ≡ gcd top x.denominator → high ≡ top / shared → low ≡ x.denominator / shared → IsSum limit x y r x.magnitude y.magnitude top high low
sum_of_same limit x y r top shared high low same total is_shared is_high is_low =
    let common : x.denominator ≡ gcd x.denominator y.denominator = sym (gcd_self x.denominator) ∙ ap (gcd x.denominator) same in
    let left : 1 ≡ x.denominator / x.denominator = sym (ap (λ k. k / x.denominator) (sym (one-mul x.denominator)) ∙ mul-div_cancel 1 x.reduced.positive) in
    let right : 1 ≡ y.denominator / x.denominator = left ∙ ap (λ k. k / x.denominator) same in
    sum_by_parts limit x y x.denominator 1 1 x.magnitude y.magnitude r top shared low high low common left right (sym (mul-one x.magnitude)) (sym (mul-one y.magnitude)) total is_shared (is_low ∙ ap (λ k. k / shared) same) is_high (sym (one-mul low))
