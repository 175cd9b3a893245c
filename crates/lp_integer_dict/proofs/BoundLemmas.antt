-- When the steps on integers fit: those of a ratio test by one bound, those of an exchange by a
-- bound for each two rows.
use Rattle.lp_integer_rows.proofs.Updating.{ratio_none}
use Rattle.std.proofs.Common.{◌≡◌, ◌≢◌, ℕ, zero, suc, ◌+◌, ◌*◌, ◌/◌, ◌<◌, ◌≤◌, inl, inr, true, ℤ, pos, negsuc, ◌+ℤ◌, ◌*ℤ◌, neg_ℤ, nat_abs, refl, sym, ap, ap₂, ◌∙◌, subst, subst₂, arith, mul_comm, mul_assoc, mul-pos, eq-zero-or-pos}
use Rattle.std.specs.Int.{◌∣◌}
use Rattle.std.proofs.lemmas.Int.{ints}
use Rattle.std.proofs.lemmas.Bool.Decides.{nat_tests}
use Rattle.std.proofs.Math.Nat.{dvd-mul_left, div-mul_cancel, eq_of_mul-eq-mul_right, mul-le-mul_left, div-le_self}
use Rattle.gq_number.specs.Gcd.{gcd}
use Rattle.gq_number.specs.Reduced.{nat_abs-neg}
use Rattle.gq_number.specs.Number.{Number, whole, ratio, ◌*ℚ◌, ◌/ℚ◌, neg_ℚ}
use Rattle.gq_number.proofs.Gcd.{gcd_comm, gcd_pos, gcd-times_left, gcd-times_right, dvd_of_coprime, coprime-rest}
use Rattle.gq_number.proofs.Whole.{*ℤ_assoc, *ℤ_swap, *ℤ-+ℤ, cancel_ℤ, nat_abs-*ℤ}
use Rattle.gq_number.proofs.Means.{Means, ratio_means}
use Rattle.gq_number.proofs.Field.{means_same, means-*ℚ, means-neg_ℚ}
use Rattle.gq_number.proofs.Signs.{≢-zero_above}
use Rattle.gq_field.specs.Fits.{fits, sum_fits}
use Rattle.gq_field.proofs.Sums.{none_large}
use Rattle.lp_core.specs.Dictionary.{Dictionary}
use Rattle.lp_core.specs.Steps.{AllFit, product_fits, quotient_fits, difference_fits, ratio_steps}
use Rattle.lp_integer_dict.specs.Bounds.{IsBounded}
use Rattle.lp_integer_dict.specs.Pairs.{IsPairWithin}
use Rattle.lp_integer_rows.proofs.Lessening.{with_sign, with_sign_within, quotient_means}
use Rattle.lp_integer_dict.proofs.Steps.{ratios_fit}

-- ---- a fraction that a number means is a multiple of its reduced one

pub record IsMultiple (x : Number) (n : ℤ) (d k : ℕ) : Type 0 where
  pub positive : 0 < k
  pub above : n ≡ x.numerator *ℤ pos k
  pub below : d ≡ x.denominator * k

some_factor : (a b d : ℕ) → 0 < d → d ≡ a * b → 0 < b
some_factor a b d above e =
    elim (eq-zero-or-pos b) [
      | inl none ↦ absurd (let f : d ≡ a * 0 = e ∙ ap (λ k. a * k) none in omega arith)
      | inr some ↦ some
    ]

pub multiple : {x : Number} {n : ℤ} {d : ℕ} → Means x n d → (k : ℕ) × IsMultiple x n d k
multiple {x} {n} {d} m =
    let b : ℕ = x.denominator in
    let magnitudes : nat_abs x.numerator * d ≡ nat_abs n * b =
    sym (nat_abs-*ℤ x.numerator (pos d)) ∙ ap nat_abs m.cross ∙ nat_abs-*ℤ n (pos b) in
    let inside : b ∣ d =
    dvd_of_coprime b (nat_abs x.numerator) d (gcd_comm b (nat_abs x.numerator) ∙ x.reduced.coprime) (subst (λ k. b ∣ k) (sym magnitudes) (dvd-mul_left b (nat_abs n))) in
    let times : d / b * b ≡ d = div-mul_cancel b inside in
    let below : d ≡ b * (d / b) = sym times ∙ mul_comm (d / b) b in
    let above : n *ℤ pos b ≡ x.numerator *ℤ pos (d / b) *ℤ pos b =
    sym m.cross ∙ ap (λ k. x.numerator *ℤ pos k) (sym times) ∙ sym (*ℤ_assoc x.numerator (pos (d / b)) (pos b)) in
    (d / b, record { positive = some_factor b (d / b) d m.positive below; above = cancel_ℤ n (x.numerator *ℤ pos (d / b)) b x.reduced.positive above; below = below })

-- a factor of a product is at most the product
factor_within : (a k n limit : ℕ) → 0 < k → n ≡ a * k → n ≤ limit → a ≤ limit
factor_within a zero n limit above e h = absurd (omega arith)
factor_within a (suc k) n limit above e h = let f : n ≡ a * k + a = e ∙ omega arith in omega arith

-- a number fits where a fraction that it means has small parts
pub fits_by_means : {x : Number} {n : ℤ} {d : ℕ} (limit : ℕ) → Means x n d → nat_abs n ≤ limit → d ≤ limit → fits limit x ≡ true
fits_by_means {x} {n} {d} limit m top low =
    let u = multiple m in
    let first : nat_abs x.numerator ≤ limit = factor_within (nat_abs x.numerator) u.0 (nat_abs n) limit u.1.positive (ap nat_abs u.1.above ∙ nat_abs-*ℤ x.numerator (pos u.0)) top in
    let second : x.denominator ≤ limit = factor_within x.denominator u.0 d limit u.1.positive u.1.below low in
    grind (arith, nat_tests)

-- ---- a sum over a common denominator

-- what is left of two denominators divides what they are taken times to a common one
rests : (b e g b' e' k j m : ℕ) → 0 < g → b ≡ b' * g → e ≡ e' * g → m ≡ b * k → m ≡ e * j → k * b' ≡ j * e'
rests b e g b' e' k j m above b_is e_is first second =
    eq_of_mul-eq-mul_right g above (k * b') (j * e')
    (let left : b * k ≡ k * b' * g = ap (λ t. t * k) b_is ∙ omega arith in let right : e * j ≡ j * e' * g = ap (λ t. t * j) e_is ∙ omega arith in sym left ∙ sym first ∙ second ∙ right)

-- The least common denominator of two numbers and its multiple, which is a common denominator.
record IsCommon (x y : Number) (p r : ℤ) (m t : ℕ) : Type 0 where
  positive : 0 < t
  first : p ≡ x.numerator *ℤ pos (y.denominator / gcd x.denominator y.denominator) *ℤ pos t
  second : r ≡ y.numerator *ℤ pos (x.denominator / gcd x.denominator y.denominator) *ℤ pos t
  below : m ≡ x.denominator * (y.denominator / gcd x.denominator y.denominator) * t

common : (x y : Number) (p r : ℤ) (m : ℕ) → Means x p m → Means y r m → (t : ℕ) × IsCommon x y p r m t
common x y p r m mx my =
    let b : ℕ = x.denominator in let e : ℕ = y.denominator in let g : ℕ = gcd b e in
    let ux = multiple mx in let uy = multiple my in
    let k : ℕ = ux.0 in let j : ℕ = uy.0 in
    let above_g : 0 < g = gcd_pos b e y.reduced.positive in
    let same : k * (b / g) ≡ j * (e / g) = rests b e g (b / g) (e / g) k j m above_g (sym (gcd-times_left b e)) (sym (gcd-times_right b e)) ux.1.below uy.1.below in
    let inside : e / g ∣ (b / g) * k = subst (λ n. e / g ∣ n) (sym same ∙ mul_comm k (b / g)) (dvd-mul_left (e / g) j) in
    let factor : e / g ∣ k = dvd_of_coprime (e / g) (b / g) k (gcd_comm (e / g) (b / g) ∙ coprime-rest b e y.reduced.positive) inside in
    let t : ℕ = k / (e / g) in
    let k_is : k ≡ e / g * t = sym (div-mul_cancel (e / g) factor) ∙ mul_comm t (e / g) in
    let above_k : 0 < e / g * t = subst (λ n. 0 < n) k_is ux.1.positive in
    let above_t : 0 < t = some_factor (e / g) t (e / g * t) above_k refl in
    let above_e : 0 < e / g = some_factor t (e / g) (e / g * t) above_k (mul_comm (e / g) t) in
    let j_is : j ≡ b / g * t =
    eq_of_mul-eq-mul_right (e / g) above_e j (b / g * t) (sym same ∙ ap (λ n. n * (b / g)) k_is ∙ regroup (e / g) t (b / g)) in (
      t,
      record {
        positive = above_t;
        first = ux.1.above ∙ ap (λ n. x.numerator *ℤ pos n) k_is ∙ sym (*ℤ_assoc x.numerator (pos (e / g)) (pos t));
        second = uy.1.above ∙ ap (λ n. y.numerator *ℤ pos n) j_is ∙ sym (*ℤ_assoc y.numerator (pos (b / g)) (pos t));
        below = ux.1.below ∙ ap (λ n. b * n) k_is ∙ sym (mul_assoc b (e / g) t);
      },
    )
  where
    regroup : (a b c : ℕ) → a * b * c ≡ c * b * a
    regroup a b c = omega arith

pub sum_fits_by_means : (limit : ℕ) (x y : Number) (p r : ℤ) (m : ℕ) → Means x p m → Means y r m → m ≤ limit → nat_abs p ≤ limit → nat_abs r ≤ limit → nat_abs (p +ℤ r) ≤ limit → sum_fits limit x y ≡ true
sum_fits_by_means limit x y p r m mx my low top other total =
    let b : ℕ = x.denominator in let e : ℕ = y.denominator in let g : ℕ = gcd b e in
    let u : ℤ = x.numerator *ℤ pos (e / g) in
    let v : ℤ = y.numerator *ℤ pos (b / g) in
    let h : ℕ = gcd (nat_abs (u +ℤ v)) g in
    let w = common x y p r m mx my in
    let t : ℕ = w.0 in
    let above : 0 < t = w.1.positive in
    let first : nat_abs u ≤ limit = factor_within (nat_abs u) t (nat_abs p) limit above (ap nat_abs w.1.first ∙ nat_abs-*ℤ u (pos t)) top in
    let second : nat_abs v ≤ limit = factor_within (nat_abs v) t (nat_abs r) limit above (ap nat_abs w.1.second ∙ nat_abs-*ℤ v (pos t)) other in
    let both : p +ℤ r ≡ (u +ℤ v) *ℤ pos t = ap₂ (λ a c. a +ℤ c) w.1.first w.1.second ∙ sym (*ℤ-+ℤ u v (pos t)) in
    let third : nat_abs (u +ℤ v) ≤ limit = factor_within (nat_abs (u +ℤ v)) t (nat_abs (p +ℤ r)) limit above (ap nat_abs both ∙ nat_abs-*ℤ (u +ℤ v) (pos t)) total in
    let least : b * (e / g) ≤ limit = factor_within (b * (e / g)) t m limit above w.1.below low in
    let fourth : b / g * (e / h) ≤ limit =
    within (b / g) (e / h) e (b * (e / g)) limit (div-le_self e h) (ap (λ n. b / g * n) (sym (gcd-times_right b e)) ∙ regroup (b / g) (e / g) g ∙ ap (λ n. n * (e / g)) (gcd-times_left b e)) least in
    none_large limit (nat_abs u) (nat_abs v) (nat_abs (u +ℤ v)) (b / g * (e / h)) first second third fourth
  where
    regroup : (a b c : ℕ) → a * (b * c) ≡ a * c * b
    regroup a b c = omega arith

    within : (a c e n limit : ℕ) → c ≤ e → a * e ≡ n → n ≤ limit → a * c ≤ limit
    within a c e n limit less is most = let extended : a * c ≤ a * e = mul-le-mul_left a less in omega arith

-- ---- a ratio test

module _ (limit bound : ℕ) (d : Dictionary) (within_bound : bound ≤ limit) (h : IsBounded d bound) where
  -- a number of a row over another that is not 0
  module _ (i q : ℕ) (some : d.numbers i q ≢ whole (pos 0)) where
    some_number : h.number i q ≢ pos 0
    some_number e = some (h.numbers i q ∙ ap (λ n. ratio n (h.denominator i)) e ∙ ratio_none (h.denominator i))

    over_means : (c : ℕ) → Means (d.numbers i c /ℚ d.numbers i q) (with_sign (h.number i q) (h.number i c)) (nat_abs (h.number i q))
    over_means c =
        subst₂ (λ x y. Means (x /ℚ y) (with_sign (h.number i q) (h.number i c)) (nat_abs (h.number i q))) (sym (h.numbers i c)) (sym (h.numbers i q)) (quotient_means (h.number i c) (h.number i q) (h.denominator i) (h.positive i) some_number)

    pub over_fits : (c : ℕ) → quotient_fits limit (d.numbers i c) (d.numbers i q) ≡ true
    over_fits c =
        let high = h.number_within i c in
        let top : nat_abs (with_sign (h.number i q) (h.number i c)) ≤ bound = subst (λ n. n ≤ bound) (sym (with_sign_within (h.number i q) (h.number i c))) high in
        let low = h.number_within i q in
        fits_by_means limit (over_means c) (omega arith) (omega arith)

  -- every step of a ratio test fits
  pub every_ratio_fits : (pivot q : ℕ) → AllFit (ratio_steps limit pivot d q)
  every_ratio_fits pivot q = ratios_fit limit pivot d q (λ i within above. over_fits i (q + 1) (≢-zero_above (d.numbers i (q + 1)) above) 0)

-- ---- two rows in an exchange

-- a factor above and below
shorter_means : (x : Number) (n : ℤ) (d g : ℕ) → 0 < d → 0 < g → Means x (n *ℤ pos g) (d * g) → Means x n d
shorter_means x n d g positive some m =
    record {
      positive = positive;
      cross = cancel_ℤ (x.numerator *ℤ pos d) (n *ℤ pos x.denominator) g some
          (*ℤ_assoc x.numerator (pos d) (pos g) ∙ m.cross ∙ *ℤ_swap n (pos g) (pos x.denominator));
    }

sum_within : (a b : ℤ) → nat_abs (a +ℤ b) ≤ nat_abs a + nat_abs b
sum_within a b = omega (arith, ints)

moved : (n : ℤ) (d k : ℕ) → n *ℤ pos (d * k) ≡ n *ℤ pos k *ℤ pos d
moved n d k = ap (λ t. n *ℤ pos t) (mul_comm d k) ∙ sym (*ℤ_assoc n (pos k) (pos d))

module _ (limit : ℕ) (ni nk f p : ℤ) (di dk mi mk : ℕ) (above_i : 0 < di) (above_k : 0 < dk) (some : p ≢ pos 0) (top_i : nat_abs ni ≤ mi) (low_i : di ≤ mi) (top_k : nat_abs nk ≤ mk) (h : IsPairWithin f p mi mk limit) where
  abbrev a : ℤ
  a = h.of_row

  abbrev b : ℤ
  b = h.of_leaving

  abbrev g : ℕ
  g = h.shared

  -- the number of the pivot row with the sign of p
  abbrev turned : ℤ
  turned = with_sign p nk

  abbrev low : ℕ
  low = di * nat_abs a

  abbrev top : ℤ
  top = b *ℤ turned

  abbrev prefix : ℤ
  prefix = ni *ℤ pos (nat_abs a)

  p_is : nat_abs p ≡ nat_abs a * g
  p_is = ap nat_abs (sym h.first) ∙ nat_abs-*ℤ a (pos g)

  some_a : 0 < nat_abs a
  some_a = some_factor g (nat_abs a) (nat_abs p) some_p (p_is ∙ mul_comm (nat_abs a) g)
    where
      some_p : 0 < nat_abs p
      some_p = above_zero p some
        where
          above_zero : (z : ℤ) → z ≢ pos 0 → 0 < nat_abs z
          above_zero (pos zero) other = absurd (other refl)
          above_zero (pos (suc n)) other = omega arith
          above_zero (negsuc n) other = omega arith

  product_means : Means (ratio f di *ℚ (ratio nk dk /ℚ ratio p dk)) top low
  product_means =
      let whole_means = means-*ℚ (ratio_means f di above_i) (quotient_means nk p dk above_k some) in
      let top_is : f *ℤ turned ≡ top *ℤ pos g = ap (λ z. z *ℤ turned) (sym h.second) ∙ *ℤ_swap b (pos g) turned in
      let low_is : di * nat_abs p ≡ low * g = ap (λ n. di * n) p_is ∙ sym (mul_assoc di (nat_abs a) g) in
      shorter_means (ratio f di *ℚ (ratio nk dk /ℚ ratio p dk)) top low g (mul-pos above_i some_a) h.positive
      (subst₂ (λ n d. Means (ratio f di *ℚ (ratio nk dk /ℚ ratio p dk)) n d) top_is low_is whole_means)

  low_within : low ≤ nat_abs a * mi
  low_within = let extended : nat_abs a * di ≤ nat_abs a * mi = mul-le-mul_left (nat_abs a) low_i in let same = mul_comm di (nat_abs a) in omega arith

  top_within : nat_abs top ≤ nat_abs b * mk
  top_within =
      let is : nat_abs top ≡ nat_abs b * nat_abs nk = nat_abs-*ℤ b turned ∙ ap (λ n. nat_abs b * n) (with_sign_within p nk) in
      let extended : nat_abs b * nat_abs nk ≤ nat_abs b * mk = mul-le-mul_left (nat_abs b) top_k in
      omega arith

  prefix_within : nat_abs prefix ≤ nat_abs a * mi
  prefix_within =
      let is : nat_abs prefix ≡ nat_abs ni * nat_abs a = nat_abs-*ℤ ni (pos (nat_abs a)) in
      let extended : nat_abs a * nat_abs ni ≤ nat_abs a * mi = mul-le-mul_left (nat_abs a) top_i in
      let same = mul_comm (nat_abs ni) (nat_abs a) in
      omega arith

  prefix_means : Means (ratio ni di) prefix low
  prefix_means = means_same (ratio_means ni di above_i) (mul-pos above_i some_a) (moved ni di (nat_abs a))

  pub pair_product : product_fits limit (ratio f di) (ratio nk dk /ℚ ratio p dk) ≡ true
  pair_product =
      let within_bound = h.within_bound in
      let first = top_within in
      let second = low_within in
      fits_by_means limit product_means (omega arith) (omega arith)

  pub pair_difference : difference_fits limit (ratio ni di) (ratio f di *ℚ (ratio nk dk /ℚ ratio p dk)) ≡ true
  pair_difference =
      let within_bound = h.within_bound in
      let one = top_within in
      let two = low_within in
      let three = prefix_within in
      let other : nat_abs (neg_ℤ top) ≡ nat_abs top = nat_abs-neg top in
      let total = sum_within prefix (neg_ℤ top) in
      sum_fits_by_means limit (ratio ni di) (neg_ℚ (ratio f di *ℚ (ratio nk dk /ℚ ratio p dk))) prefix (neg_ℤ top) low prefix_means (means-neg_ℚ product_means) (omega arith) (omega arith) (omega arith) (omega arith)
