-- The texts that are put, as the definitions ask.
use Rattle.std.proofs.Common.{◌≡◌, ℕ, zero, suc, ◌+◌, ◌*◌, ◌/◌, ◌%◌, ◌^◌, ◌<◌, ◌≤◌, Bool, true, false, ◌&&◌, nat_lt, nat_le, List, ◌++◌, length, refl, sym, ap, ap₂, ◌∙◌, subst, arith, inl, inr, append_assoc, codes, ℤ, pos, negsuc, neg_ℤ, ◌*ℤ◌, nat_abs, mul-pos}
use Rattle.std.proofs.Math.Nat.{mul-div-mul_right, div-eq_of_lt, div-eq_of_lt-le, div-add-mod'}
use Rattle.std.proofs.lemmas.Bool.Decides.{nat_tests}
use Rattle.std.proofs.lemmas.Int.{to_z-of_z, fits_signed_from_abs}
use Rattle.std.specs.Int.RustNames.{int_lt}
use mir.Val.{to_z, of_z}
use mir.Syntax.{w128}
use Rattle.gq_field.specs.Fits.{fits}
use Rattle.gq_number.specs.Number.{Number, whole, ◌*ℚ◌, rounded, quotient_to_nearest}
use Rattle.gq_number.proofs.Whole.{less_pos, less_negsuc, less-*ℤ, less-neg, less_out, from_less, nat_abs-*ℤ}
use Rattle.gq_number.proofs.Means.{means_itself}
use Rattle.gq_number.proofs.Field.{means-*ℚ, means-whole}
use Rattle.gq_text.specs.Numeral.{AreDigits, spelled, IsNumeral, WithSign}
use Rattle.gq_text.specs.Shown.{with_decimal_point, IsFixed, IsExactText}
use Rattle.gq_text.proofs.Literals.{tens_above}
use Rattle.gq_text.specs.InnerAppends.{AppendsDenominator, sign_text}

-- ---- units of the last place

nearest_nat : (n m c d : ℕ) → 0 < c → 0 < d → n * d ≡ m * c → (2 * n + c) / (2 * c) ≡ (2 * m + d) / (2 * d)
nearest_nat n m c d some_c some_d e =
    let top : (2 * n + c) * d ≡ (2 * m + d) * c = omega arith in
    sym (mul-div-mul_right (2 * n + c) (2 * c) some_d) ∙ ap₂ (λ a b. a / b) top (let f : 2 * c * d ≡ 2 * d * c = omega arith in f) ∙ mul-div-mul_right (2 * m + d) (2 * d) some_c

-- k units, with the sign of a whole number
pub with_sign_of : ℤ → ℕ → ℤ
with_sign_of (pos n) k = pos k
with_sign_of (negsuc n) k = neg_ℤ (pos k)

-- the units of the last place that are nearest to a fraction
abbrev pub units : ℕ → ℕ → ℕ → ℕ
units n t d = (2 * (n * t) + d) / (2 * d)

nearest_neg : (n d : ℕ) → 0 < d → quotient_to_nearest (neg_ℤ (pos n)) d ≡ neg_ℤ (pos ((2 * n + d) / (2 * d)))
nearest_neg zero d some = let e : (2 * 0 + d) / (2 * d) ≡ 0 = div-eq_of_lt (omega arith) in rw e refl
nearest_neg (suc n) d some = refl

nearest_same : (n m : ℤ) (c d : ℕ) → 0 < c → 0 < d → n *ℤ pos d ≡ m *ℤ pos c → quotient_to_nearest n c ≡ quotient_to_nearest m d
nearest_same (pos n) (pos m) c d some_c some_d e = ap pos (nearest_nat n m c d some_c some_d (let f : pos (n * d) ≡ pos (m * c) = e in cc))
nearest_same (pos n) (negsuc m) c d some_c some_d e =
    let some : 0 < suc m * c = mul-pos (omega arith) some_c in
    absurd (omega (arith, less_out (less-*ℤ (less_pos n) (less_pos d)) (less-*ℤ (less_negsuc m) (less_pos c)) e))
nearest_same (negsuc n) (pos m) c d some_c some_d e =
    let some : 0 < suc n * d = mul-pos (omega arith) some_d in
    absurd (omega (arith, less_out (less-*ℤ (less_negsuc n) (less_pos d)) (less-*ℤ (less_pos m) (less_pos c)) e))
nearest_same (negsuc n) (negsuc m) c d some_c some_d e =
    ap (λ k. neg_ℤ (pos k)) (nearest_nat (suc n) (suc m) c d some_c some_d (sym (nat_abs-*ℤ (negsuc n) (pos d)) ∙ ap nat_abs e ∙ nat_abs-*ℤ (negsuc m) (pos c)))

nearest_times : (n : ℤ) (t d : ℕ) → 0 < d → quotient_to_nearest (n *ℤ pos t) d ≡ with_sign_of n (units (nat_abs n) t d)
unfolding with_sign_of
nearest_times (pos n) t d some = refl
nearest_times (negsuc n) t d some =
    let product : negsuc n *ℤ pos t ≡ neg_ℤ (pos (suc n * t)) = from_less (less-*ℤ (less_negsuc n) (less_pos t)) (less-neg (less_pos (suc n * t))) (omega arith) in
    ap (λ z. quotient_to_nearest z d) product ∙ nearest_neg (suc n * t) d some

pub rounded_units : (x : Number) (t : ℕ) → 0 < t → rounded (x *ℚ whole (pos t)) ≡ with_sign_of x.numerator (units (nat_abs x.numerator) t x.denominator)
unfolding rounded
rounded_units x t some =
    let y = x *ℚ whole (pos t) in
    let m = means-*ℚ (means_itself x) (means-whole (pos t)) in
    let below : x.denominator * 1 ≡ x.denominator = omega arith in
    nearest_same y.numerator (x.numerator *ℤ pos t) y.denominator (x.denominator * 1) y.reduced.positive m.positive m.cross ∙ ap (quotient_to_nearest (x.numerator *ℤ pos t)) below ∙ nearest_times x.numerator t x.denominator x.reduced.positive

-- ---- the text

-- a whole part and decimals below their unit are the quotient and the remainder of k
parts_back : (whole' fraction t k : ℕ) → 0 < t → whole' * t + fraction ≡ k → fraction < t → (k / t ≡ whole') × (k % t ≡ fraction)
parts_back whole' fraction t k some e small =
    let quotient : k / t ≡ whole' = div-eq_of_lt-le {k = whole'} t {m = k} (omega arith) (omega arith) in
    let split = div-add-mod' k t in
    (quotient, let product : k / t * t ≡ whole' * t = ap (λ n. n * t) quotient in omega arith)

pub IsFixed_from : (before now decimals' : List ℕ) (d whole' fraction k : ℕ) → IsNumeral whole' before → AreDigits decimals' → length decimals' ≡ d → spelled decimals' ≡ fraction → fraction < 10 ^ d → whole' * 10 ^ d + fraction ≡ k → now ≡ before ++ with_decimal_point decimals' → IsFixed d k now
IsFixed_from before now decimals' d whole' fraction k n h l s small e layout =
    let parts = parts_back whole' fraction (10 ^ d) k (tens_above d) e small in
    record {
      before = before;
      following = decimals';
      before_is = subst (λ w. IsNumeral w before) (sym parts.0) n;
      after_digits = h;
      after_places = l;
      after_spells = s ∙ sym parts.1;
      text_is = layout;
    }

not_below_zero : (n : ℕ) → int_lt (pos n) (pos 0) ≡ false
not_below_zero n = grind (arith, nat_tests)

-- the text of a magnitude after its sign, which is that of a whole number
pub WithSign_from : (Is : ℕ → List ℕ → Type 0) (n : ℤ) (k : ℕ) (negative : Bool) (text rest : List ℕ) → negative ≡ (int_lt n (pos 0) && nat_lt 0 k) → text ≡ sign_text negative ++ rest → Is k rest → WithSign Is (with_sign_of n k) text
unfolding with_sign_of
WithSign_from Is (pos n) k negative text rest sign layout h =
    let none : negative ≡ false = sign ∙ ap (λ b. b && nat_lt 0 k) (not_below_zero n) in
    let plain : text ≡ rest = layout ∙ ap (λ b. sign_text b ++ rest) none in subst (Is k) (sym plain) h
WithSign_from Is (negsuc n) zero negative text rest sign layout h =
    let plain : text ≡ rest = layout ∙ ap (λ b. sign_text b ++ rest) sign in subst (Is 0) (sym plain) h
WithSign_from Is (negsuc n) (suc k) negative text rest sign layout h =
    let some : nat_lt 0 (suc k) ≡ true = grind (arith, nat_tests) in
    (rest, layout ∙ ap (λ b. sign_text b ++ rest) (sign ∙ some), h)

pub with_own_sign : (n : ℤ) → with_sign_of n (nat_abs n) ≡ n
unfolding with_sign_of
with_own_sign (pos n) = refl
with_own_sign (negsuc n) = refl

pub sign_alone : (n : ℤ) → int_lt n (pos 0) ≡ (int_lt n (pos 0) && nat_lt 0 (nat_abs n))
sign_alone (pos n) = not_below_zero n ∙ sym (ap (λ b. b && nat_lt 0 n) (not_below_zero n))
sign_alone (negsuc n) = sym (some n)
  where
    some : (n : ℕ) → nat_lt 0 (suc n) ≡ true
    some n = grind (arith, nat_tests)

-- a numerator within a field's limit is what its 128 bits say
pub read_back : (limit : ℕ) (x : Number) (n : ℤ) → fits limit x ≡ true → limit < 2 ^ 127 → n ≡ x.numerator → to_z w128 (of_z w128 n) ≡ x.numerator
read_back limit x n f small e =
    let within : nat_abs x.numerator ≤ limit = numerator_small limit (nat_abs x.numerator) x.denominator f in
    ap (λ z. to_z w128 (of_z w128 z)) e ∙ to_z-of_z w128 x.numerator (fits_signed_from_abs w128 x.numerator (omega arith))
  where
    numerator_small : (limit a b : ℕ) → (nat_le a limit && nat_le b limit) ≡ true → a ≤ limit
    numerator_small limit a b h = grind (arith, nat_tests)

-- where a whole part or decimals are not 0, neither are the units
same_test : (a b : ℕ) → (0 < a → 0 < b) → (0 < b → 0 < a) → nat_lt 0 a ≡ nat_lt 0 b
same_test zero zero f g = refl
same_test zero (suc b) f g = absurd (let h = g (omega arith) in omega arith)
same_test (suc a) zero f g = absurd (let h = f (omega arith) in omega arith)
same_test (suc a) (suc b) f g = grind (arith, nat_tests)

some_up : (w f t k : ℕ) → 0 < t → w * t + f ≡ k → 0 < w + f → 0 < k
some_up zero f t k some e h = omega arith
some_up (suc w) f t k some e h = omega arith

some_down : (w f t k : ℕ) → w * t + f ≡ k → 0 < k → 0 < w + f
some_down zero f t k e h = omega arith
some_down (suc w) f t k e h = omega arith

pub some_units : (w f t k : ℕ) → 0 < t → w * t + f ≡ k → nat_lt 0 (w + f) ≡ nat_lt 0 k
some_units w f t k some e = same_test (w + f) k (some_up w f t k some e) (some_down w f t k e)

pub IsExactText_from : (x : Number) (d : ℕ) (above now : List ℕ) → d ≡ x.denominator → WithSign IsNumeral x.numerator above → AppendsDenominator above now d → IsExactText x now
IsExactText_from x d above now e h a =
    elim a [
      | inl one ↦ inl (sym e ∙ one.0, subst (WithSign IsNumeral x.numerator) (sym one.1) h)
      | inr more ↦ let below = more.1.0 in
          inr (λ f. more.0 (e ∙ f), (above, below, more.1.2 ∙ sym (append_assoc above (codes "/") below), h, subst (λ k. IsNumeral k below) e more.1.1))
    ]
