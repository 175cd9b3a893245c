-- That the rounded texts of numbers compute.
use Rattle.std.proofs.Common.{◌≡◌, ℕ, zero, suc, ◌+◌, ◌*◌, ◌/◌, ◌%◌, ◌-◌, ◌^◌, ◌<◌, ◌≤◌, ◌==◌, Bool, true, false, List, [], ◌∷◌, ◌++◌, length, refl, sym, ap, ◌∙◌, subst, arith, codes, decimal, ℤ, pos, negsuc, nat_abs, replicate, add-one, if◌then◌else◌, length-append, mul-le-mul_right, ◌&&◌, nat_lt}
use Rattle.std.proofs.lemmas.List.{length-replicate}
use Rattle.std.specs.Int.RustNames.{int_lt}
use Rattle.gq_text.specs.InnerAppends.{sign_text}
use Rattle.std.proofs.Math.Nat.{div-le_self, div-le_of_le-mul, mod-lt, mod-le, mul-le-mul_left, pow-le-pow_right}
use Rattle.std.proofs.lemmas.Bool.Decides.{nat_tests}
use Rattle.std.proofs.lemmas.Fmt.{length-decimal-le_wide}
use Rattle.gq_number.specs.Number.{Number, whole, ◌*ℚ◌, rounded}
use Rattle.gq_field.specs.Fits.{fits}
use Rattle.gq_text.specs.Numeral.{AreDigits, spelled, WithSign}
use Rattle.gq_text.specs.Shown.{with_decimal_point, IsFixed, IsFixedSigned, IsRoundedText}
use Rattle.gq_text.proofs.Numerals.{spelled-append, AreDigits-append}
use Rattle.gq_text.proofs.Literals.{tens_above}
use Rattle.gq_text.proofs.Showings.{with_sign_of, units, rounded_units, WithSign_from}
use Rattle.gq_text.proofs.Texts.{one_rounded}
use Rattle.gq_text.proofs.Exacts.{numeral_is, fitting, either}
use Rattle.gms_list.specs.Amounts.{in_places, fixed_text, signed_text, rounded_text}

-- ---- decimals after a point

AreDigits-replicate : (k : ℕ) → AreDigits (replicate k 48)
AreDigits-replicate zero = tt
AreDigits-replicate (suc k) = (omega arith, omega arith, AreDigits-replicate k)

spelled-replicate : (k : ℕ) → spelled (replicate k 48) ≡ 0
spelled-replicate zero = refl
spelled-replicate (suc k) = let e = spelled-replicate k in omega (arith, e)

-- `d` decimals, which spell the number
record Places (d n : ℕ) (text : List ℕ) : Type 0 where
  pub digits : AreDigits text
  pub places : length text ≡ d
  pub spells : spelled text ≡ n

in_places_are : (d n : ℕ) → 0 < d → n < 10 ^ d → n < 10 ^ 64 → Places d n (in_places d n)
in_places_are d n some small wide =
    let m = numeral_is n wide in
    let short = length-decimal-le_wide d n some small wide in
    let zeros : List ℕ = replicate (d - length (decimal n)) 48 in
    record {
      digits = AreDigits-append zeros (decimal n) (AreDigits-replicate (d - length (decimal n))) m.digits;
      places = omega (arith, length-append zeros (decimal n), length-replicate {A = ℕ} (d - length (decimal n)) 48, short);
      spells = spelled-append zeros (decimal n) ∙ ap (λ k. k * 10 ^ length (decimal n) + spelled (decimal n)) (spelled-replicate (d - length (decimal n))) ∙ (let s = m.spells in omega (arith, s));
    }

point_after : (text : List ℕ) → 0 < length text → codes "." ++ text ≡ with_decimal_point text
point_after [] h = absurd (omega arith)
point_after (b ∷ bs) h = refl

tail_of : (d : ℕ) (text : List ℕ) (b : Bool) → (d == 0) ≡ b → (if b then [] else codes "." ++ text) ≡ (if d == 0 then [] else codes "." ++ text)
tail_of d text b e = ap (λ c. if c then [] else codes "." ++ text) (sym e)

fixed_without : (d n : ℕ) → (d == 0) ≡ true → n < 10 ^ 64 → IsFixed d n (fixed_text d n)
fixed_without d n e h =
    let none : d ≡ 0 = grind (arith, nat_tests) in
    record {
      before = decimal (n / 10 ^ d);
      following = [];
      before_is = numeral_is (n / 10 ^ d) (let q = div-le_self n (10 ^ d) in omega (arith, q));
      after_digits = tt;
      after_places = sym none;
      after_spells = sym (ap (λ k. n % 10 ^ k) none ∙ (let l = mod-lt n {m = 1} (omega arith) in omega (arith, l)));
      text_is = ap (λ t. decimal (n / 10 ^ d) ++ t) (sym (tail_of d (in_places d (n % 10 ^ d)) true e));
    }

fixed_with : (d n : ℕ) → (d == 0) ≡ false → n < 10 ^ 64 → IsFixed d n (fixed_text d n)
fixed_with d n e h =
    let some : 0 < d = grind (arith, nat_tests) in
    let p = in_places_are d (n % 10 ^ d) some (mod-lt n {m = 10 ^ d} (tens_above d)) (let q = mod-le n (10 ^ d) in omega (arith, q)) in
    record {
      before = decimal (n / 10 ^ d);
      following = in_places d (n % 10 ^ d);
      before_is = numeral_is (n / 10 ^ d) (let q = div-le_self n (10 ^ d) in omega (arith, q));
      after_digits = p.digits;
      after_places = p.places;
      after_spells = p.spells;
      text_is = ap (λ t. decimal (n / 10 ^ d) ++ t) (sym (tail_of d (in_places d (n % 10 ^ d)) false e) ∙ point_after (in_places d (n % 10 ^ d)) (let l = p.places in omega (arith, l)));
    }

fixed_is : (d n : ℕ) → n < 10 ^ 64 → IsFixed d n (fixed_text d n)
fixed_is d n h = either (d == 0) (IsFixed d n (fixed_text d n)) (λ e. fixed_without d n e h) (λ e. fixed_with d n e h)

signed_is : (d : ℕ) (z : ℤ) → nat_abs z < 10 ^ 64 → IsFixedSigned d z (signed_text d z)
signed_is d (pos n) h = fixed_is d n h
signed_is d (negsuc n) h = (fixed_text d (n + 1), refl, subst (λ k. IsFixed d (suc n) (fixed_text d k)) (sym (add-one n)) (fixed_is d (suc n) h))

-- ---- numbers of a field are small enough

abs_of : (z : ℤ) (k : ℕ) (text : List ℕ) → WithSign (λ m t. m ≡ k) z text → nat_abs z ≡ k
abs_of (pos n) k text h = h
abs_of (negsuc n) k text h = h.2

abs_with_sign : (z : ℤ) (k : ℕ) → nat_abs (with_sign_of z k) ≡ k
abs_with_sign z k =
    let negative = int_lt z (pos 0) && nat_lt 0 k in
    abs_of (with_sign_of z k) k (sign_text negative ++ []) (WithSign_from (λ m t. m ≡ k) z k negative (sign_text negative ++ []) [] refl refl refl)

units_few : (n t d : ℕ) → 0 < d → units n t d ≤ n * t + 1
units_few n t d some =
    let m = n * t in
    let up : m * 1 ≤ m * d = mul-le-mul_left m some in
    div-le_of_le-mul (2 * d) (let e : 2 * d * (m + 1) ≡ 2 * (m * d) + 2 * d = omega arith in omega (arith, e, up))

tens_few : (d : ℕ) → d ≤ 8 → 10 ^ d ≤ 10 ^ 8
tens_few d h = pow-le-pow_right {n = 10} (omega arith) {i = d} {j = 8} h

mul-le-mul-both : (a b c d : ℕ) → a ≤ b → c ≤ d → a * c ≤ b * d
mul-le-mul-both a b c d h k = (let p : a * c ≤ b * c = mul-le-mul_right c h in let q : b * c ≤ b * d = mul-le-mul_left b k in omega (arith, p, q))

rounded_few : (d : ℕ) (x : Number) → d ≤ 8 → nat_abs x.numerator < 2 ^ 127 → nat_abs (rounded (x *ℚ whole (pos (10 ^ d)))) < 10 ^ 64
rounded_few d x h small =
    let e : nat_abs (rounded (x *ℚ whole (pos (10 ^ d)))) ≡ units (nat_abs x.numerator) (10 ^ d) x.denominator =
    ap nat_abs (rounded_units x (10 ^ d) (tens_above d)) ∙ abs_with_sign x.numerator (units (nat_abs x.numerator) (10 ^ d) x.denominator) in
    let few = units_few (nat_abs x.numerator) (10 ^ d) x.denominator x.reduced.positive in
    let top : nat_abs x.numerator * 10 ^ d ≤ 2 ^ 127 * 10 ^ 8 = mul-le-mul-both (nat_abs x.numerator) (2 ^ 127) (10 ^ d) (10 ^ 8) (omega (arith, small)) (tens_few d h) in
    rw e (omega (arith, few, top))

-- the rounded text of a number that fits is the one that computes
pub rounded_is : (limit d : ℕ) (x : Number) (text : List ℕ) → d ≤ 8 → limit < 2 ^ 127 → fits limit x ≡ true → IsRoundedText d x text → text ≡ rounded_text d x
rounded_is limit d x text h l f is =
    let small : nat_abs x.numerator < 2 ^ 127 = let n = (fitting limit x f).numerator in omega (arith, n, l) in
    one_rounded d x text (rounded_text d x) is (signed_is d (rounded (x *ℚ whole (pos (10 ^ d)))) (rounded_few d x h small))
