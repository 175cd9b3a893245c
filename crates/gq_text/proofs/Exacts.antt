-- That the texts of numbers compute: a numeral is the decimal digits, and so is the exact text.
use Rattle.std.proofs.Common.{◌≡◌, ◌≢◌, ℕ, suc, ◌+◌, ◌*◌, ◌/◌, ◌%◌, ◌-◌, ◌^◌, ◌<◌, ◌≤◌, ◌==◌, Bool, true, false, List, [], ◌∷◌, ◌++◌, refl, sym, ap, ◌∙◌, subst, arith, inl, inr, codes, decimal, ℤ, pos, negsuc, nat_abs, add-one, if◌then◌else◌, append_assoc}
use Rattle.std.proofs.lemmas.List.{append-nil}
use Rattle.std.proofs.Math.Nat.{mod-lt}
use Rattle.std.proofs.lemmas.Bool.Decides.{nat_tests}
use Rattle.std.proofs.lemmas.Fmt.{decimal_by_steps_wide}
use Rattle.gq_number.specs.Number.{Number}
use Rattle.gq_field.specs.Fits.{fits}
use Rattle.gq_text.specs.Numeral.{IsNumeral, WithSign}
use Rattle.gq_text.specs.Shown.{IsExactText}
use Rattle.gq_text.specs.ExactText.{whole_text, exact_text}
use Rattle.gq_text.proofs.Numerals.{spelled_push, AreDigits-append, one_numeral}
use Rattle.gq_text.proofs.Texts.{one_exact}

-- ---- numerals

one_digit : (n : ℕ) → n < 10 → IsNumeral n ((48 + n) ∷ [])
one_digit n h = record { digits = (omega arith, omega arith, tt); some = omega arith; first = λ more. absurd (omega (arith, more)); spells = omega arith }

first_of : (n b : ℕ) (bs : List ℕ) → 10 ≤ n → IsNumeral (n / 10) (b ∷ bs) → b ≢ 48
first_of n b [] h m e = absurd (let s = m.spells in omega (arith, s, e, h))
first_of n b (c ∷ bs) h m e = m.first (omega arith) e

more_digits : (n : ℕ) (ds : List ℕ) → 10 ≤ n → IsNumeral (n / 10) ds → IsNumeral n (ds ++ ((48 + n % 10) ∷ []))
more_digits n [] h m = absurd (let s = m.some in omega (arith, s))
more_digits n (b ∷ bs) h m =
    let low : n % 10 < 10 = mod-lt n {m = 10} (omega arith) in
    record {
      digits = AreDigits-append (b ∷ bs) ((48 + n % 10) ∷ []) m.digits (omega arith, omega arith, tt);
      some = omega arith;
      first = λ more. first_of n b bs h m;
      spells = spelled_push (b ∷ bs) (48 + n % 10) ∙ ap (λ k. k * 10 + (48 + n % 10 - 48)) m.spells ∙ omega arith;
    }

-- the decimal digits of a number are its numeral
pub numeral_is : (n : ℕ) → n < 10 ^ 64 → IsNumeral n (decimal n)
numeral_is n h = decimal_by_steps_wide (λ k ds. IsNumeral k ds) one_digit more_digits n h

-- and so its only one
pub numeral_only : (n : ℕ) (text : List ℕ) → n < 10 ^ 64 → IsNumeral n text → text ≡ decimal n
numeral_only n text h is = one_numeral n text (decimal n) is (numeral_is n h)

-- ---- numbers of a field are small enough

-- a number that fits under a limit
pub record Fitting (limit : ℕ) (x : Number) : Type 0 where
  pub numerator : nat_abs x.numerator ≤ limit
  pub denominator : x.denominator ≤ limit

pub fitting : (limit : ℕ) (x : Number) → fits limit x ≡ true → Fitting limit x
fitting limit x h = record { numerator = grind (arith, nat_tests); denominator = grind (arith, nat_tests) }

pub either : (b : Bool) (P : Type 0) → (b ≡ true → P) → (b ≡ false → P) → P
either true P t f = t refl
either false P t f = f refl

-- ---- exact numbers

pub whole_is : (z : ℤ) → nat_abs z < 10 ^ 64 → WithSign IsNumeral z (whole_text z)
whole_is (pos n) h = numeral_is n h
whole_is (negsuc n) h = (decimal (n + 1), refl, subst (λ k. IsNumeral (suc n) (decimal k)) (sym (add-one n)) (numeral_is (suc n) h))

pub exact_tail : (x : Number) (b : Bool) → (x.denominator == 1) ≡ b → whole_text x.numerator ++ (if b then [] else codes "/" ++ decimal x.denominator) ≡ exact_text x
exact_tail x b e = ap (λ c. whole_text x.numerator ++ (if c then [] else codes "/" ++ decimal x.denominator)) (sym e)

pub exact_shown : (x : Number) → nat_abs x.numerator < 10 ^ 64 → x.denominator < 10 ^ 64 → IsExactText x (exact_text x)
exact_shown x h k =
    either (x.denominator == 1) (IsExactText x (exact_text x))
    (λ e. inl (grind (arith, nat_tests), subst (WithSign IsNumeral x.numerator) (sym (append-nil (whole_text x.numerator)) ∙ exact_tail x true e) (whole_is x.numerator h)))
    (λ e. inr (grind (arith, nat_tests), (whole_text x.numerator, decimal x.denominator, sym (exact_tail x false e) ∙ sym (append_assoc (whole_text x.numerator) (codes "/") (decimal x.denominator)), whole_is x.numerator h, numeral_is x.denominator k)))

-- the exact text of a number that fits is the one that computes
pub exact_is : (limit : ℕ) (x : Number) (text : List ℕ) → limit < 2 ^ 127 → fits limit x ≡ true → IsExactText x text → text ≡ exact_text x
exact_is limit x text l f is =
    let n = (fitting limit x f).numerator in
    let d = (fitting limit x f).denominator in
    one_exact x text (exact_text x) is (exact_shown x (omega (arith, n, l)) (omega (arith, d, l)))
