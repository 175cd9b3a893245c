-- What digits spell, and that a number has one numeral.
use Rattle.std.proofs.Common.{◌≡◌, ◌≢◌, ℕ, ◌+◌, ◌-◌, ◌*◌, ◌^◌, ◌<◌, ◌≤◌, List, [], ◌∷◌, ◌++◌, length, refl, sym, ap, ap₂, ◌∙◌, subst, arith, inl, inr, length-append, mul-le-mul_right}
use Rattle.std.proofs.Math.Nat.{pow-succ', pow-le-pow_right}
use Rattle.std.proofs.Math.Pow.{pow-add}
use Rattle.std.proofs.lemmas.Bool.{cases_lt}
use Rattle.gq_text.specs.Numeral.{AreDigits, spelled, IsNumeral}

-- the number that digits spell, by a prefix and the digits after it
pub spelled-append : (xs ys : List ℕ) → spelled (xs ++ ys) ≡ spelled xs * 10 ^ length ys + spelled ys
spelled-append [] ys = omega arith
spelled-append (x ∷ xs) ys =
    let split : 10 ^ length (xs ++ ys) ≡ 10 ^ length xs * 10 ^ length ys = ap (λ n. 10 ^ n) (length-append xs ys) ∙ pow-add 10 (length xs) (length ys) in
    let rest = spelled-append xs ys in
    ap₂ (λ p s. (x - 48) * p + s) split rest ∙ omega arith

-- one more digit
pub spelled_push : (xs : List ℕ) (b : ℕ) → spelled (xs ++ b ∷ []) ≡ spelled xs * 10 + (b - 48)
spelled_push xs b = spelled-append xs (b ∷ []) ∙ omega arith

pub AreDigits-append : (xs ys : List ℕ) → AreDigits xs → AreDigits ys → AreDigits (xs ++ ys)
AreDigits-append [] ys h k = k
AreDigits-append (x ∷ xs) ys h k = (h.0, h.1, AreDigits-append xs ys h.2 k)

pub AreDigits_prefix : (xs ys : List ℕ) → AreDigits (xs ++ ys) → AreDigits xs
AreDigits_prefix [] ys h = tt
AreDigits_prefix (x ∷ xs) ys h = (h.0, h.1, AreDigits_prefix xs ys h.2)

-- the number that n digits spell is less than 10^n
pub spelled-lt : (xs : List ℕ) → AreDigits xs → spelled xs < 10 ^ length xs
spelled-lt [] h = omega arith
spelled-lt (x ∷ xs) h =
    let rest = spelled-lt xs h.2 in
    let top : (x - 48) * 10 ^ length xs ≤ 9 * 10 ^ length xs = mul-le-mul_right (10 ^ length xs) (omega arith) in
    subst (λ p. (x - 48) * 10 ^ length xs + spelled xs < p) (sym (pow-succ' 10 (length xs))) (omega arith)

-- a digit and a rest below its unit are determined by their sum
not_below : (a b r s u : ℕ) → a < b → a * u + r ≡ b * u + s → r < u → ⊥
not_below a b r s u low e small =
    let within_bound : (a + 1) * u ≤ b * u = mul-le-mul_right u (omega arith) in
    omega arith

pub one_split : (a b r s u : ℕ) → a * u + r ≡ b * u + s → r < u → s < u → (a ≡ b) × (r ≡ s)
one_split a b r s u e r_small s_small =
    let same : a ≡ b = elim (cases_lt a b) [ inl low ↦ absurd (not_below a b r s u low e r_small) | inr rest ↦ elim (cases_lt b a) [ inl high ↦ absurd (not_below b a s r u high (sym e) s_small) | inr other ↦ omega arith ] ] in
    let f : a * u ≡ b * u = ap (λ n. n * u) same in
    (same, omega arith)

-- digits are known by their number and by what they spell
pub same_digits : (xs ys : List ℕ) → AreDigits xs → AreDigits ys → length xs ≡ length ys → spelled xs ≡ spelled ys → xs ≡ ys
same_digits [] [] h k l e = refl
same_digits [] (y ∷ ys) h k l e = absurd (omega arith)
same_digits (x ∷ xs) [] h k l e = absurd (omega arith)
same_digits (x ∷ xs) (y ∷ ys) h k l e =
    let as_long : length xs ≡ length ys = omega arith in
    let unit : 10 ^ length xs ≡ 10 ^ length ys = ap (λ n. 10 ^ n) as_long in
    let split = one_split (x - 48) (y - 48) (spelled xs) (spelled ys) (10 ^ length xs) (subst (λ u. (x - 48) * 10 ^ length xs + spelled xs ≡ (y - 48) * u + spelled ys) (sym unit) e) (spelled-lt xs h.2) (subst (λ u. spelled ys < u) (sym unit) (spelled-lt ys k.2)) in
    ap₂ (λ (b : ℕ) (bs : List ℕ). b ∷ bs) (omega (arith, split.0)) (same_digits xs ys h.2 k.2 as_long split.1)

-- a numeral of several digits is at least ten to the number of digits after the first
numeral_low : (n b : ℕ) (bs : List ℕ) → IsNumeral n (b ∷ bs) → 0 < length bs → 10 ^ length bs ≤ n
numeral_low n b bs numeral more =
    let first : b ≢ 48 = numeral.first (omega arith) in
    let low = numeral.digits.0 in
    let unit : 1 * 10 ^ length bs ≤ (b - 48) * 10 ^ length bs = mul-le-mul_right (10 ^ length bs) (omega arith) in
    omega (arith, numeral.spells)

shorter : (n : ℕ) (s t : List ℕ) → IsNumeral n s → IsNumeral n t → ¬ (length s < length t)
shorter n s [] m k less = absurd (omega (arith, k.some))
shorter n s (b ∷ bs) m k less =
    let some = m.some in
    let low = numeral_low n b bs k (omega arith) in
    let high = spelled-lt s m.digits in
    let wide : 10 ^ length s ≤ 10 ^ length bs = pow-le-pow_right {n = 10} (omega arith) {i = length s} {j = length bs} (omega arith) in
    omega (arith, m.spells)

-- a number has one numeral
pub one_numeral : (n : ℕ) (s t : List ℕ) → IsNumeral n s → IsNumeral n t → s ≡ t
one_numeral n s t m k =
    let up = shorter n s t m k in
    let down = shorter n t s k m in
    same_digits s t m.digits k.digits (omega arith) (m.spells ∙ sym k.spells)
