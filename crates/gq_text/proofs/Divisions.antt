-- Division digit by digit, and what is nearest.
use Rattle.std.proofs.Common.{◌≡◌, ℕ, suc, ◌+◌, ◌-◌, ◌*◌, ◌/◌, ◌%◌, ◌^◌, ◌<◌, ◌≤◌, sym, ap, ◌∙◌, arith, inl, inr, div-add-mod', mul-le-mul_right}
use Rattle.std.proofs.Math.Nat.{pow-succ', div-eq_of_lt-le}
use Rattle.std.proofs.lemmas.Bool.{cases_lt}

-- a quotient by a remainder below the divisor is below what the dividend is a multiple of
pub quotient_below : (q r d n t : ℕ) → q * d + r ≡ n * t → n < d → 0 < t → q < t
quotient_below q r d n t e small some =
    elim (cases_lt q t) [
      | inl less ↦ less
      | inr more ↦ (let low : t * d ≤ q * d = mul-le-mul_right d more in let high : suc n * t ≤ d * t = mul-le-mul_right t small in absurd (omega arith))
    ]

-- one digit more of the decimals
pub one_digit : (fraction digit left less divisor rest p : ℕ) → fraction * divisor + left ≡ rest * 10 ^ p → digit * divisor + less ≡ left * 10 → (fraction * 10 + digit) * divisor + less ≡ rest * 10 ^ (p + 1)
one_digit fraction digit left less divisor rest p e f =
    let unit : 10 ^ (p + 1) ≡ 10 * 10 ^ p = (let g : p + 1 ≡ suc p = omega arith in ap (λ n. 10 ^ n) g) ∙ pow-succ' 10 p in
    omega arith ∙ ap (λ u. rest * u) (sym unit)

-- the decimals and the remainder, for the whole fraction
units_are : (above below t fraction left : ℕ) → fraction * below + left ≡ above % below * t → above * t ≡ (above / below * t + fraction) * below + left
units_are above below t fraction left e = let split = div-add-mod' above below in ap (λ n. n * t) (sym split) ∙ omega arith

pub nearest_low : (above below t fraction left : ℕ) → 0 < below → fraction * below + left ≡ above % below * t → left < below - left → above / below * t + fraction ≡ (2 * (above * t) + below) / (2 * below)
nearest_low above below t fraction left some e small =
    let units = units_are above below t fraction left e in
    sym (div-eq_of_lt-le {k = above / below * t + fraction} (2 * below) {m = 2 * (above * t) + below} (omega arith) (omega arith))

pub nearest_high : (above below t fraction left : ℕ) → 0 < below → fraction * below + left ≡ above % below * t → left < below → below - left ≤ left → above / below * t + (fraction + 1) ≡ (2 * (above * t) + below) / (2 * below)
nearest_high above below t fraction left some e small big =
    let units = units_are above below t fraction left e in
    sym (div-eq_of_lt-le {k = above / below * t + (fraction + 1)} (2 * below) {m = 2 * (above * t) + below} (omega arith) (omega arith))
