-- When a fraction is reduced, and that the definitions of numbers make reduced ones.
use Rattle.std.proofs.Common.{◌≡◌, ℕ, zero, suc, ◌*◌, ◌/◌, ◌<◌, ℤ, pos, negsuc, nat_abs, neg_ℤ, int_div, refl, ap, ◌∙◌, subst, arith, inl, inr, eq-zero-or-pos}
use Rattle.std.proofs.Math.Nat.{eq-one_of_dvd-one}
use Rattle.gq_number.specs.Gcd.{gcd}
use Rattle.gq_number.specs.GcdLaws.{coprime_from, coprime-rest, gcd-times_right}

-- no number but 1 divides both numerator and denominator, and the denominator is above 0
pub record IsReduced (numerator : ℤ) (denominator : ℕ) : Type 0 where
  pub coprime : gcd (nat_abs numerator) denominator ≡ 1
  pub positive : 0 < denominator

pub whole_reduced : (n : ℤ) → IsReduced n 1
whole_reduced n = record { coprime = coprime_from (nat_abs n) 1 (λ d _ one. eq-one_of_dvd-one one); positive = omega arith }

pub nat_abs-neg : (n : ℤ) → nat_abs (neg_ℤ n) ≡ nat_abs n
nat_abs-neg (pos zero) = refl
nat_abs-neg (pos (suc n)) = refl
nat_abs-neg (negsuc n) = refl

pub nat_abs-int_div : (n : ℤ) (d : ℕ) → nat_abs (int_div n (pos d)) ≡ nat_abs n / d
nat_abs-int_div (pos n) d = refl
nat_abs-int_div (negsuc n) d = nat_abs-neg (pos (suc n / d))

pub neg_reduced : (n : ℤ) (d : ℕ) → IsReduced n d → IsReduced (neg_ℤ n) d
neg_reduced n d r = record { coprime = ap (λ m. gcd m d) (nat_abs-neg n) ∙ r.coprime; positive = r.positive }

pub ratio_reduced : (n : ℤ) (d : ℕ) → IsReduced (int_div n (pos (gcd (nat_abs n) (suc d)))) (suc d / gcd (nat_abs n) (suc d))
ratio_reduced n d =
    let g : ℕ = gcd (nat_abs n) (suc d) in
    record {
      coprime = ap (λ m. gcd m (suc d / g)) (nat_abs-int_div n g) ∙ coprime-rest (nat_abs n) (suc d) (omega arith);
      positive = let e : suc d / g * g ≡ suc d = gcd-times_right (nat_abs n) (suc d) in elim (eq-zero-or-pos (suc d / g)) [ inl none ↦ absurd (let clash : 0 * g ≡ suc d = subst (λ n. n * g ≡ suc d) none e in omega arith) | inr some ↦ some ];
    }
