-- The laws of the greatest common divisor.
use Rattle.std.proofs.Common.{◌≡◌, ℕ, zero, suc, ◌+◌, ◌*◌, ◌<◌, ◌≤◌, ◌∙◌, sym, subst, arith}
use Rattle.std.proofs.lemmas.Nat.Gcd.{le_of_dvd}
use Rattle.std.specs.Int.{◌∣◌}
use Rattle.std.proofs.Math.Nat.{dvd_trans, dvd-mul_right, dvd-zero, one-mul}
use Rattle.gq_number.specs.Gcd.{gcd}
pub use Rattle.gq_number.specs.GcdLaws.{gcd-scaled, gcd_is, gcd-dvd_left, gcd-dvd_right, dvd-gcd, gcd_comm, gcd-mod, gcd-zero, gcd_pos, gcd-times_left, gcd-times_right, coprime_from, coprime_only, coprime-rest}

-- no common divisor is greater, unless both numbers are 0
pub gcd_greatest : (d a b : ℕ) → 0 < a + b → d ∣ a → d ∣ b → d ≤ gcd a b
gcd_greatest d a zero some left right = subst (λ n. d ≤ n) (sym (gcd-zero a)) (le_of_dvd (omega arith) left)
gcd_greatest d a (suc b) some left right = le_of_dvd (gcd_pos a (suc b) (omega arith)) (dvd-gcd d a (suc b) left right)

-- Gauss's lemma
pub dvd_of_coprime : (a b c : ℕ) → gcd a b ≡ 1 → a ∣ b * c → a ∣ c
dvd_of_coprime a b zero e h = dvd-zero a
dvd_of_coprime a b (suc c) e h =
    let g : a ∣ gcd a b * suc c = (gcd-scaled a b (suc c) (omega arith)).2 a (dvd-mul_right a (suc c)) h in
    subst (λ n. a ∣ n) (one-mul (suc c)) (subst (λ n. a ∣ n * suc c) e g)

-- a number without a common divisor with c stays so
pub coprime-mul : (a b c : ℕ) → gcd a c ≡ 1 → gcd b c ≡ 1 → gcd (a * b) c ≡ 1
coprime-mul a b c first second =
    coprime_from (a * b) c (λ d product other.
    let apart : gcd d a ≡ 1 = coprime_from d a (λ k in_d in_a. coprime_only a c k first in_a (dvd_trans k in_d other)) in
    coprime_only b c d second (dvd_of_coprime d a b apart product) other)

pub coprime-mul_right : (a b c : ℕ) → gcd a b ≡ 1 → gcd a c ≡ 1 → gcd a (b * c) ≡ 1
coprime-mul_right a b c first second = gcd_comm a (b * c) ∙ coprime-mul b c a (gcd_comm b a ∙ first) (gcd_comm c a ∙ second)

-- and so do the divisors of both
pub coprime_of_dvd : (a b c d : ℕ) → c ∣ a → d ∣ b → gcd a b ≡ 1 → gcd c d ≡ 1
coprime_of_dvd a b c d left right e =
    coprime_from c d (λ k in_c in_d. coprime_only a b k e (dvd_trans k in_c left) (dvd_trans k in_d right))
