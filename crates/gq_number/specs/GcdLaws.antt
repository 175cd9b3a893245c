-- Euclid's algorithm finds the greatest common divisor, and two numbers divided by it have no
-- common divisor but 1: the definition of a fraction uses these laws.
use Rattle.std.proofs.Common.{◌≡◌, ℕ, zero, suc, ◌+◌, ◌*◌, ◌/◌, ◌%◌, ◌<◌, refl, sym, ap, ◌∙◌, subst, subst₂, arith, mul-one, zero-mul, mod-lt}
use Rattle.std.specs.Int.{◌∣◌, IsGcd}
use Rattle.std.proofs.lemmas.Nat.Gcd.{IsGcd-from_zero, IsGcd-from_mod, IsGcd-swap, same_from_IsGcd}
use Rattle.std.proofs.Math.Nat.{mul-add-mod_self_left, div-add-mod, mod-eq_of_lt, mul-lt-mul_of_pos_right, eq-one_of_dvd-one, div-mul_cancel, mul-dvd-mul_right, dvd_of_mul-dvd-mul_right, pos_of_dvd_of_pos, one-mul}
use Rattle.gq_number.specs.Gcd.{gcd, gcd_in_steps}

-- the remainder of a c divided by b c is that of a divided by b, times c
pub mod-scaled : (a b c : ℕ) → 0 < b → 0 < c → a * c % (b * c) ≡ a % b * c
mod-scaled a b c pos_b pos_c =
    let split : a * c ≡ (b * c) * (a / b) + a % b * c = ap (λ n. n * c) (sym (div-add-mod a b)) ∙ omega arith in
    ap (λ n. n % (b * c)) split ∙ mul-add-mod_self_left (b * c) (a / b) (a % b * c) ∙ mod-eq_of_lt (mul-lt-mul_of_pos_right (mod-lt a pos_b) pos_c)

scaled_in_steps : (steps a b c : ℕ) → b < steps → 0 < c → IsGcd (a * c) (b * c) (gcd_in_steps steps a b * c)
unfolding gcd_in_steps
scaled_in_steps zero a b c few pos_c = absurd (omega arith)
scaled_in_steps (suc steps) a zero c few pos_c = IsGcd-from_zero (a * c) (0 * c) (zero-mul c)
scaled_in_steps (suc steps) a (suc b) c few pos_c =
    IsGcd-from_mod (a * c) (suc b * c) _ (subst (λ n. IsGcd (suc b * c) n (gcd_in_steps steps (suc b) (a % suc b) * c)) (sym (mod-scaled a (suc b) c (omega arith) pos_c)) (scaled_in_steps steps (suc b) (a % suc b) c (omega arith) pos_c))

-- the greatest common divisor of a c and b c is that of a and b, times c
pub gcd-scaled : (a b c : ℕ) → 0 < c → IsGcd (a * c) (b * c) (gcd a b * c)
unfolding gcd
gcd-scaled a b c pos_c = scaled_in_steps (suc b) a b c (omega arith) pos_c

-- gcd a b is the greatest common divisor of a and b
pub gcd_is : (a b : ℕ) → IsGcd a b (gcd a b)
gcd_is a b = subst₂ (λ x y. IsGcd x y (gcd a b)) (mul-one a) (mul-one b) (subst (λ g. IsGcd (a * 1) (b * 1) g) (mul-one (gcd a b)) (gcd-scaled a b 1 (omega arith)))

pub gcd-dvd_left : (a b : ℕ) → gcd a b ∣ a
gcd-dvd_left a b = (gcd_is a b).0

pub gcd-dvd_right : (a b : ℕ) → gcd a b ∣ b
gcd-dvd_right a b = (gcd_is a b).1

pub dvd-gcd : (d a b : ℕ) → d ∣ a → d ∣ b → d ∣ gcd a b
dvd-gcd d a b = (gcd_is a b).2 d

pub gcd_comm : (a b : ℕ) → gcd a b ≡ gcd b a
gcd_comm a b = same_from_IsGcd a b (gcd a b) (gcd b a) (gcd_is a b) (IsGcd-swap b a (gcd b a) (gcd_is b a))

-- one step of Euclid's algorithm: b and the remainder of a divided by b have the greatest common
-- divisor of a and b
pub gcd-mod : (a b : ℕ) → gcd a b ≡ gcd b (a % b)
gcd-mod a b = same_from_IsGcd a b (gcd a b) (gcd b (a % b)) (gcd_is a b) (IsGcd-from_mod a b _ (gcd_is b (a % b)))

pub gcd-zero : (a : ℕ) → gcd a 0 ≡ a
gcd-zero a = same_from_IsGcd a 0 (gcd a 0) a (gcd_is a 0) (IsGcd-from_zero a 0 refl)

pub gcd_pos : (a b : ℕ) → 0 < b → 0 < gcd a b
gcd_pos a b pos_b = pos_of_dvd_of_pos (gcd-dvd_right a b) pos_b

-- a over the greatest common divisor of a and b, times that divisor, is a
pub gcd-times_left : (a b : ℕ) → a / gcd a b * gcd a b ≡ a
gcd-times_left a b = div-mul_cancel (gcd a b) (gcd-dvd_left a b)

pub gcd-times_right : (a b : ℕ) → b / gcd a b * gcd a b ≡ b
gcd-times_right a b = div-mul_cancel (gcd a b) (gcd-dvd_right a b)

-- if only 1 divides both a and b, then their greatest common divisor is 1
pub coprime_from : (a b : ℕ) → ((d : ℕ) → d ∣ a → d ∣ b → d ≡ 1) → gcd a b ≡ 1
coprime_from a b only = only (gcd a b) (gcd-dvd_left a b) (gcd-dvd_right a b)

pub coprime_only : (a b d : ℕ) → gcd a b ≡ 1 → d ∣ a → d ∣ b → d ≡ 1
coprime_only a b d e left right = eq-one_of_dvd-one (subst (λ n. d ∣ n) e (dvd-gcd d a b left right))

-- a and b, each divided by their greatest common divisor, have the greatest common divisor 1
pub coprime-rest : (a b : ℕ) → 0 < b → gcd (a / gcd a b) (b / gcd a b) ≡ 1
coprime-rest a b pos_b =
    coprime_from _ _ (λ d left right.
    let g = gcd a b in
    let times_left : d * g ∣ a = subst (λ n. d * g ∣ n) (gcd-times_left a b) (mul-dvd-mul_right d left g) in
    let times_right : d * g ∣ b = subst (λ n. d * g ∣ n) (gcd-times_right a b) (mul-dvd-mul_right d right g) in
    let both : d * g ∣ 1 * g = subst (λ n. d * g ∣ n) (sym (one-mul g)) (dvd-gcd (d * g) a b times_left times_right) in
    eq-one_of_dvd-one (dvd_of_mul-dvd-mul_right d (gcd_pos a b pos_b) both))
