-- Factors of 2 and the greatest common divisor: what the binary algorithm rests on.
use Rattle.std.proofs.Common.{◌≡◌, ℕ, zero, suc, ◌+◌, ◌-◌, ◌*◌, ◌/◌, ◌%◌, ◌^◌, ◌<◌, ◌≤◌, refl, sym, ap, ap₂, ◌∙◌, subst, arith, mul_assoc, mul_comm}
use Rattle.std.specs.Int.{◌∣◌}
use Rattle.std.proofs.lemmas.Nat.{pow_pos, pow-add, shr-shr}
use Rattle.std.proofs.lemmas.Nat.Gcd.{IsGcd-from_sub, same_from_IsGcd, dvd_refl}
use Rattle.std.proofs.Math.Nat.{dvd-mul_right, dvd_trans, eq-one_of_dvd-one, pow-suc, le-mul_of_pos_right}
use lib.Count.{count_trailing_zeros, under}
use Rattle.gq_number.specs.Gcd.{gcd}
use Rattle.gq_number.proofs.Gcd.{gcd-scaled, gcd_is, gcd-dvd_left, gcd-dvd_right, dvd-gcd, gcd_comm, gcd-mod, gcd-zero, coprime_from, coprime-mul_right, coprime_of_dvd, dvd_of_coprime}

-- a number by its odd part and its factors of 2
pub record Odd (n odd twos : ℕ) : Type 0 where
  pub is_odd : odd % 2 ≡ 1
  pub times : odd * 2 ^ twos ≡ n

even_step : (n t : ℕ) → n % 2 ≡ 0 → Odd (n / 2) (n / 2 / 2 ^ t) t → Odd n (n / 2 ^ suc t) (suc t)
even_step n t even h =
    let next : 1 + t ≡ suc t = omega arith in
    let shorter : n / 2 / 2 ^ t ≡ n / 2 ^ suc t = shr-shr n 1 t ∙ ap (λ k. n / 2 ^ k) next in
    let doubled : 2 ^ suc t ≡ 2 ^ t * 2 = pow-suc 2 t in
    record {
      is_odd = subst (λ m. m % 2 ≡ 1) shorter h.is_odd;
      times = subst (λ m. m * 2 ^ suc t ≡ n) shorter (ap (λ p. n / 2 / 2 ^ t * p) doubled ∙ sym (mul_assoc (n / 2 / 2 ^ t) (2 ^ t) 2) ∙ ap (λ m. m * 2) h.times ∙ omega arith);
    }

odd_part_by : (d k n t : ℕ) → n % 2 ≡ d → 0 < n → n < 2 ^ suc k → (0 < n / 2 → n / 2 < 2 ^ k → Odd (n / 2) (n / 2 / 2 ^ t) t) → Odd n (n / 2 ^ under d t) (under d t)
odd_part_by zero k n t e some small rest =
    let doubled : 2 ^ suc k ≡ 2 ^ k * 2 = pow-suc 2 k in
    even_step n t e (rest (omega arith) (omega arith))
odd_part_by (suc zero) k n t e some small rest = record { is_odd = omega arith; times = omega arith }
odd_part_by (suc (suc d)) k n t e some small rest = absurd (omega arith)

-- what is left of a number when its trailing zeros are dropped
pub odd_part : (k n : ℕ) → 0 < n → n < 2 ^ k → Odd n (n / 2 ^ count_trailing_zeros k n) (count_trailing_zeros k n)
unfolding count_trailing_zeros
odd_part zero n some small = absurd (omega arith)
odd_part (suc k) n some small = odd_part_by (n % 2) k n (count_trailing_zeros k (n / 2)) refl some small (odd_part k (n / 2))

-- an odd number and a power of 2 have no common divisor but 1
coprime_one : (m : ℕ) → gcd m 1 ≡ 1
coprime_one m = coprime_from m 1 (λ d _ one. eq-one_of_dvd-one one)

coprime_two : (m : ℕ) → m % 2 ≡ 1 → gcd m 2 ≡ 1
coprime_two m odd = gcd-mod m 2 ∙ ap (gcd 2) odd ∙ coprime_one 2

coprime_pow : (m k : ℕ) → m % 2 ≡ 1 → gcd m (2 ^ k) ≡ 1
coprime_pow m zero odd = coprime_one m
coprime_pow m (suc k) odd = ap (gcd m) (pow-suc 2 k) ∙ coprime-mul_right m (2 ^ k) 2 (coprime_pow m k odd) (coprime_two m odd)

-- so the factors of 2 of the other number don't count
pub gcd-twos_right : (m n k : ℕ) → m % 2 ≡ 1 → gcd m (n * 2 ^ k) ≡ gcd m n
gcd-twos_right m n k odd =
    same_from_IsGcd m (n * 2 ^ k) (gcd m (n * 2 ^ k)) (gcd m n) (gcd_is m (n * 2 ^ k)) (
      gcd-dvd_left m n,
      dvd_trans (gcd m n) (gcd-dvd_right m n) (dvd-mul_right n (2 ^ k)),
      λ d in_m in_n.
          let apart : gcd d (2 ^ k) ≡ 1 = coprime_of_dvd m (2 ^ k) d (2 ^ k) in_m (dvd_refl (2 ^ k)) (coprime_pow m k odd) in
          dvd-gcd d m n in_m (dvd_of_coprime d (2 ^ k) n apart (subst (λ p. d ∣ p) (mul_comm n (2 ^ k)) in_n)),
    )

gcd-times : (a b c : ℕ) → 0 < c → gcd (a * c) (b * c) ≡ gcd a b * c
gcd-times a b c some = same_from_IsGcd (a * c) (b * c) (gcd (a * c) (b * c)) (gcd a b * c) (gcd_is (a * c) (b * c)) (gcd-scaled a b c some)

-- the powers of 2 that two numbers share
shared_twos : (m n i j : ℕ) → m % 2 ≡ 1 → i ≤ j → gcd (m * 2 ^ i) (n * 2 ^ j) ≡ gcd m n * 2 ^ i
shared_twos m n i j odd le =
    let split : 2 ^ j ≡ 2 ^ (j - i) * 2 ^ i = ap (λ k. 2 ^ k) (let e : j ≡ j - i + i = omega arith in e) ∙ pow-add 2 (j - i) i in
    ap (λ p. gcd (m * 2 ^ i) (n * p)) split ∙ ap (gcd (m * 2 ^ i)) (sym (mul_assoc n (2 ^ (j - i)) (2 ^ i))) ∙ gcd-times m (n * 2 ^ (j - i)) (2 ^ i) (pow_pos i) ∙ ap (λ g. g * 2 ^ i) (gcd-twos_right m n (j - i) odd)

pub gcd_left : (a b m n i j : ℕ) → Odd a m i → Odd b n j → i ≤ j → gcd m n * 2 ^ i ≡ gcd a b
gcd_left a b m n i j first second le = sym (shared_twos m n i j first.is_odd le) ∙ ap₂ gcd first.times second.times

pub gcd_right : (a b m n i j : ℕ) → Odd a m i → Odd b n j → j ≤ i → gcd m n * 2 ^ j ≡ gcd a b
gcd_right a b m n i j first second le = ap (λ g. g * 2 ^ j) (gcd_comm m n) ∙ gcd_left b a n m j i second first le ∙ gcd_comm b a

-- one turn: the odd part of the difference takes the place of the greater
pub gcd-difference : (low high odd twos : ℕ) → low % 2 ≡ 1 → low ≤ high → Odd (high - low) odd twos → gcd low odd ≡ gcd low high
gcd-difference low high odd twos is_odd le rest =
    sym (gcd-twos_right low odd twos is_odd) ∙ ap (gcd low) rest.times ∙ gcd_comm low (high - low)
    ∙ same_from_IsGcd high low (gcd (high - low) low) (gcd high low) (IsGcd-from_sub high low (gcd (high - low) low) le (gcd_is (high - low) low)) (gcd_is high low) ∙ gcd_comm high low

-- an odd part is at most its number
pub odd_le : (n odd twos : ℕ) → Odd n odd twos → odd ≤ n
odd_le n odd twos h = subst (λ m. odd ≤ m) h.times (le-mul_of_pos_right odd (pow_pos twos))

pub gcd-one_left : (n : ℕ) → gcd 1 n ≡ 1
gcd-one_left n = gcd_comm 1 n ∙ coprime_one n

pub gcd-one_right : (n : ℕ) → gcd n 1 ≡ 1
gcd-one_right n = coprime_one n

pub gcd_self : (n : ℕ) → gcd n n ≡ n
gcd_self n = same_from_IsGcd n n (gcd n n) n (gcd_is n n) (dvd_refl n, dvd_refl n, λ d left right. left)

pub gcd-zero_left : (n : ℕ) → gcd 0 n ≡ n
gcd-zero_left n = gcd_comm 0 n ∙ gcd-zero n
