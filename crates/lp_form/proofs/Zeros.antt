-- A step with 0 fits.
use Rattle.std.proofs.Common.{◌≡◌, ℕ, ◌≤◌, ◌&&◌, true, pos, nat_le, nat_abs, arith}
use Rattle.std.proofs.Math.Nat.{eq-one_of_dvd-one, mul-one, one-mul, div-one, zero-mul}
use Rattle.std.proofs.Math.IntN.{+ℤ_idl, +ℤ_idr}
use Rattle.gq_number.proofs.Naming.{times_one}
use Rattle.std.proofs.lemmas.Bool.Decides.{nat_tests}
use Rattle.gq_number.specs.Number.{Number, whole, gcd}
use Rattle.gq_number.specs.GcdLaws.{gcd-dvd_left, gcd-dvd_right}
use Rattle.gq_field.specs.Fits.{fits, sum_fits}

gcd-one : (n : ℕ) → gcd n 1 ≡ 1
gcd-one n = eq-one_of_dvd-one (gcd-dvd_right n 1)

one-gcd : (n : ℕ) → gcd 1 n ≡ 1
one-gcd n = eq-one_of_dvd-one (gcd-dvd_left 1 n)

both_parts : (n d limit : ℕ) → (nat_le n limit && nat_le d limit) ≡ true → (nat_le n limit && nat_le 0 limit && nat_le n limit && nat_le d limit) ≡ true
both_parts n d limit h = grind (arith, nat_tests)

both_parts_after : (n d limit : ℕ) → (nat_le n limit && nat_le d limit) ≡ true → (nat_le 0 limit && nat_le n limit && nat_le n limit && nat_le d limit) ≡ true
both_parts_after n d limit h = grind (arith, nat_tests)

-- a sum with 0 on the right
pub sum_fits-zero : (limit : ℕ) (x : Number) → fits limit x ≡ true → sum_fits limit x (whole (pos 0)) ≡ true
unfolding whole
sum_fits-zero limit x h = simp (gcd-one, times_one, div-one, zero-mul, +ℤ_idr, mul-one) (both_parts (nat_abs x.numerator) x.denominator limit h)

-- a sum with 0 on the left
pub zero-sum_fits : (limit : ℕ) (x : Number) → fits limit x ≡ true → sum_fits limit (whole (pos 0)) x ≡ true
unfolding whole
zero-sum_fits limit x h = simp (one-gcd, times_one, div-one, zero-mul, +ℤ_idl, one-mul, gcd-one) (both_parts_after (nat_abs x.numerator) x.denominator limit h)

-- 0 fits
pub fits-zero : (limit : ℕ) → 1 ≤ limit → fits limit (whole (pos 0)) ≡ true
unfolding whole
fits-zero limit h = grind (arith, nat_tests)
