-- Fields of fractions of some number of bits keep the laws of a field with a limit: each law once,
-- and then for each field.
use Rattle.std.proofs.Common.{◌≡◌, ℕ, ◌-◌, ◌^◌, ◌<◌, ◌≤◌, true, ℤ, nat_abs, refl, ap, subst, arith}
use Rattle.std.proofs.Math.Nat.{pow-le-pow_right}
use Rattle.std.proofs.Props.{props}
use Rattle.std.proofs.lemmas.Bool.Decides.{nat_tests}
use Rattle.gq_number.specs.Number.{Number}
use Rattle.gq_field.specs.declared.half.Half.{Half}
use Rattle.gq_field.specs.declared.tiny.Tiny.{Tiny}
use Rattle.gq_field.specs.Fits.{fits}
use Rattle.gq_field.specs.Parts.{IsFraction, number_of_parts}
use Rattle.gq_field.specs.Values.{half_value, tiny_value}

-- if `bits` is from 7 to 127, then 2^bits - 1 is from 127 to 2^127 - 1
pub range_of_bits : (bits : ℕ) → 7 ≤ bits → bits ≤ 127 → (127 ≤ 2 ^ bits - 1) × (2 ^ bits - 1 < 2 ^ 127)
range_of_bits bits least most =
    let low : 2 ^ 7 ≤ 2 ^ bits = pow-le-pow_right (omega arith) least in
    let high : 2 ^ bits ≤ 2 ^ 127 = pow-le-pow_right (omega arith) most in
    (omega arith, omega arith)

-- a reduced fraction n/d with n and d below 2^bits in magnitude fits under the limit 2^bits - 1:
-- n and d are at most this limit in magnitude
pub parts_within : (bits : ℕ) (n : ℤ) (d : ℕ) (parts : IsFraction bits n d) → fits (2 ^ bits - 1) (number_of_parts n d parts) ≡ true
unfolding number_of_parts
parts_within bits n d parts = grind (arith, nat_tests)

IsFraction-prop : (bits : ℕ) (n : ℤ) (d : ℕ) → IsProp (IsFraction bits n d)
IsFraction-prop bits n d = hlevel props

-- `make` builds a value from a reduced fraction whose numerator and denominator are below 2^bits in
-- magnitude; the values that it builds from n/c and m/d are equal if these are one number
pub same_parts : {F : Type 0} (bits : ℕ) (make : (n : ℤ) (d : ℕ) → IsFraction bits n d → F) (n m : ℤ) (c d : ℕ) (p : IsFraction bits n c) (q : IsFraction bits m d) → number_of_parts n c p ≡ number_of_parts m d q → make n c p ≡ make m d q
unfolding number_of_parts
same_parts {F} bits make n m c d p q e =
    let at_numerator : (q : IsFraction bits m c) → make n c p ≡ make m c q =
    subst (λ (k : ℤ). (q : IsFraction bits k c) → make n c p ≡ make k c q) (ap (λ (v : Number). v.numerator) e) (λ q. ap (make n c) (IsFraction-prop bits n c p q)) in
    subst (λ (k : ℕ). (q : IsFraction bits m k) → make n c p ≡ make m k q) (ap (λ (v : Number). v.denominator) e) at_numerator q

-- numerator and denominator of a number that fits under 2^bits - 1 are below 2^bits in magnitude
pub parts_below : (bits : ℕ) (x : Number) → 0 < 2 ^ bits → fits (2 ^ bits - 1) x ≡ true → (nat_abs x.numerator < 2 ^ bits) × (x.denominator < 2 ^ bits)
parts_below bits x above within =
    let both : (nat_abs x.numerator ≤ 2 ^ bits - 1) × (x.denominator ≤ 2 ^ bits - 1) = grind (arith, nat_tests) in
    let first = both.0 in
    let second = both.1 in
    (omega arith, omega arith)

-- ---- the field with 63 bits

pub half_range : (127 ≤ 2 ^ 63 - 1) × (2 ^ 63 - 1 < 2 ^ 127)
half_range = range_of_bits 63 (omega arith) (omega arith)

pub half_within : (x : Half) → fits (2 ^ 63 - 1) (half_value x) ≡ true
unfolding half_value
half_within x = parts_within 63 x.numerator x.denominator x.parts

pub half_same_value : (x y : Half) → half_value x ≡ half_value y → x ≡ y
unfolding half_value
half_same_value x y e =
    same_parts 63 (λ n d p. record { numerator = n; denominator = d; parts = p }) x.numerator y.numerator x.denominator y.denominator x.parts y.parts e

pub half_each_number : (x : Number) → fits (2 ^ 63 - 1) x ≡ true → (y : Half) × (half_value y ≡ x)
unfolding half_value number_of_parts
half_each_number x within =
    let below = parts_below 63 x (omega arith) within in
    (record { numerator = x.numerator; denominator = x.denominator; parts = record { reduced = x.reduced; numerator_small = below.0; denominator_small = below.1 } }, refl)

-- ---- the field with 7 bits

pub tiny_range : (127 ≤ 2 ^ 7 - 1) × (2 ^ 7 - 1 < 2 ^ 127)
tiny_range = range_of_bits 7 (omega arith) (omega arith)

pub tiny_within : (x : Tiny) → fits (2 ^ 7 - 1) (tiny_value x) ≡ true
unfolding tiny_value
tiny_within x = parts_within 7 x.numerator x.denominator x.parts

pub tiny_same_value : (x y : Tiny) → tiny_value x ≡ tiny_value y → x ≡ y
unfolding tiny_value
tiny_same_value x y e =
    same_parts 7 (λ n d p. record { numerator = n; denominator = d; parts = p }) x.numerator y.numerator x.denominator y.denominator x.parts y.parts e

pub tiny_each_number : (x : Number) → fits (2 ^ 7 - 1) x ≡ true → (y : Tiny) × (tiny_value y ≡ x)
unfolding tiny_value number_of_parts
tiny_each_number x within =
    let below = parts_below 7 x (omega arith) within in
    (record { numerator = x.numerator; denominator = x.denominator; parts = record { reduced = x.reduced; numerator_small = below.0; denominator_small = below.1 } }, refl)
