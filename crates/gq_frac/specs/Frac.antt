-- The number that a value of 127 bits means, and that these values keep the laws of a field with a
-- limit.
use Rattle.std.proofs.Common.{◌≡◌, ℕ, ◌-◌, ◌^◌, ◌<◌, ◌≤◌, true, refl, arith}
use Rattle.gq_number.specs.Number.{Number}
use Rattle.gq_field.specs.Fits.{fits}
use Rattle.gq_field.specs.Parts.{number_of_parts}
use Rattle.gq_field.specs.FieldLaws.{range_of_bits, parts_within, parts_below, same_parts}
use Rattle.gq_frac.specs.declared.frac.Frac.{Frac}

-- the limit of the numbers that a program computes with: the greatest magnitude of a numerator or a
-- denominator
abbrev pub frac_limit : ℕ
frac_limit = 2 ^ 127 - 1

-- the number that a value of the field with the limit 2^127 - 1 means
unfoldable pub frac_value : Frac → Number
frac_value f = number_of_parts f.numerator f.denominator f.parts

pub frac_range : (127 ≤ frac_limit) × (frac_limit < 2 ^ 127)
frac_range = range_of_bits 127 (omega arith) (omega arith)

pub frac_within : (x : Frac) → fits frac_limit (frac_value x) ≡ true
unfolding frac_value
frac_within x = parts_within 127 x.numerator x.denominator x.parts

pub frac_same_value : (x y : Frac) → frac_value x ≡ frac_value y → x ≡ y
unfolding frac_value
frac_same_value x y e =
    same_parts 127 (λ n d p. record { numerator = n; denominator = d; parts = p }) x.numerator y.numerator x.denominator y.denominator x.parts y.parts e

pub frac_each_number : (x : Number) → fits frac_limit x ≡ true → (y : Frac) × (frac_value y ≡ x)
unfolding frac_value number_of_parts
frac_each_number x within =
    let below = parts_below 127 x (omega arith) within in
    (record { numerator = x.numerator; denominator = x.denominator; parts = record { reduced = x.reduced; numerator_small = below.0; denominator_small = below.1 } }, refl)
