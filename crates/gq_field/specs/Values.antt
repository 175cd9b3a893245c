-- The numbers that the fields' values mean.
use Rattle.std.specs.Prelude.{ℕ, ℤ, pos, neg_ℤ, Bool, true, false}
use Rattle.gq_number.specs.Number.{Number}
use Rattle.gq_number.specs.Reduced.{IsReduced, neg_reduced}
use Rattle.gq_field.specs.declared.fraction.Fraction.{Fraction}
use Rattle.gq_field.specs.declared.half.Half.{Half}
use Rattle.gq_field.specs.declared.tiny.Tiny.{Tiny}
use Rattle.gq_field.specs.Parts.{number_of_parts}

-- the integer of this magnitude, negated if the Bool is true
abbrev pub signed : Bool → ℕ → ℤ
signed false magnitude = pos magnitude
signed true magnitude = neg_ℤ (pos magnitude)

pub signed_reduced : (negative : Bool) (magnitude denominator : ℕ) → IsReduced (pos magnitude) denominator → IsReduced (signed negative magnitude) denominator
signed_reduced false m d r = r
signed_reduced true m d r = neg_reduced (pos m) d r

-- the number that a `Fraction` means: its magnitude over its denominator, negated if `negative`
unfoldable pub fraction_value : Fraction → Number
fraction_value f =
    record { numerator = signed f.negative f.magnitude; denominator = f.denominator; reduced = signed_reduced f.negative f.magnitude f.denominator f.reduced }

-- the number that a value of the field with the limit 2^63 - 1 means
unfoldable pub half_value : Half → Number
half_value h = number_of_parts h.numerator h.denominator h.parts

-- the number that a value of the field with the limit 127 means
unfoldable pub tiny_value : Tiny → Number
tiny_value t = number_of_parts t.numerator t.denominator t.parts
