-- The numerator and denominator of a value: a reduced fraction of this many bits.
use Rattle.std.specs.Prelude.{ℕ, ◌^◌, ◌<◌, ℤ, nat_abs}
use Rattle.gq_number.specs.Number.{Number}
use Rattle.gq_number.specs.Reduced.{IsReduced}

-- the fraction is reduced, and numerator and denominator are below 2^bits in magnitude
pub record IsFraction (bits : ℕ) (numerator : ℤ) (denominator : ℕ) : Type 0 where
  pub reduced : IsReduced numerator denominator
  pub numerator_small : nat_abs numerator < 2 ^ bits
  pub denominator_small : denominator < 2 ^ bits

-- the number with this reduced numerator and denominator
unfoldable pub number_of_parts : {bits : ℕ} (numerator : ℤ) (denominator : ℕ) → IsFraction bits numerator denominator → Number
number_of_parts numerator denominator parts = record { numerator = numerator; denominator = denominator; reduced = parts.reduced }
