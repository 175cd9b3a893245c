-- The cost of a variable's entering by a shuffle, a rule that varies the order of the variables: by
-- the gain of its pivot, and by a handicap, a small number that the shuffle adds to its cost.
use Rattle.std.specs.Prelude.{◌≡◌, ℕ, ◌+◌, ◌*◌, ◌-◌, ◌/◌, ◌%◌, ◌^◌, nat_abs}
use Rattle.gq_number.specs.Number.{Number}
use Rattle.lp_core.specs.Dictionary.{Dictionary, constant_at, entry_at, IsPriced}
use Rattle.lp_any.specs.Measures.{bits, gain_above, gain_below}

-- The factor of a shuffle, a rule that varies the order of the variables, by the shuffle's number
-- from 0 on: an odd multiple of 2654435761, modulo 2^32. 2654435761 is about 2^32 over the golden
-- ratio (Knuth, The Art of Computer Programming, section 6.4).
abbrev pub factor : ℕ → ℕ
factor shuffle = (2 * shuffle + 1) * 2654435761 % 2 ^ 32

-- The handicap, an extra cost, that a shuffle gives a variable, from 0 to 15: the four highest of
-- the lowest 32 bits of the product of the variable's number and the shuffle's factor.
abbrev pub handicap : ℕ → ℕ → ℕ
handicap shuffle v = v * factor shuffle % 2 ^ 32 / 268435456

-- the cost of a pivot: the bits of the numerator of the pivot `number` plus `handicap`, an extra
-- cost of the entering variable, less twice the bits of the gain, which is `coefficient` times
-- `constant` over `number` (`gain_above` less `gain_below`), plus 2000; 0 if this is negative
abbrev pub cost_with_handicap : Number → Number → Number → ℕ → ℕ
cost_with_handicap coefficient constant number handicap =
    2000 + bits (nat_abs number.numerator) + handicap + 2 * gain_below coefficient constant number - 2 * gain_above coefficient constant number

-- n is the cost of the pivot in which v enters and the variable of row k leaves
-- (`cost_with_handicap`): from v's entry in row j, the constant of row k, v's entry in row k, and
-- v's handicap, an extra cost by the shuffle. j is the priced row: of variable 0 while it is basic,
-- else the objective
abbrev pub ShuffledAt : ℕ → Dictionary → ℕ → ℕ → ℕ → Type 0
ShuffledAt shuffle d v k n =
    (j : ℕ) × IsPriced d j × (n ≡ cost_with_handicap (entry_at d j v) (constant_at d k) (entry_at d k v) (handicap shuffle v))
