-- Entries in order, as the code goes through them.
use Rattle.std.specs.Prelude.{ℕ, ◌+◌, ◌==◌, ◌&&◌, Bool, true, not, List, [], ◌∷◌, nat_le, nat_lt, nat_abs}
use Rattle.gq_number.specs.Number.{Number}

-- the number is 0
abbrev pub is_zero_number : Number → Bool
is_zero_number x = nat_abs x.numerator == 0

-- entries from a least place on: each names a later place, below n, and is not 0
abbrev pub are_in_order : {F : Type 0} → (F → Number) → ℕ → ℕ → List (ℕ × F) → Bool
are_in_order value n least [] = true
are_in_order value n least (e ∷ entries) =
    nat_le least e.0 && nat_lt e.0 n && not (is_zero_number (value e.1)) && are_in_order value n (e.0 + 1) entries
