-- The greatest of some numbers.
use Rattle.std.specs.Prelude.{ℕ, List, [], ◌∷◌, max}

-- the greatest of some numbers, or 0 for none
abbrev pub greatest : List ℕ → ℕ
greatest [] = 0
greatest (n ∷ ns) = max n (greatest ns)
