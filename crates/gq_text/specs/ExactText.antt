-- The exact text of a number as it computes: the decimal digits of numerator and denominator.
use Rattle.std.specs.Prelude.{ℕ, ◌+◌, ◌==◌, List, [], ◌++◌, codes, decimal, ℤ, pos, negsuc, if◌then◌else◌}
use Rattle.gq_number.specs.Number.{Number}

-- the decimal digits of an integer, after `-` if it is below 0
abbrev pub whole_text : ℤ → List ℕ
whole_text (pos n) = decimal n
whole_text (negsuc n) = codes "-" ++ decimal (n + 1)

-- the exact text of a number: its numerator, and if the denominator is not 1 then `/` and the
-- denominator
abbrev pub exact_text : Number → List ℕ
exact_text x = whole_text x.numerator ++ (if x.denominator == 1 then [] else codes "/" ++ decimal x.denominator)
