-- Lines, and the form of numbers in them (GAMS User's Guide, "The Display Statement").
use Rattle.std.specs.Prelude.{ℕ, ◌+◌, ◌/◌, ◌%◌, ◌^◌, ◌-◌, ◌==◌, pos, negsuc, ℤ, List, [], ◌∷◌, ◌++◌, length, replicate, codes, decimal, if◌then◌else◌}
use Rattle.gq_number.specs.Number.{Number, whole, ◌*ℚ◌, rounded}

-- a line: a text followed by a line feed
abbrev pub line_of : List ℕ → List ℕ
line_of text = text ++ 10 ∷ []

-- the decimal digits of n, with zeros before them up to `places` characters
abbrev pub in_places : ℕ → ℕ → List ℕ
in_places places n = replicate (places - length (decimal n)) 48 ++ decimal n

-- the decimal text of n over 10^decimals, with that many decimals: the integer part, a point, and
-- the decimals; if `decimals` is 0 there is no point
abbrev pub fixed_text : ℕ → ℕ → List ℕ
fixed_text decimals n =
    decimal (n / 10 ^ decimals) ++ (if decimals == 0 then [] else codes "." ++ in_places decimals (n % 10 ^ decimals))

-- the decimal text of an integer over 10^decimals, with that many decimals, after `-` if the
-- integer is below 0
abbrev pub signed_text : ℕ → ℤ → List ℕ
signed_text decimals (pos n) = fixed_text decimals n
signed_text decimals (negsuc n) = codes "-" ++ fixed_text decimals (n + 1)

-- the decimal text of x, rounded to `decimals` decimals, half away from zero
abbrev pub rounded_text : ℕ → Number → List ℕ
rounded_text decimals x = signed_text decimals (rounded (x *ℚ whole (pos (10 ^ decimals))))
