-- What the functions that narrow 127 bits to 63 promise each other.
use Rattle.std.specs.Prelude.{Result, Ok, Err}
use Rattle.lp_width.specs.declared.narrow.Wide.{Wide}
use Rattle.lp_width.specs.declared.narrow.Wide.TheVariants as wide

-- why something was not narrowed: its numbers exceed the limit, or it was out of memory
abbrev pub IsWide : Type 0 → Wide → Type 0
IsWide Within wide.Number = ¬ Within
IsWide Within wide.Memory = Unit {0}

-- the result means the same, and its numbers are within the limit; or they exceed it, or it was out
-- of memory
abbrev pub Narrows : {T : Type 0} → (T → Type 0) → Type 0 → Result T Wide → Type 0
Narrows Same Within (Ok made) = Same made × Within
Narrows Same Within (Err why) = IsWide Within why
