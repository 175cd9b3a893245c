-- How many parentheses of a list are open.
use Rattle.std.specs.Prelude.{ℕ}
use Rattle.gms_lex.specs.declared.mode.Mode.{Mode}
use Rattle.gms_lex.specs.declared.mode.Mode.TheVariants.{Element}

-- how many parentheses of a list are open in a mode
abbrev pub depth_of : Mode → ℕ
depth_of (Element shape depth stage) = depth
depth_of current = 0
