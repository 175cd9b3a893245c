use Rattle.std.specs.Prelude.{◌≡◌, ◌≢◌, ℕ, ◌<◌, slice_get, Some}
use Rattle.lp_integer_rows.specs.declared.parts.Part.{Part}
use Rattle.lp_integer_rows.specs.Marks.{IsClear}
use Rattle.lp_integer_rows.proofs.parts.marks_of.Given as goal

abbrev pub invariant-loop-i : goal.invariant-loop-i
invariant-loop-i l = (c j : ℕ) (p : Part) → j < l.i → IsClear l.marks c → slice_get l.parts j ≡ Some p → p.column ≢ c
