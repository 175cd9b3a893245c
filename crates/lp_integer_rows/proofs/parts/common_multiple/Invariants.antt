use Rattle.lp_integer_rows.specs.Parts.{IsMultiple}
use Rattle.lp_integer_rows.proofs.parts.common_multiple.Given as goal

abbrev pub invariant-loop-i : goal.invariant-loop-i
invariant-loop-i l = IsMultiple l.parts l.i l.multiple
