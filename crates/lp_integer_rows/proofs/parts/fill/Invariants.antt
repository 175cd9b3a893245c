use Rattle.lp_integer_rows.specs.Parts.{AreFilled}
use Rattle.lp_integer_rows.proofs.parts.fill.Given as goal

abbrev pub invariant-loop-i : goal.invariant-loop-i
invariant-loop-i l = AreFilled l.parts l.multiple l.width l.i l.numbers.items
