use Rattle.lp_integers.specs.Lines.{AreNegatedTo}
use Rattle.lp_integers.proofs.wide.negate.Given as goal

abbrev pub invariant-loop-c : goal.invariant-loop-c
invariant-loop-c l = AreNegatedTo l.initial.numbers l.numbers l.c
