use Rattle.lp_integers.specs.Lines.{AreDividedTo}
use Rattle.lp_integers.proofs.narrow.divide.Given as goal

abbrev pub invariant-loop-c : goal.invariant-loop-c
invariant-loop-c l = AreDividedTo l.divisor l.initial.numbers l.numbers l.c
