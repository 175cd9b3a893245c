use Rattle.lp_integers.specs.Lines.{AreLessenedTo}
use Rattle.lp_integers.proofs.narrow.lessen.Given as goal

abbrev pub invariant-loop-c : goal.invariant-loop-c
invariant-loop-c l = AreLessenedTo l.a l.b l.initial.numbers l.others l.numbers l.c l.most
