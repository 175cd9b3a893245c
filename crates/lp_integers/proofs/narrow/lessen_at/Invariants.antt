use Rattle.lp_integers.specs.Lines.{AreLessenedAt}
use Rattle.lp_integers.proofs.narrow.lessen_at.Given as goal

abbrev pub invariant-loop-i : goal.invariant-loop-i
invariant-loop-i l = AreLessenedAt l.b l.initial.numbers l.others l.numbers l.places l.i l.least l.most
