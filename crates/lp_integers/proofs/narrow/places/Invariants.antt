use Rattle.lp_integers.specs.Lines.{ArePlaces}
use Rattle.lp_integers.proofs.narrow.places.Given as goal

abbrev pub invariant-loop-place : goal.invariant-loop-place
invariant-loop-place l = ArePlaces l.numbers l.place l.places.items
