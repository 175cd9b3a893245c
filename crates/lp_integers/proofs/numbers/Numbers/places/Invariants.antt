use Rattle.lp_integers.specs.Lines.{ArePlaces}
use Rattle.lp_integers.proofs.numbers.Numbers.places.Given as goal

abbrev pub invariant-loop-place : goal.invariant-loop-place
invariant-loop-place l = ArePlaces l.self l.place l.places.items
