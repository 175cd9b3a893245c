-- The digits so far spell what is left out of the rest.
use Rattle.gq_text.proofs.Pushes.{HasDigits}
use Rattle.gq_text.proofs.digits.Digits.push_digits.Given as goal

abbrev pub invariant-loop-place : goal.invariant-loop-place
invariant-loop-place l = HasDigits l.initial.self l.self l.n l.places l.place l.rest
