-- Euclid's step keeps the greatest common divisor, and the second number falls.
use Rattle.std.proofs.Common.{◌≡◌}
use Rattle.gq_number.specs.Gcd.{gcd}
use Rattle.lp_integers.proofs.common.gcd.Given as goal

abbrev pub invariant-loop-x : goal.invariant-loop-x
invariant-loop-x l = gcd l.x l.y ≡ gcd l.fn.a l.fn.b

abbrev pub decreases-loop-x : goal.decreases-loop-x
decreases-loop-x l = l.y
