use Rattle.std.proofs.Common.{◌≡◌, ◌*ℤ◌, pos}
use Rattle.lp_integers.proofs.Each.{MatchedTo}
use Rattle.lp_integers.proofs.few.divide.Given as goal

abbrev pub invariant-loop-i : goal.invariant-loop-i
invariant-loop-i l = MatchedTo (λ x y. y *ℤ pos l.divisor ≡ x) l.initial.words l.words l.i
