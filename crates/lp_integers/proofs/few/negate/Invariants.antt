use Rattle.std.proofs.Common.{◌≡◌, neg_ℤ}
use Rattle.lp_integers.proofs.Each.{MatchedTo}
use Rattle.lp_integers.proofs.few.negate.Given as goal

abbrev pub invariant-loop-i : goal.invariant-loop-i
invariant-loop-i l = MatchedTo (λ x y. y ≡ neg_ℤ x) l.initial.words l.words l.i
