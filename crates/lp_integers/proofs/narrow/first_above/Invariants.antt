use Rattle.lp_integers.proofs.Topmost.{NoneAbove}
use Rattle.lp_integers.proofs.narrow.first_above.Given as goal

abbrev pub invariant-loop-place : goal.invariant-loop-place
invariant-loop-place l = NoneAbove l.numbers l.start l.place
