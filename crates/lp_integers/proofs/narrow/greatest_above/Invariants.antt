use Rattle.lp_integers.proofs.Topmost.{BestBelow}
use Rattle.lp_integers.proofs.narrow.greatest_above.Given as goal

abbrev pub invariant-loop-place : goal.invariant-loop-place
invariant-loop-place l = BestBelow l.numbers l.start l.place l.most l.best
