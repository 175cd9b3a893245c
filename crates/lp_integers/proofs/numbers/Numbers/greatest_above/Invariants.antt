use Rattle.lp_integers.proofs.Topmost.{BestBelow}
use Rattle.lp_integers.proofs.numbers.Numbers.greatest_above.Given as goal

abbrev pub invariant-loop-place : goal.invariant-loop-place
invariant-loop-place l = BestBelow l.self l.start l.place l.most l.best
