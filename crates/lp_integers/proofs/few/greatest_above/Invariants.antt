use Rattle.lp_integers.proofs.Picking.{IsBestOf}
use Rattle.lp_integers.proofs.few.greatest_above.Given as goal

abbrev pub invariant-loop-word : goal.invariant-loop-word
invariant-loop-word l = IsBestOf l.words l.start l.word-index l.most l.best
