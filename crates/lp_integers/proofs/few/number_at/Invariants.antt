use Rattle.std.proofs.Common.{length}
use Rattle.lp_integers.proofs.Words.{Searched}
use Rattle.lp_integers.proofs.few.number_at.Given as goal

abbrev pub invariant-loop-word : goal.invariant-loop-word
invariant-loop-word l = Searched l.words l.rest l.place

abbrev pub decreases-loop-word : goal.decreases-loop-word
decreases-loop-word l = length l.rest
