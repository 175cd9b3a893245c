-- Each call is on half the exponent.
use Rattle.gq_extended.proofs.powers.+times_itself.Given as goal

abbrev pub decreases-times_itself : goal.decreases-times_itself
decreases-times_itself g l = l.exponent
