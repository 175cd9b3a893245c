-- The second number falls.
use Rattle.gms_tests.proofs.fields.common.Given as goal

abbrev pub decreases-loop-y : goal.decreases-loop-y
decreases-loop-y l = l.y
