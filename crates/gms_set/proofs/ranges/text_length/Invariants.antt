use Rattle.gms_set.proofs.Digits.{AreDigitsFrom}
use Rattle.gms_set.proofs.ranges.text_length.Given as goal

abbrev pub invariant-loop-length : goal.invariant-loop-length
invariant-loop-length l = AreDigitsFrom l.fn.label l.length

-- proposed from the loop's first test
abbrev pub decreases-loop-length : goal.decreases-loop-length
decreases-loop-length l = l.length
