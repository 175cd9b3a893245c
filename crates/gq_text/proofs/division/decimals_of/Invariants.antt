-- The decimals so far, and what is left of the rest.
use Rattle.std.proofs.Common.{◌≡◌, ◌+◌, ◌*◌, ◌^◌, ◌<◌}
use Rattle.gq_text.proofs.division.decimals_of.Given as goal

abbrev pub invariant-loop-place : goal.invariant-loop-place
invariant-loop-place l = (l.fraction * l.divisor + l.left ≡ l.rest * 10 ^ l._place) × (l.left < l.divisor)
