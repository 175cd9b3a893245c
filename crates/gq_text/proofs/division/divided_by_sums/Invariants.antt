-- A multiple of the rest is the same multiple of the divisor plus the sum.
use Rattle.std.proofs.Common.{◌≡◌, ◌+◌, ◌*◌, ◌<◌, ◌≤◌}
use Rattle.gq_text.proofs.division.divided_by_sums.Given as goal

abbrev pub invariant-loop-turn : goal.invariant-loop-turn
invariant-loop-turn l = (l.digit * l.divisor + l.sum ≡ l.rest * l._turn) × (l.sum < l.divisor) × (l.digit ≤ l._turn)
