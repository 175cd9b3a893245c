-- Only zeros are removed from what remains.
use Rattle.std.proofs.Common.{◌≡◌, ◌-◌, ◌≤◌, ◌++◌, length, replicate}
use Rattle.gq_text.proofs.literal.without_zeros.Given as goal

abbrev pub invariant-loop-kept : goal.invariant-loop-kept
invariant-loop-kept l = (l.digits ≡ l.kept ++ replicate (length l.digits - length l.kept) 48) × (length l.kept ≤ length l.digits)

abbrev pub decreases-loop-kept : goal.decreases-loop-kept
decreases-loop-kept l = length l.kept
