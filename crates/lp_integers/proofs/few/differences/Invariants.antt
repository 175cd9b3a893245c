use Rattle.std.proofs.Common.{ℕ, ◌+◌, ◌-◌, ◌^◌, length}
use Rattle.lp_integers.specs.Words.{AreWords}
use Rattle.lp_integers.proofs.Differences.{Passing}
use Rattle.lp_integers.proofs.few.differences.Given as goal

abbrev pub invariant-loop-place : goal.invariant-loop-place
invariant-loop-place l =
    (high : ℕ) → AreWords (2 ^ 63 - 1) 0 high l.words → AreWords (2 ^ 63 - 1) 0 high l.others → Passing (2 ^ 63 - 1) high l.words l.a l.b l.others l.left l.right l.made.items

abbrev pub decreases-loop-place : goal.decreases-loop-place
decreases-loop-place l = length l.left + length l.right
