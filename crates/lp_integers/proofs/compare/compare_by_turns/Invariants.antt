-- Turned over and exchanged, the two fractions compare as before, and their denominators fall.
use Rattle.std.proofs.Common.{◌≡◌, ◌<◌, ◌+◌, ◌*◌}
use Rattle.std.specs.Ordering.{nat_cmp}
use Rattle.lp_integers.proofs.compare.compare_by_turns.Given as goal

abbrev pub invariant-turns : goal.invariant-turns
invariant-turns l =
    record {
      first : 0 < l.left.1;
      second : 0 < l.right.1;
      same : nat_cmp (l.left.0 * l.right.1) (l.right.0 * l.left.1) ≡ nat_cmp (l.fn.a * l.fn.d) (l.fn.c * l.fn.b);
    }

abbrev pub decreases-turns : goal.decreases-turns
decreases-turns l = l.left.1 + l.right.1
