-- Each turn keeps the greatest common divisor and two odd numbers, and their sum falls.
use Rattle.std.proofs.Common.{◌≡◌, ◌≤◌, ◌+◌, ◌%◌}
use Rattle.gq_number.specs.Gcd.{gcd}
use Rattle.gq_field.proofs.divisor.gcd_of_odds.Given as goal

abbrev pub invariant-loop-low : goal.invariant-loop-low
invariant-loop-low l =
    record {
      low_odd : l.low % 2 ≡ 1;
      high_odd : l.high % 2 ≡ 1;
      in_order : l.low ≤ l.high;
      same : gcd l.low l.high ≡ gcd l.fn.a l.fn.b;
    }

abbrev pub decreases-loop-low : goal.decreases-loop-low
decreases-loop-low l = l.low + l.high
