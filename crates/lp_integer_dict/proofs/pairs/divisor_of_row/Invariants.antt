use Rattle.std.specs.Prelude.{ℕ, ◌<◌, nat_abs}
use Rattle.std.specs.Int.{◌∣◌}
use Rattle.lp_integer_dict.specs.WithinBound.{line_denominator, row_number}
use Rattle.lp_integer_dict.proofs.pairs.divisor_of_row.Given as goal

abbrev pub invariant-loop-c : goal.invariant-loop-c
invariant-loop-c l =
    (0 < l.divisor)
    × (l.divisor ∣ line_denominator l.deferred l.lines l.place)
    × ((i : ℕ) → i < l.c → l.divisor ∣ nat_abs (row_number l.deferred l.lines l.place i))
    × ((d : ℕ) → d ∣ line_denominator l.deferred l.lines l.place → ((i : ℕ) → i < l.width → d ∣ nat_abs (row_number l.deferred l.lines l.place i)) → d ∣ l.divisor)
