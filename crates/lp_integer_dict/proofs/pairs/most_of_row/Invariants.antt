use Rattle.std.specs.Prelude.{ℕ, ◌<◌, ◌≤◌, nat_abs}
use Rattle.lp_integer_dict.specs.WithinBound.{line_denominator, row_number}
use Rattle.lp_integer_dict.proofs.pairs.most_of_row.Given as goal

abbrev pub invariant-loop-c : goal.invariant-loop-c
invariant-loop-c l =
    (line_denominator l.deferred l.lines l.place ≤ l.most)
    × ((i : ℕ) → i < l.c → nat_abs (row_number l.deferred l.lines l.place i) ≤ l.most)
    × ((b : ℕ) → line_denominator l.deferred l.lines l.place ≤ b → ((i : ℕ) → i < l.width → nat_abs (row_number l.deferred l.lines l.place i) ≤ b) → l.most ≤ b)
