use Rattle.std.specs.Prelude.{ℕ, ◌<◌, ◌≤◌}
use Rattle.lp_integer_dict.specs.WithinBound.{row_most}
use Rattle.lp_integer_dict.proofs.pairs.rows_are_roomy.Given as goal

abbrev pub invariant-loop-i : goal.invariant-loop-i
invariant-loop-i l = (i : ℕ) → i < l.i → row_most l.deferred l.lines i ≤ l.top
