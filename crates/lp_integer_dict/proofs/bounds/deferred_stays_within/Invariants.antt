use Rattle.std.proofs.Common.{◌≡◌, ◌≢◌, ℕ, ◌+◌, ◌*◌, ◌<◌, ◌≤◌, nat_abs, Some}
use Rattle.std.specs.Prelude.{slice_get}
use Rattle.lp_integer_rows.specs.declared.line.Line.{Line}
use Rattle.lp_integers.specs.Lines.{whole_at}
use Rattle.lp_integer_rows.specs.Form.{wholes}
use Rattle.lp_integer_dict.proofs.bounds.deferred_stays_within.Given as goal

abbrev pub invariant-loop-i : goal.invariant-loop-i
invariant-loop-i l =
    (i : ℕ) (x : Line) → i < l.i → i ≢ l.k → slice_get l.lines i ≡ Some x → x.most * l.u + nat_abs (whole_at (wholes x) 1) * l.pivot.most ≤ l.bound
