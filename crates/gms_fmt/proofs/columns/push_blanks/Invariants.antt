use Rattle.std.proofs.Common.{◌≡◌, ◌++◌}
use Rattle.gms_fmt.specs.Columns.{blanks}
use Rattle.gms_fmt.proofs.columns.push_blanks.Given as goal

abbrev pub invariant-loop : goal.invariant-loop
invariant-loop l = l.into.items ≡ l.fn.into.items ++ blanks l.counter
