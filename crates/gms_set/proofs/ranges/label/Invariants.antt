use Rattle.std.proofs.Common.{replicate, decimal, ◌≡◌, ◌-◌, ◌++◌, length, string_bytes}
use Rattle.gms_set.proofs.ranges.label.Given as goal

abbrev pub invariant-loop : goal.invariant-loop
invariant-loop l =
    (string_bytes l.label ≡ l.fn.text ++ replicate l.counter 48) × (string_bytes l.digits ≡ decimal l.fn.number) × (l.end ≡ l.fn.width - length (decimal l.fn.number))
