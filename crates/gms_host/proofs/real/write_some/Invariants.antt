use Rattle.std.proofs.Common.{◌≡◌, ◌<◌, ◌≤◌}
use Rattle.gms_host.specs.Meaning.{Rose}
use Rattle.gms_host.proofs.real.write_some.Given as goal

-- the count is unchanged; with the errors so far it is no less, and rose if there was a turn
abbrev pub invariant-loop : goal.invariant-loop
invariant-loop g l = record {
  same : l.faults ≡ l.fn.faults;
  no_fall : l.fn.faults ≤ l.errors;
  rose : 0 < l.counter → Rose l.fn.faults l.errors;
}
