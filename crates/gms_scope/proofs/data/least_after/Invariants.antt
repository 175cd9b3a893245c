use Rattle.std.proofs.Common.{◌≡◌, drop}
use Rattle.gms_scope.specs.Data.{least_after}
use Rattle.gms_scope.proofs.data.least_after.Given as goal

abbrev pub invariant-loop-label : goal.invariant-loop-label
invariant-loop-label l = least_after l.least (drop l.label-index l.labels) ≡ least_after l.fn.least l.labels
