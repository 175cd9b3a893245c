use Rattle.std.proofs.Common.{◌≡◌, replicate}
use Rattle.gms_scope.proofs.model.Models.new.Given as goal

abbrev pub invariant-loop : goal.invariant-loop
invariant-loop l = l.places.items ≡ replicate l.counter 0
