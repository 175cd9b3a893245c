use Rattle.std.proofs.Common.{◌≡◌, replicate}
use Rattle.gms_scope.proofs.order.Order.new.Given as goal

abbrev pub invariant-loop : goal.invariant-loop
invariant-loop l = l.first.items ≡ replicate l.counter 0
