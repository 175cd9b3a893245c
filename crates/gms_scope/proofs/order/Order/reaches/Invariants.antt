use Rattle.std.proofs.Common.{◌≡◌, ◌<◌, length}
use Rattle.gms_scope.specs.Order.{is_under}
use Rattle.gms_scope.proofs.order.Order.reaches.Given as goal

abbrev pub invariant-loop-place : goal.invariant-loop-place
invariant-loop-place l = (l.place < length l.self.nodes.items) × (is_under l.self.nodes.items l.place l.other ≡ is_under l.self.nodes.items l.node l.other)

abbrev pub decreases-loop-place : goal.decreases-loop-place
decreases-loop-place l = l.place
