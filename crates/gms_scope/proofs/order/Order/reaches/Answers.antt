use Rattle.std.proofs.Common.{◌∙◌, sym, subst, ◌≤◌}
use Rattle.gms_scope.specs.declared.order.Node.{Node}
use Rattle.gms_scope.specs.Order.{node_at}
use Rattle.gms_scope.proofs.Ways.{under-end, under-there}
use Rattle.gms_scope.proofs.order.Order.reaches.Goals as goal
use Rattle.gms_scope.proofs.order.Order.reaches.Goals.{then-loop-place-test+else-node-place, else-loop-place-test}

pub returns : goal.returns
returns c =
    let nodes = c.args.self.now.nodes.items in
    elim c.loop-place-test.branch [
      | then-loop-place-test+else-node-place w ↦
          let least : c.loop-place.place ≤ (node_at nodes c.loop-place.place).above = subst (λ (node : Node). c.loop-place.place ≤ node.above) w.node.ensures w.if-node-place.false in
          sym (under-end nodes c.loop-place.place c.args.other least) ∙ c.loop-place.invariant.1
      | else-loop-place-test w ↦ sym (under-there nodes c.loop-place.place c.args.other w.loop-place-test.false) ∙ c.loop-place.invariant.1
    ]
