use Rattle.std.proofs.Common.{◌≡◌, ◌≤◌, sym, subst}
use Rattle.gms_scope.specs.declared.order.Node.{Node}
use Rattle.gms_scope.specs.Order.{is_under, node_at}
use Rattle.gms_scope.proofs.Ways.{under-far, under-over, under-skip}
use Rattle.gms_scope.proofs.order.Order.step_up.Goals as goal

pub returns-then-node-place-clause-same : goal.returns-then-node-place-clause-same
returns-then-node-place-clause-same c =
    let nodes = c.args.self.now.nodes.items in
    let node = c.node-node.ensures in
    let less : c.args.place ≤ (node_at nodes c.args.node).far = subst (λ (node : Node). c.args.place ≤ node.far) node c.if-node-place.true in
    subst (λ (node : Node). is_under nodes node.far c.args.place ≡ is_under nodes c.args.node c.args.place) (sym node)
    (sym (under-over nodes c.args.node (node_at nodes c.args.node).far c.args.place (under-far nodes c.args.node (c.requires.order.steps c.args.node c.requires.there)) less))

pub returns-else-node-place-clause-same : goal.returns-else-node-place-clause-same
returns-else-node-place-clause-same c =
    let nodes = c.args.self.now.nodes.items in
    subst (λ (node : Node). is_under nodes node.above c.args.place ≡ is_under nodes c.args.node c.args.place) (sym c.node-node.ensures)
    (under-skip nodes c.args.node c.args.place c.requires.below c.requires.stepping)
