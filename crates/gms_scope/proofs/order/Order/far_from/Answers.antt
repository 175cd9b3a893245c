use Rattle.std.proofs.Common.{◌≡◌, ◌∙◌, true, ap, subst, sym}
use Rattle.gms_scope.specs.declared.order.Node.{Node}
use Rattle.gms_scope.specs.Order.{is_under, node_at}
use Rattle.gms_scope.proofs.Ways.{under-farther, under-self}
use Rattle.gms_scope.proofs.order.Order.far_from.Goals as goal

pub returns-then-step-next-clause-under : goal.returns-then-step-next-clause-under
returns-then-step-next-clause-under c =
    let nodes = c.args.self.now.nodes.items in
    subst (λ (node : Node). is_under nodes c.args.above node.far ≡ true) (ap (λ (node : Node). node_at nodes node.far) (sym c.node-near.ensures) ∙ sym c.node-far.ensures)
    (under-farther nodes c.args.above c.requires.order.steps c.requires.there)

pub returns-else-step-next-clause-under : goal.returns-else-step-next-clause-under
returns-else-step-next-clause-under c = under-self c.args.self.now.nodes.items c.args.above
