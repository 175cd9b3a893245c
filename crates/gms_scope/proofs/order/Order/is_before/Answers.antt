use Rattle.gms_scope.specs.Order.{names_of_nodes}
use Rattle.gms_scope.proofs.Orders.{earlier-both, earlier-none, earlier-not}
use Rattle.gms_scope.proofs.order.Order.is_before.Goals as goal

pub returns-then-others-eq0 : goal.returns-then-others-eq0
returns-then-others-eq0 c =
    earlier-none (names_of_nodes c.args.self.now.nodes.items) c.args.name c.args.other _ _ c.order-order.ensures c.order-others.ensures c.if-order-gt0.true c.if-others-eq0.true

pub returns-else-others-eq0 : goal.returns-else-others-eq0
returns-else-others-eq0 c =
    earlier-both (names_of_nodes c.args.self.now.nodes.items) c.args.name c.args.other _ _ c.order-order.ensures c.order-others.ensures c.if-order-gt0.true c.if-others-eq0.false

pub returns-else-order-gt0 : goal.returns-else-order-gt0
returns-else-order-gt0 c =
    earlier-not (names_of_nodes c.args.self.now.nodes.items) c.args.name c.args.other _ _ c.order-order.ensures c.order-others.ensures c.if-order-gt0.false
