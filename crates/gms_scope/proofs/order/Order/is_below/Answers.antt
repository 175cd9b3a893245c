use Rattle.std.proofs.Common.{◌∙◌, sym, length}
use Rattle.gms_scope.proofs.Orders.{order-there}
use Rattle.gms_scope.proofs.Belows.{below-none, below-places, none-below}
use Rattle.gms_scope.proofs.order.Order.is_below.Goals as goal
use Rattle.gms_scope.proofs.order.Order.is_below.Goals.{then-order-eq0-via-then-order-eq0, then-order-eq0-via-else-order-eq0+then-others-eq0}

pub reaches-requires-clause-there : goal.reaches-requires-clause-there
reaches-requires-clause-there c =
    order-there c.args.self.now.nodes.items c.args.name c.order-order.result c.order-order.ensures c.if-order-eq0.false

pub returns-then-order-eq0 : goal.returns-then-order-eq0
returns-then-order-eq0 c =
    let nodes = c.args.self.now.nodes.items in
    elim c.then-order-eq0.branch [
      | then-order-eq0-via-then-order-eq0 w ↦ sym (none-below nodes c.requires.steps (length nodes) c.args.name c.args.other (sym c.order-order.ensures ∙ w.if-order-eq0.true))
      | then-order-eq0-via-else-order-eq0+then-others-eq0 w ↦ sym (below-none nodes c.requires.steps (length nodes) c.args.name c.args.other (sym c.order-others.ensures ∙ w.if-others-eq0.true))
    ]

pub returns : goal.returns
returns c =
    c.reaches.ensures ∙ below-places c.args.self.now.nodes.items c.requires.steps c.args.name c.args.other c.order-order.result c.order-others.result c.order-order.ensures c.order-others.ensures c.if-order-eq0.false c.if-others-eq0.false
