use Rattle.std.proofs.Common.{◌<◌, ◌-◌, ◌∙◌, ap, sym, length, arith}
use Rattle.gms_scope.specs.Entries.{among}
use Rattle.gms_scope.specs.Order.{entries_of_nodes}
use Rattle.gms_scope.proofs.Orders.{order-there}
use Rattle.gms_scope.proofs.Belows.{above-some, among-none, among-some}
use Rattle.gms_scope.proofs.order.Order.new_node.Goals as goal
use Rattle.gms_scope.proofs.order.Order.new_node.Goals.{in-Some, in-None}

pub far_from-requires-clause-there : goal.far_from-requires-clause-there
far_from-requires-clause-there c = elim c.match-above.branch [
  | in-Some w ↦ order-there c.args.self.now.nodes.items w.in-Some.set c.match-above.order (w.order-is ∙ w.order-order.ensures) c.if-order-eq0.false
  | in-None w ↦ absurd (c.if-order-eq0.false w.order-is)
]

pub returns-then-order-eq0-clause-entry : goal.returns-then-order-eq0-clause-entry
returns-then-order-eq0-clause-entry c =
    let nodes = c.args.self.now.nodes.items in
    ap (λ b. (c.args.name, b)) (elim c.match-above.branch [
      | in-Some w ↦ sym (among-none nodes c.args.above w.in-Some.set c.match-above.order w.in-Some.is (w.order-is ∙ w.order-order.ensures) c.if-order-eq0.true)
      | in-None w ↦ sym (ap (among (entries_of_nodes nodes)) w.in-None.is)
    ])

pub returns-clause-entry : goal.returns-clause-entry
returns-clause-entry c =
    let nodes = c.args.self.now.nodes.items in
    ap (λ b. (c.args.name, b)) (elim c.match-above.branch [
      | in-Some w ↦ w.above-is ∙ sym w.in-Some.is ∙ sym (among-some nodes c.args.above w.in-Some.set c.match-above.order w.in-Some.is (w.order-is ∙ w.order-order.ensures) c.if-order-eq0.false)
      | in-None w ↦ absurd (c.if-order-eq0.false w.order-is)
    ])

pub returns-clause-step : goal.returns-clause-step
returns-clause-step c =
    let nodes = c.args.self.now.nodes.items in
    let less : c.match-above.order - 1 < length nodes = elim c.match-above.branch [
      | in-Some w ↦ order-there nodes w.in-Some.set c.match-above.order (w.order-is ∙ w.order-order.ensures) c.if-order-eq0.false
      | in-None w ↦ absurd (c.if-order-eq0.false w.order-is)
    ] in
    record {
      above = omega arith;
      below = elim c.match-above.branch [
        | in-Some w ↦ above-some nodes c.match-above.above w.in-Some.set c.match-above.order (length nodes) w.above-is (w.order-is ∙ w.order-order.ensures) c.if-order-eq0.false less
        | in-None w ↦ absurd (c.if-order-eq0.false w.order-is)
      ];
      far = c.far_from.ensures.at_most;
      under = c.far_from.ensures.under;
    }
