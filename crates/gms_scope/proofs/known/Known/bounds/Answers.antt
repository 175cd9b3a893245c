use Rattle.std.proofs.Common.{◌≡◌, true, subst, sym}
use Rattle.gms_scope.specs.Facts.{Facts, names}
use Rattle.gms_scope.specs.Names.{is_index_set}
use Rattle.gms_scope.specs.Below.{bounds}
use Rattle.gms_scope.proofs.Belows.{bounds-by}
use Rattle.gms_scope.proofs.known.Known.bounds.Goals as goal

pub returns-then-is_index_set : goal.returns-then-is_index_set
returns-then-is_index_set g c =
    let inside = c.self.inside in
    subst (λ (facts : Facts). c.is_before.result ≡ bounds facts.state (names facts) c.args.name c.args.domain_set) c.self.view_is
    (bounds-by inside.store inside.order.nodes.items c.args.name c.args.domain_set c.base.result c.is_before.result (subst (λ (facts : Facts). true ≡ is_index_set facts.state c.args.domain_set) (sym c.self.view_is) c.if-is_index_set.ensures) c.base.ensures c.is_before.ensures)
