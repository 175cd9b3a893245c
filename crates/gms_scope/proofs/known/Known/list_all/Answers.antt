use Rattle.std.proofs.Common.{◌∙◌}
use Rattle.gms_scope.proofs.known.Known.list_all.Goals as goal

pub invariant_of-self : goal.invariant_of-self
invariant_of-self g c =
    let k = c.self.invariant in
    record { ordered = k.ordered; listed = c.declare_all.ensures.listed; counted = c.declare_all.ensures.counted c.self.inside.defined k.counted; names = k.names; places = c.declare_all.ensures.places ∙ k.places }
