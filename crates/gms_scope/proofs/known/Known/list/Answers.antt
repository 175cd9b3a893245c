use Rattle.std.proofs.Common.{◌∙◌}
use Rattle.gms_scope.proofs.known.Known.list.Goals as goal

pub invariant_of-self : goal.invariant_of-self
invariant_of-self g c =
    let k = c.self.invariant in
    record { ordered = k.ordered; listed = c.declare_listed.ensures.listed; counted = c.declare_listed.ensures.counted c.self.inside.defined k.counted; names = k.names; places = c.declare_listed.ensures.places ∙ k.places }
