use Rattle.std.proofs.Common.{refl}
use Rattle.gms_tuple.proofs.Ordered.{ordered-nil}
use Rattle.gms_set.proofs.expansion.Expansion.new.Goals as goal

pub invariant_of-result : goal.invariant_of-result
invariant_of-result g c = rw c.new.ensures.items (ordered-nil, refl)
