use Rattle.gms_tuple.proofs.Ordered.{ordered-nil}
use Rattle.gms_tuple.proofs.set.TupleSet.new.Goals as goal

pub invariant_of-result : goal.invariant_of-result
invariant_of-result c = rw c.new.ensures ordered-nil
