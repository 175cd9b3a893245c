use Rattle.std.proofs.Common.{◌≡◌}
use Rattle.gms_tuple.specs.TupleSet.{has}
use Rattle.gms_eval.specs.Domain.{elements}
use Rattle.gms_eval.proofs.Simple.{rest_in}
use Rattle.gms_eval.proofs.traversals.is_element.Given as goal

abbrev pub invariant-loop-place : goal.invariant-loop-place
invariant-loop-place g l = has (elements l.store l.sets) l.tuple ≡ rest_in l.store l.sets l.tuple l.place
