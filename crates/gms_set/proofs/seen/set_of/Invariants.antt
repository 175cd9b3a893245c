use Rattle.std.proofs.Common.{◌≡◌, ℕ, List, take}
use Rattle.gms_tuple.specs.TupleSet.{has}
use Rattle.gms_set.specs.Expansion.{tuples_of}
use Rattle.gms_set.proofs.seen.set_of.Given as goal

abbrev pub invariant-loop-tuple : goal.invariant-loop-tuple
invariant-loop-tuple g l = (other : List ℕ) → has l.set other ≡ has (tuples_of (take l.tuple-index l.given)) other
