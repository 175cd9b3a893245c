use Rattle.std.proofs.Common.{◌≡◌, ◌++◌, take}
use Rattle.gms_tuple.proofs.tree.push_copies.Given as goal

abbrev pub invariant-loop-tuple : goal.invariant-loop-tuple
invariant-loop-tuple l = l.list.items ≡ l.fn.list.items ++ take l.tuple-index l.tuples
