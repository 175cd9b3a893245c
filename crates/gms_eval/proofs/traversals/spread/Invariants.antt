use Rattle.std.proofs.Common.{◌≡◌, ◌++◌, ◌||◌, ◌&&◌, ℕ, List, map, take}
use Rattle.gms_tuple.specs.TupleOrder.{IsOrdered}
use Rattle.gms_tuple.specs.TupleSet.{has}
use Rattle.gms_eval.specs.Domain.{elements}
use Rattle.gms_eval.specs.InnerLeading.{picked}
use Rattle.gms_eval.proofs.traversals.spread.Given as goal

abbrev pub invariant-loop-number : goal.invariant-loop-number
invariant-loop-number g l =
    IsOrdered l.more × ((t : List ℕ) → has l.more t ≡ (has l.fn.found t || (has (map (λ rest. picked l.traversal.places.items (l.tuple ++ rest)) (take l.number (elements l.store l.traversal.free.items))) t && has (elements l.store l.sets) t)))
