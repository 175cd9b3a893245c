use Rattle.std.proofs.Common.{◌≡◌, ◌&&◌, ℕ, List, slice_range}
use Rattle.std.specs.List.{flat_map}
use Rattle.gms_tuple.specs.TupleOrder.{IsOrdered}
use Rattle.gms_tuple.specs.TupleSet.{has}
use Rattle.gms_store.specs.State.{given_of}
use Rattle.gms_eval.specs.Domain.{elements}
use Rattle.gms_eval.specs.InnerLeading.{spread_over}
use Rattle.gms_eval.proofs.traversals.gathered.Given as goal

abbrev pub invariant-loop-place : goal.invariant-loop-place
invariant-loop-place g l =
    IsOrdered l.found × ((t : List ℕ) → has l.found t ≡ (has (flat_map (spread_over l.store l.traversal.free.items l.traversal.places.items) (slice_range (given_of l.store l.traversal.name) l.traversal.from l.place)) t && has (elements l.store l.sets) t))
