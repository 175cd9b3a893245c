use Rattle.std.proofs.Common.{◌≡◌, ◌≤◌, ℕ, List, [], ◌++◌, take, drop, length, true, Some, Ok}
use Rattle.gms_tuple.specs.TupleSet.{has}
use Rattle.gms_store.specs.State.{State}
use Rattle.gms_eval.specs.Bindings.{controlled}
use Rattle.gms_eval.specs.Domain.{elements}
use Rattle.gms_eval.specs.InnerLeading.{tuple_answer, indices_tree}
use Rattle.gms_eval.specs.Leaders.{free_after}
use Rattle.gms_eval.proofs.Simple.{Freed}
use Rattle.gms_eval.proofs.leading.covered.Given as goal

abbrev pub invariant-loop-position : goal.invariant-loop-position
invariant-loop-position g l =
    (length l.places.items ≡ l.position)
    × (length l.free.items ≤ l.position)
    × ((state : State) (element tuple : List ℕ) → has (elements state l.sets) element ≡ true → tuple_answer g.F.ExactField.value g.F.ExactField.limit state l.indices (controlled l.b l.sets element) ≡ Ok (Some tuple) → Freed state l.free.items l.places.items tuple (take l.position element))
    × (l.free.items ++ free_after l.b (indices_tree l.indices) (take l.position l.sets) (drop l.position l.sets) ≡ free_after l.b (indices_tree l.indices) [] l.sets)
