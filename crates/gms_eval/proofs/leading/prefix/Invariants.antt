use Rattle.std.proofs.Common.{◌≡◌, ◌++◌, ℕ, List, take, drop, length, Some, Ok}
use Rattle.gms_store.specs.State.{State}
use Rattle.gms_eval.specs.Bindings.{Pairs}
use Rattle.gms_eval.specs.InnerLeading.{tuple_answer, indices_tree}
use Rattle.gms_eval.specs.Leaders.{leading_labels}
use Rattle.gms_eval.proofs.leading.prefix.Given as goal

abbrev pub invariant-loop-index : goal.invariant-loop-index
invariant-loop-index g l =
    (length l.prefix ≡ l.index-index)
    × ((state : State) (more : Pairs) (tuple : List ℕ) → tuple_answer g.F.ExactField.value g.F.ExactField.limit state l.indices (l.b ++ more) ≡ Ok (Some tuple) → l.prefix ≡ take l.index-index tuple)
    × (l.prefix ++ leading_labels l.b (indices_tree (drop l.index-index l.indices)) ≡ leading_labels l.b (indices_tree l.indices))
