use Rattle.std.proofs.Common.{◌≡◌, take, drop, IsOk}
use Rattle.std.specs.List.{All}
use Rattle.gms_store.specs.State.{State}
use Rattle.gms_eval.specs.Bindings.{Pairs}
use Rattle.gms_eval.specs.InnerLeading.{indices_tree}
use Rattle.gms_eval.specs.Leaders.{without_lags}
use Rattle.gms_eval.specs.Value.{label_answer}
use Rattle.gms_eval.proofs.leading.are_plain.Given as goal

abbrev pub invariant-loop-index : goal.invariant-loop-index
invariant-loop-index g l =
    All (λ index. (state : State) (binding : Pairs) → IsOk (label_answer g.F.ExactField.value g.F.ExactField.limit state binding index)) (take l.index-index l.indices)
    × (without_lags (indices_tree (drop l.index-index l.indices)) ≡ without_lags (indices_tree l.indices))
