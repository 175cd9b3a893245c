use Rattle.std.proofs.Common.{refl, ◌∷◌, []}
use Rattle.gms_check.specs.Uses.{index_sets}
use Rattle.gms_check.proofs.IndexLists.{gathered-given, gathered-nothing, sets-gathered, sets-Label, sets-Set}
use Rattle.gms_check.proofs.indices.index_sets.Goals as goal
use Rattle.gms_check.proofs.indices.index_sets.Goals.{in-Set+in_ok-push, in_default}

pub loop-index-preserved : goal.loop-index-preserved
loop-index-preserved g c = elim c.match-index.branch [
  | in-Set+in_ok-push w ↦ gathered-given index_sets sets-gathered c.args.indices.now c.loop-index.index-index c.index-item.result c.loop-index.sets.items _ (w.in-Set.name ∷ []) c.loop-index-test.true c.index-item.is c.loop-index.invariant (sets-Set _ _ _ w.in-Set.is) (rw w.sets-is w.in_ok-push.ensures.items)
  | in_default w ↦ gathered-nothing index_sets sets-gathered c.args.indices.now c.loop-index.index-index c.index-item.result c.loop-index.sets.items _ c.loop-index-test.true c.index-item.is c.loop-index.invariant (sets-Label _ _ w.in_default.is) (rw w.sets-is refl)
]
