use Rattle.std.proofs.Common.{◌≡◌, ◌∙◌, ◌∷◌, [], refl, sym, rules}
use Rattle.gms_ast.specs.Trees.{no_index}
use Rattle.gms_ast.specs.TreeView.{index_tree}
use Rattle.gms_check.specs.Controls.{lagged_sets}
use Rattle.gms_check.proofs.IndexLists.{gathered-given, gathered-nothing, lagged-gathered, lagged-Label, lagged-given, lagged-nothing}
use Rattle.gms_check.proofs.indices.lagged_sets.Goals as goal
use Rattle.gms_check.proofs.indices.lagged_sets.Goals.{in-Set+then-is_some+in_ok-push, in_default, in_default-via-in-Label-1, in_default-via-in-Set+else-is_some}

pub loop-index-preserved : goal.loop-index-preserved
loop-index-preserved g c = elim c.match-index.branch [
  | in-Set+then-is_some+in_ok-push w ↦ gathered-given lagged_sets lagged-gathered c.args.indices.now c.loop-index.index-index c.index-item.result c.loop-index.sets.items _ (w.in-Set.name ∷ []) c.loop-index-test.true c.index-item.is c.loop-index.invariant (lagged-given _ _ _ w.in-Set.is (sym w.is_some.ensures ∙ w.if-is_some.true)) (rw w.sets-is w.in_ok-push.ensures.items)
  | in_default w ↦ (
      let none : lagged_sets (index_tree c.index-item.result no_index) ≡ [] = elim w.in_default.branch [
        | in_default-via-in-Label-1 v ↦ search (rules, lagged-Label)
        | in_default-via-in-Set+else-is_some v ↦ lagged-nothing _ _ _ v.in-Set.is (sym v.is_some.ensures ∙ v.if-is_some.false)
      ] in
      gathered-nothing lagged_sets lagged-gathered c.args.indices.now c.loop-index.index-index c.index-item.result c.loop-index.sets.items _ c.loop-index-test.true c.index-item.is c.loop-index.invariant none (rw w.sets-is refl))
]
