use Rattle.std.proofs.Common.{ℕ, Vec, ◌∙◌, sym, ap}
use Rattle.std.specs.declared.alloc.Global.{Global}
use Rattle.gms_rows.specs.InnerContracts.{with_once}
use Rattle.gms_rows.proofs.IndexSets.{set_names, once-Set, once-Label, names-Set, names-Label}
use Rattle.gms_rows.proofs.rows.sets_of.Goals as goal
use Rattle.gms_rows.proofs.rows.sets_of.Goals.{in-Set+in_ok-push_once-in-Set, in-Label}

pub loop-index-preserved : goal.loop-index-preserved
loop-index-preserved g c =
    elim c.match-index.branch [
      | in-Set+in_ok-push_once-in-Set w ↦ ap (λ (sets : Vec ℕ Global). sets.items) w.sets-is ∙ w.in_ok-push_once-in-Set.ensures ∙ ap (λ names. with_once names w.in-Set.name) c.loop-index.invariant ∙ sym (once-Set c.args.indices.now c.loop-index.index-index c.index-item.result w.in-Set.name c.loop-index-test.true c.index-item.is (ap set_names w.in-Set.is ∙ names-Set w.in-Set.name _))
      | in-Label w ↦ ap (λ (sets : Vec ℕ Global). sets.items) w.sets-is ∙ c.loop-index.invariant ∙ sym (once-Label c.args.indices.now c.loop-index.index-index c.index-item.result c.loop-index-test.true c.index-item.is (ap set_names w.in-Label.is ∙ names-Label _ _))
    ]
