use Rattle.std.proofs.Common.{◌∙◌, ap, List, ℕ}
use Rattle.std.proofs.lemmas.List.{take_all}
use Rattle.gms_check.specs.InnerChecking.{seen, with_controlled}
use Rattle.gms_check.proofs.Noting.{controlled-more}
use Rattle.gms_check.proofs.checker.Checker.control_indices.Goals as goal

pub loop-set-preserved : goal.loop-set-preserved
loop-set-preserved g c =
    controlled-more c.deref-set-items.result.now c.loop-set.set-index 0 (seen c.args.self.now) (seen c.loop-set.self) _ c.loop-set-test.true c.loop-set.invariant (ap (λ (names : List ℕ). record (seen c.loop-set.self) { controlled = names }) c.in_ok-push.ensures)

pub returns : goal.returns
returns g c =
    c.loop-set.invariant ∙ ap (with_controlled (seen c.args.self.now)) (take_all c.loop-set.set-index c.deref-set-items.result.now c.loop-set-test.false ∙ c.deref-set-items.ensures.value ∙ c.in_ok-sets.ensures)
