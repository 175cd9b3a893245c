use Rattle.std.proofs.Common.{◌≡◌, drop}
use Rattle.gms_check.specs.InnerChecking.{seen}
use Rattle.gms_check.proofs.ModelLists.{models_checked}
use Rattle.gms_check.proofs.checker.Checker.declare_models.Given as goal

abbrev pub invariant-loop-model : goal.invariant-loop-model
invariant-loop-model g l =
    models_checked g.F.ExactField.value (seen l.self) (drop l.model-index l.models) ≡ models_checked g.F.ExactField.value (seen l.fn.self) l.models
