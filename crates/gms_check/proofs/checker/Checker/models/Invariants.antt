use Rattle.std.proofs.Common.{◌≡◌, drop}
use Rattle.gms_check.specs.InnerChecking.{seen}
use Rattle.gms_check.proofs.ModelLists.{models_listed}
use Rattle.gms_check.proofs.checker.Checker.models.Given as goal

abbrev pub invariant-loop-model : goal.invariant-loop-model
invariant-loop-model g l =
    models_listed l.sound (seen l.self) (drop l.model-index l.models) ≡ models_listed l.sound (seen l.initial.self) l.models
