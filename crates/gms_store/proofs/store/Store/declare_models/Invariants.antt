use Rattle.std.proofs.Common.{◌≡◌, take}
use Rattle.gms_store.specs.Declarations.{declare_models}
use Rattle.gms_store.proofs.store.Store.declare_models.Given as goal

abbrev pub invariant-loop-model : goal.invariant-loop-model
invariant-loop-model g l = l.self ≡ declare_models l.fn.self (take l.model-index l.models)
