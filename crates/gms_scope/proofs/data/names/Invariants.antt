use Rattle.std.proofs.Common.{◌≡◌, take}
use Rattle.gms_store.specs.Declarations.{names_of}
use Rattle.gms_scope.proofs.data.names.Given as goal

abbrev pub invariant-loop-position : goal.invariant-loop-position
invariant-loop-position l = l.sets.items ≡ names_of (take l.position-index l.domain)
