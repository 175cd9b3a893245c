use Rattle.std.proofs.Common.{◌≡◌, take}
use Rattle.gms_store.specs.State.{given_of}
use Rattle.gms_scope.proofs.data.given_tuples.Given as goal

abbrev pub invariant-loop-place : goal.invariant-loop-place
invariant-loop-place g l = l.tuples.items ≡ take l.place (given_of l.store l.name)
