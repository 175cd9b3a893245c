use Rattle.std.proofs.Common.{◌≡◌, take}
use Rattle.gms_scope.proofs.Empties.{without}
use Rattle.gms_scope.proofs.data.take_out_data.Given as goal

abbrev pub invariant-loop-tuple : goal.invariant-loop-tuple
invariant-loop-tuple g l = l.store ≡ without l.name l.fn.store (take l.tuple-index l.tuple-items)
