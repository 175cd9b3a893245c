use Rattle.std.proofs.Common.{◌≡◌, take}
use Rattle.gms_scope.specs.Data.{given_to}
use Rattle.gms_scope.proofs.data.put_data.Given as goal

abbrev pub invariant-loop-tuple : goal.invariant-loop-tuple
invariant-loop-tuple g l = l.store ≡ given_to g.F.ExactField.value l.name l.fn.store (take l.tuple-index l.given)
