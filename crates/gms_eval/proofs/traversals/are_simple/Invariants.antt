use Rattle.std.proofs.Common.{take}
use Rattle.std.specs.List.{All}
use Rattle.gms_eval.specs.Domain.{IsSimple}
use Rattle.gms_eval.proofs.traversals.are_simple.Given as goal

abbrev pub invariant-loop-set : goal.invariant-loop-set
invariant-loop-set g l = All (IsSimple l.store) (take l.set-index l.sets)
