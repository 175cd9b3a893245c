use Rattle.std.proofs.Common.{◌≡◌, take}
use Rattle.gms_eval.specs.Domain.{elements}
use Rattle.gms_eval.proofs.elements.all.Given as goal

abbrev pub invariant-loop-number : goal.invariant-loop-number
invariant-loop-number g l = l.all.items ≡ take l.number (elements l.store l.sets)
