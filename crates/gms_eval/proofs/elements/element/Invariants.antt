use Rattle.std.proofs.Common.{◌≡◌, map, length, drop}
use Rattle.gms_eval.specs.Domain.{labels_of}
use Rattle.gms_eval.proofs.Sizes.{IsMade}
use Rattle.gms_eval.proofs.elements.element.Given as goal

abbrev pub invariant-loop-set : goal.invariant-loop-set
invariant-loop-set g l =
    IsMade (map (labels_of l.store) l.sets) l.number-2 (map (labels_of l.store) (drop l.set-index l.sets)) l.element l.size l.number
    × (length l.element ≡ l.set-index)
