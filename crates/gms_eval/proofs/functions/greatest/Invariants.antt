use Rattle.std.proofs.Common.{◌≡◌, drop}
use Rattle.gq_extended.specs.Meaning.{extended}
use Rattle.gq_extended.specs.ExtendedOrder.{greater}
use Rattle.gms_eval.proofs.Bests.{best_from}
use Rattle.gms_eval.proofs.functions.greatest.Given as goal

abbrev pub invariant-loop-value : goal.invariant-loop-value
invariant-loop-value g l =
    best_from greater (extended g.F.ExactField.value) (extended g.F.ExactField.value l.initial.greatest) l.rest ≡ best_from greater (extended g.F.ExactField.value) (extended g.F.ExactField.value l.greatest) (drop l.value-index l.rest)
