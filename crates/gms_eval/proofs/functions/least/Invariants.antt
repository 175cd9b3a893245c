use Rattle.std.proofs.Common.{◌≡◌, drop}
use Rattle.gq_extended.specs.Meaning.{extended}
use Rattle.gq_extended.specs.ExtendedOrder.{lesser}
use Rattle.gms_eval.proofs.Bests.{best_from}
use Rattle.gms_eval.proofs.functions.least.Given as goal

abbrev pub invariant-loop-value : goal.invariant-loop-value
invariant-loop-value g l =
    best_from lesser (extended g.F.ExactField.value) (extended g.F.ExactField.value l.initial.least) l.rest ≡ best_from lesser (extended g.F.ExactField.value) (extended g.F.ExactField.value l.least) (drop l.value-index l.rest)
