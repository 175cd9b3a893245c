use Rattle.std.proofs.Common.{◌≡◌, not, drop}
use Rattle.std.specs.List.{list_any}
use Rattle.gms_check.specs.Past.{is_among}
use Rattle.gms_check.proofs.indices.has_uncontrolled.Given as goal

abbrev pub invariant-loop-set : goal.invariant-loop-set
invariant-loop-set l = list_any (λ set. not (is_among l.controlled set)) (drop l.set-index l.sets) ≡ list_any (λ set. not (is_among l.controlled set)) l.sets
