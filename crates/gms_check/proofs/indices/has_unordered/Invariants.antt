use Rattle.std.proofs.Common.{◌≡◌, not, drop}
use Rattle.std.specs.List.{list_any}
use Rattle.gms_scope.specs.Facts.{is_known_ordered}
use Rattle.gms_check.proofs.indices.has_unordered.Given as goal

abbrev pub invariant-loop-set : goal.invariant-loop-set
invariant-loop-set g l = list_any (λ set. not (is_known_ordered l.known set)) (drop l.set-index l.sets) ≡ list_any (λ set. not (is_known_ordered l.known set)) l.sets
