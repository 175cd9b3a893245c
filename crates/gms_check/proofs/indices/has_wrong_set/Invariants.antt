use Rattle.std.proofs.Common.{◌≡◌, not, drop}
use Rattle.std.specs.List.{list_any}
use Rattle.gms_scope.specs.Names.{is_index_set}
use Rattle.gms_check.proofs.indices.has_wrong_set.Given as goal

abbrev pub invariant-loop-name : goal.invariant-loop-name
invariant-loop-name g l = list_any (λ name. not (is_index_set l.known.state name)) (drop l.name-index l.names) ≡ list_any (λ name. not (is_index_set l.known.state name)) l.names
