use Rattle.std.proofs.Common.{◌≡◌, drop}
use Rattle.std.specs.List.{list_any}
use Rattle.gms_scope.specs.Names.{has_no_declaration}
use Rattle.gms_check.proofs.indices.has_unknown.Given as goal

abbrev pub invariant-loop-name : goal.invariant-loop-name
invariant-loop-name g l = list_any (has_no_declaration l.known.state) (drop l.name-index l.names) ≡ list_any (has_no_declaration l.known.state) l.names
