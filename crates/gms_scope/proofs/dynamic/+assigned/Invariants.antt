use Rattle.std.proofs.Common.{◌≡◌, map, take}
use Rattle.std.specs.Prelude.{flat_map}
use Rattle.gms_store.specs.State.{base_of}
use Rattle.gms_scope.specs.DynamicSets.{assigned_names}
use Rattle.gms_scope.specs.Facts.{with_marks}
use Rattle.gms_scope.proofs.dynamic.+assigned.Given as goal

abbrev pub invariant-mark_assigned-loop-statement : goal.invariant-mark_assigned-loop-statement
invariant-mark_assigned-loop-statement g l = l.marks ≡ with_marks l.fn.marks (map (base_of l.store) (flat_map assigned_names (take l.statement-index l.statements)))
