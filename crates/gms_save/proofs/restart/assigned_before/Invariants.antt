use Rattle.std.proofs.Common.{◌≡◌, false, length, map, replicate, take}
use Rattle.std.specs.Prelude.{filter, flat_map}
use Rattle.gms_store.specs.State.{base_of}
use Rattle.gms_store.specs.Declarations.{declared_state}
use Rattle.gms_scope.specs.DynamicSets.{assigned_names}
use Rattle.gms_scope.specs.Facts.{with_marks}
use Rattle.gms_save.specs.JointErrors.{is_saved}
use Rattle.gms_save.proofs.restart.assigned_before.Given as goal

abbrev pub invariant-loop-statement : goal.invariant-loop-statement
invariant-loop-statement l =
    l.assigned ≡ with_marks (replicate (length l.joint.names) false) (map (base_of (declared_state l.joint)) (flat_map assigned_names (filter (is_saved l.from) (take l.statement-index l.joint.statements.items))))
