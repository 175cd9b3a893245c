use Rattle.std.proofs.Common.{◌≡◌, length, take}
use Rattle.std.specs.Prelude.{filter}
use Rattle.gms_store.specs.Declarations.{blank_state, declared_by_all}
use Rattle.gms_save.specs.JointErrors.{is_saved}
use Rattle.gms_save.proofs.restart.declared_before.Given as goal

abbrev pub invariant-loop-statement : goal.invariant-loop-statement
invariant-loop-statement l = l.saved ≡ declared_by_all (blank_state (length l.joint.names)) (filter (is_saved l.from) (take l.statement-index l.joint.statements.items))
