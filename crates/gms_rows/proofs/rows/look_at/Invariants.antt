use Rattle.std.proofs.Common.{take}
use Rattle.gms_rows.specs.ElementRows.{AreInOrder}
use Rattle.gms_rows.proofs.rows.look_at.Given as goal

abbrev pub invariant-loop-set : goal.invariant-loop-set
invariant-loop-set g l = AreInOrder l.store (take l.set-index l.sets)
