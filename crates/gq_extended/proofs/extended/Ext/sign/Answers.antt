-- A sign fits every field.
use Rattle.std.proofs.Common.{arith}
use Rattle.gq_extended.proofs.Signs.{direction_fits}
use Rattle.gq_extended.proofs.extended.Ext.sign.Goals as goal

pub from_int-requires : goal.from_int-requires
from_int-requires g c =
    direction_fits _ _ _ _ c.from.ensures c.direction.ensures (omega (arith, g.met.F.ExactField.limit_range.0))
