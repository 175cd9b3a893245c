use Rattle.std.proofs.Common.{refl}
use Rattle.lp_dict.specs.Tableau.{dictionary}
use Rattle.lp_any.proofs.Denominators.{more_of_row}
use Rattle.lp_any.proofs.common.denominator_in.Goals as goal

pub loop-column-init : goal.loop-column-init
loop-column-init g c = refl

pub loop-column-preserved : goal.loop-column-preserved
loop-column-preserved g c =
    more_of_row (dictionary g.F.ExactField.value c.args.dict.now) _ _ _ c.loop-column.column c.multiple_of-common.ensures c.args.row c.loop-column.invariant c.denominator_at.ensures.value
