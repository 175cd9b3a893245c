use Rattle.std.proofs.Common.{refl, ◌+◌}
use Rattle.lp_dict.specs.Tableau.{dictionary}
use Rattle.lp_any.proofs.Denominators.{more_of_column}
use Rattle.lp_any.proofs.common.denominator_of_column.Goals as goal

pub loop-row-init : goal.loop-row-init
loop-row-init g c = refl

pub loop-row-preserved : goal.loop-row-preserved
loop-row-preserved g c =
    more_of_column (dictionary g.F.ExactField.value c.args.dict.now) _ _ _ c.loop-row.row c.multiple_of-common.ensures (c.args.variable + 1) c.loop-row.invariant c.denominator_at.ensures.value
