use Rattle.lp_fraction_dict.proofs.Improving.{above_by_cmp}
use Rattle.lp_fraction_dict.proofs.choice.is_above_zero.Goals as goal

pub returns : goal.returns
returns g c =
    above_by_cmp (g.F.ExactField.value c.args.x) (g.F.ExactField.value c.zero.result) c.cmp_value.result c.is_gt.result c.zero.ensures c.cmp_value.ensures c.is_gt.ensures
