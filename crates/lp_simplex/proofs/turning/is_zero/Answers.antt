use Rattle.lp_simplex.proofs.Compared.{zero_by_cmp}
use Rattle.lp_simplex.proofs.turning.is_zero.Goals as goal

pub returns : goal.returns
returns g c =
    zero_by_cmp (g.F.ExactField.value c.args.x) (g.F.ExactField.value c.zero.result) c.cmp_value.result c.is_eq.result c.zero.ensures c.cmp_value.ensures c.is_eq.ensures
