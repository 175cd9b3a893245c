use Rattle.std.proofs.Common.{arith}
use Rattle.lp_fraction_dict.proofs.Greatest.{better_by_cmp}
use Rattle.lp_fraction_dict.proofs.coefficients.is_better.Goals as goal

pub returns-in-Some : goal.returns-in-Some
returns-in-Some g c =
    better_by_cmp g.F.ExactField.value c.args.entry c.in-Some.best c.args.best c.cmp_value.result c.is_gt.result c.in-Some.is (omega (arith, c.if-entry-lt2.false)) c.cmp_value.ensures c.is_gt.ensures
