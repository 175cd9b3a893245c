use Rattle.std.proofs.Common.{arith}
use Rattle.lp_fraction_dict.proofs.Turns.{lessened_by_none, lessened_none}
use Rattle.lp_fraction_dict.proofs.row.lessened.Goals as goal

pub returns-in_default : goal.returns-in_default
returns-in_default g c =
    lessened_by_none g.F.ExactField.value g.F.ExactField.limit c.args.number c.args.factor c.zero.result c.unwrap_or.result c.args.other (omega (arith, g.met.F.ExactField.limit_range.0)) g.met.F.ExactField.within c.in_default.is c.zero.ensures c.unwrap_or.ensures

pub returns-in_default-number : goal.returns-in_default-number
returns-in_default-number g c =
    lessened_none g.F.ExactField.value g.F.ExactField.limit c.args.number c.args.factor c.in-Some.other c.in-Ok.product c.neg.result c.args.other g.met.F.ExactField.within c.in_default-number.is c.in-Some.is c.in-Ok.ensures.0 c.in-Ok.ensures.1 c.neg.ensures
