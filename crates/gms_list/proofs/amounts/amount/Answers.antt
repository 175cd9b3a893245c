use Rattle.std.proofs.Common.{◌∙◌, arith}
use Rattle.gms_list.proofs.Rounding.{rounded_is}
use Rattle.gms_list.proofs.amounts.amount.Goals as goal

pub returns : goal.returns
returns g c =
    c.as_str.ensures ∙ rounded_is g.F.ExactField.limit 3 (g.F.ExactField.value c.args.x) c.put_rounded.new.into (omega arith) g.met.F.ExactField.limit_range.1 (g.met.F.ExactField.within c.args.x) c.put_rounded.ensures
