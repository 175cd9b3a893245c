use Rattle.std.proofs.Common.{◌∙◌}
use Rattle.gms_list.proofs.amounts.exact.Goals as goal

pub returns : goal.returns
returns g c = c.as_str.ensures ∙ c.put_exact.ensures.text
