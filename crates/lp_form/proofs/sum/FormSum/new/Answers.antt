use Rattle.std.proofs.Common.{ap, ◌∙◌}
use Rattle.lp_form.proofs.sum.FormSum.new.Goals as goal

pub returns-clause-constant : goal.returns-clause-constant
returns-clause-constant g c = ap g.F.ExactField.value c.constant.ensures.constant ∙ c.zero.ensures

pub returns-clause-keys : goal.returns-clause-keys
returns-clause-keys g c = c.constant.ensures.keys
