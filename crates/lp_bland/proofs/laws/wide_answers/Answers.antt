use Rattle.std.proofs.Common.{◌-◌, ◌^◌, lit≤}
use Rattle.gq_field.specs.Values.{half_value}
use Rattle.gq_frac.specs.Frac.{frac_value}
use Rattle.lp_core.specs.declared.answer.Rule.TheVariants.{Bland}
use Rattle.lp_bland.proofs.Widened.{widened}
use Rattle.lp_bland.proofs.laws.wide_answers.Goals as goal

pub returns : goal.returns
returns c narrow wide iterlim a b same well made not_refused is =
    widened half_value frac_value (2 ^ 63 - 1) (2 ^ 127 - 1) (lit≤ tt) narrow wide same well iterlim Bland a b made not_refused is
