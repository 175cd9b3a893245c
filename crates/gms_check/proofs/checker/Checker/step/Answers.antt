use Rattle.gms_check.specs.InnerChecking.{seen}
use Rattle.gms_check.proofs.ProductSteps.{step-by}
use Rattle.gms_check.proofs.checker.Checker.step.Goals as goal

pub returns : goal.returns
returns g c =
    step-by c.args.at (seen c.args.self.now) (seen c.require.new.self) _ c.args.context c.args.operation c.args.earlier c.args.right c.may_step-occurs.result c.is_linear_step-linear.result c.require.ensures c.require_linear.ensures c.may_step-occurs.ensures c.is_linear_step-linear.ensures
