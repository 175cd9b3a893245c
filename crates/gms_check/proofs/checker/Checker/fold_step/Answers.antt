use Rattle.std.proofs.Common.{◌∙◌, ap, Bool, [], ◌∷◌, ◌&&◌}
use Rattle.gms_check.specs.InnerChecking.{faulted, seen}
use Rattle.gms_check.specs.declared.error.ErrorKind.TheVariants.{Nonlinear}
use Rattle.gms_check.proofs.checker.Checker.fold_step.Goals as goal

pub returns : goal.returns
returns g c =
    c.require_linear.ensures ∙ ap (λ (b : Bool). faulted (seen c.args.self.now) c.args.at ((c.args.context.variables && b, Nonlinear) ∷ [])) c.is_linear_fold-linear.ensures
