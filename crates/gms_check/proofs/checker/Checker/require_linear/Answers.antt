use Rattle.std.proofs.Common.{◌≡◌, ◌∙◌, ap, refl, Bool, [], ◌∷◌, ◌&&◌, not}
use Rattle.gms_check.specs.InnerChecking.{faulted, seen}
use Rattle.gms_check.specs.declared.error.ErrorKind.TheVariants.{Nonlinear}
use Rattle.gms_check.proofs.Noting.{and-false, and-true, not-not}
use Rattle.gms_check.proofs.checker.Checker.require_linear.Goals as goal
use Rattle.gms_check.proofs.checker.Checker.require_linear.Goals.{then-context, else-context}

pub returns : goal.returns
returns g c =
    let joined : c.if-context.curved ≡ (c.args.context.variables && not c.args.linear) = elim c.if-context.branch [
      | then-context w ↦ and-true _ _ _ _ w.curved-is refl w.if-context.true
      | else-context w ↦ and-false _ _ _ w.curved-is w.if-context.false
    ] in
    c.require.ensures ∙ ap (λ (b : Bool). faulted (seen c.args.self.now) c.args.at ((b, Nonlinear) ∷ [])) (not-not c.if-context.curved ∙ joined)
