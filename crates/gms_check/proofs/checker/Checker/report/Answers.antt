use Rattle.std.proofs.Common.{◌∙◌, ap, Some}
use Rattle.std.specs.Prelude.{Option}
use Rattle.gms_check.specs.declared.error.CompileError.{CompileError}
use Rattle.gms_check.specs.InnerChecking.{seen}
use Rattle.gms_check.proofs.Sooner.{sooner-comm}
use Rattle.gms_check.proofs.checker.Checker.report.Goals as goal

pub returns : goal.returns
returns g c = ap (λ (first : Option CompileError). record (seen c.args.self.now) { first = first }) (ap Some c.or_earlier.ensures ∙ sooner-comm (Some (record { kind = c.args.kind; at = c.args.at })) c.args.self.now.first)
