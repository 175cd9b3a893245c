use Rattle.std.proofs.Common.{◌≡◌, ap, subst, List}
use Rattle.std.specs.Prelude.{ℕ, IfOk}
use Rattle.gms_check.specs.InnerChecking.{Checking}
use Rattle.gms_check.specs.CompileErrors.{statement_errors}
use Rattle.gms_check.proofs.checker.statement_errors.Goals as goal

pub returns : goal.returns
returns g c =
    subst (λ (solvers : List (List ℕ)). IfOk c.check_statements.result (λ errors. errors.items ≡ statement_errors g.F.ExactField.value c.args.program.now solvers)) (ap (λ (u : Checking). u.solvers) c.in_ok-checker.ensures) c.check_statements.ensures
