use Rattle.std.proofs.Common.{◌≡◌, ◌∙◌, List, Vec, ℕ, ap, map, subst}
use Rattle.std.specs.List.{All}
use Rattle.std.specs.Prelude.{IfOk, string_bytes}
use Rattle.std.specs.declared.alloc.Global.{Global}
use Rattle.lp_slot.specs.SolverNames.{IsSolverName}
use Rattle.gms_store.specs.State.{State}
use Rattle.gms_check.specs.declared.error.CompileError.{CompileError}
use Rattle.gms_run.specs.InnerReports.{script_in}
use Rattle.gms_run.specs.Scripts.{errors_of_script}
use Rattle.gms_run.proofs.CallResults.{holds_done}
use Rattle.gms_run.proofs.report.errors_for.Goals as goal

pub returns-clause-errors : goal.returns-clause-errors
returns-clause-errors g c =
    subst (λ (names : List (List ℕ)). IfOk c.errors_of.result (λ (errors : Vec CompileError Global). (state : State) → errors.items ≡ errors_of_script (script_in c.args.script state).saved c.args.script.line c.args.program.now names)) (ap (map string_bytes) c.deref.ensures.value ∙ c.in_ok-names.ensures.texts) c.errors_of.ensures

pub returns-clause-named : goal.returns-clause-named
returns-clause-named g c =
    holds_done c.errors_of.result (All IsSolverName (map (λ b. (goal.LpSolver-dyn g (b.vtable, b.value)).name b.value) c.args.solvers.now)) (subst (All IsSolverName) c.in_ok-names.ensures.texts c.in_ok-names.ensures.named)
