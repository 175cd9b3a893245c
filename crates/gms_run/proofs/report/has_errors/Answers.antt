use Rattle.std.proofs.Common.{◌∙◌, map}
use Rattle.std.specs.List.{All}
use Rattle.lp_slot.specs.SolverNames.{IsSolverName}
use Rattle.gms_run.specs.InnerReports.{script_in}
use Rattle.gms_run.specs.Scripts.{errors_of_script}
use Rattle.gms_run.proofs.CallResults.{holds_done}
use Rattle.gms_run.proofs.Reports.{lists_each}
use Rattle.gms_run.proofs.report.has_errors.Goals as goal

pub returns-clause-listed : goal.returns-clause-listed
returns-clause-listed g c =
    lists_each c.list_errors.result c.as_slice.result.now (λ state. errors_of_script (script_in c.args.script state).saved c.args.script.line c.args.program.now (map (λ b. (goal.LpSolver-dyn g (b.vtable, b.value)).name b.value) c.args.solvers.now)) (script_in c.args.script) c.args.listing.now c.list_errors.new.listing (λ state. c.as_slice.ensures.value ∙ c.in_ok-errors.ensures.errors state) c.list_errors.ensures

pub returns-clause-named : goal.returns-clause-named
returns-clause-named g c =
    holds_done c.list_errors.result (All IsSolverName (map (λ b. (goal.LpSolver-dyn g (b.vtable, b.value)).name b.value) c.args.solvers.now)) c.in_ok-errors.ensures.named
