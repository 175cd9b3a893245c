use Rattle.std.proofs.Common.{◌^◌, ◌-◌, [], get_or, map}
use Rattle.gq_frac.specs.Frac.{frac_value}
use Rattle.gms_ast.specs.TreeView.{control_tree}
use Rattle.gms_eval.specs.Value.{sets_of}
use Rattle.gms_exec.specs.Executing.{run_view}
use Rattle.gms_exec.proofs.Loops.{Between, Within, step_of}
use Rattle.gms_exec.proofs.statement.+step.Given as goal
use Rattle.gms_exec.specs.contracts.statement.step.dyn-1 as dyn

-- the loop is before an element
abbrev pub invariant-loop-element : goal.invariant-loop-element
invariant-loop-element g l =
    Between frac_value (2 ^ 127 - 1) (λ b. (dyn.members g.dyn-1 (b.vtable, b.value)).name b.value) (λ b. (dyn.members g.dyn-1 (b.vtable, b.value)).rule b.value) (λ b. (dyn.members g.dyn-1 (b.vtable, b.value)).paths b.value) l.program
    (step_of frac_value (2 ^ 127 - 1) l.program (map (λ b. (dyn.members g.dyn-1 (b.vtable, b.value)).name b.value) l.fn.solvers.items) l.s l.b)
    (sets_of (control_tree l.control)) l.b l.body.items l.element-items l.fn.solvers.items (run_view l.fn.run)
    l.element-index l.inner l.solvers.items (run_view l.run)

-- and before a statement under an element
abbrev pub invariant-loop-statement : goal.invariant-loop-statement
invariant-loop-statement g l =
    Within frac_value (2 ^ 127 - 1) (λ b. (dyn.members g.dyn-1 (b.vtable, b.value)).name b.value) (λ b. (dyn.members g.dyn-1 (b.vtable, b.value)).rule b.value) (λ b. (dyn.members g.dyn-1 (b.vtable, b.value)).paths b.value) l.program
    (step_of frac_value (2 ^ 127 - 1) l.program (map (λ b. (dyn.members g.dyn-1 (b.vtable, b.value)).name b.value) l.fn.solvers.items) l.s l.b)
    (sets_of (control_tree l.control)) l.b l.body.items l.element-items l.fn.solvers.items (run_view l.fn.run)
    l.element-index (get_or l.element-items l.element-index []) l.statement-index l.inner l.solvers.items (run_view l.run)

abbrev pub decreases-step : goal.decreases-step
decreases-step g l = goal.size-step g l
