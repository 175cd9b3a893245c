use Rattle.std.proofs.Common.{◌≡◌, map, take}
use Rattle.std.specs.List.{All}
use Rattle.std.specs.Prelude.{string_bytes}
use Rattle.lp_slot.specs.SolverNames.{IsSolverName}
use Rattle.gms_run.proofs.report.names_of.Given as goal

-- the names so far, each of which a source can write
abbrev pub invariant-loop-solver : goal.invariant-loop-solver
invariant-loop-solver g l =
    (map string_bytes l.names.items ≡ map (λ b. (goal.LpSolver-dyn g (b.vtable, b.value)).name b.value) (take l.solver-index l.solvers)) × All IsSolverName (map string_bytes l.names.items)
