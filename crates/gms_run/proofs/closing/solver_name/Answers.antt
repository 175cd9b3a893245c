-- The name of the solver at the place, or that of none.
use Rattle.std.proofs.Common.{codes, refl, ◌∙◌}
use Rattle.std.proofs.lemmas.Option.{slice_get_past, slice_get_read}
use Rattle.gms_run.proofs.Reports.{told_at, told_nowhere}
use Rattle.gms_run.proofs.closing.solver_name.Goals as goal

pub returns-in-Some : goal.returns-in-Some
returns-in-Some g c =
    c.own_name.ensures ∙ told_at (λ b. (goal.LpSolver-dyn g (b.vtable, b.value)).name b.value) c.args.solvers.now c.args.place c.in-Some.solver.now (codes "none") (slice_get_read c.args.solvers.now _ c.args.place c.in-Some.solver.now refl c.in-Some.ensures.lookup.3.0 c.in-Some.ensures.lookup.1)

pub returns-in-None : goal.returns-in-None
returns-in-None g c =
    told_nowhere (λ b. (goal.LpSolver-dyn g (b.vtable, b.value)).name b.value) c.args.solvers.now c.args.place (codes "none") (slice_get_past c.args.solvers.now c.args.place c.in-None.ensures.lookup.3)
