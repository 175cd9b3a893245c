use Rattle.std.proofs.Common.{◌^◌, ◌-◌, ◌∙◌, map, ap, sym, refl, Err}
use Rattle.std.proofs.lemmas.Result.{err_from_is_err_and}
use Rattle.gq_frac.specs.Frac.{frac_value}
use Rattle.gq_frac.specs.declared.frac.Frac.{Frac}
use Rattle.gms_eval.specs.Faults.{faulted, nothing}
use Rattle.gms_eval.specs.declared.stop.StopKind.TheVariants.{NoSolver}
use Rattle.gms_rows.specs.ProgramLp.{program_lp}
use Rattle.gms_rows.specs.Rows.{equations_of}
use Rattle.gms_exec.specs.Run.{with_evaluated, answered, solve}
use Rattle.gms_exec.specs.ValidEvents.{ShowsValidEvents}
use Rattle.gms_exec.specs.Stepping.{RunView, Answered, course_from_view}
use Rattle.gms_exec.proofs.Arms.{runs-value_stops, unless-any}
use Rattle.gms_exec.proofs.Joining.{answered-nothing}
use Rattle.gms_exec.proofs.SolveRuns.{runs-fault, runs-extended, solve-does, solve-none, solves-runs, solves-answered, solves-valid, is-none, is-some, some-there}
use Rattle.gms_exec.proofs.ValidSequences.{valid-nothing}
use Rattle.gms_exec.proofs.solving.solve_model.Goals as goal

pub generate-requires : goal.generate-requires
generate-requires g c = c.requires.plain

pub solve_program-requires-clause-formed : goal.solve_program-requires-clause-formed
solve_program-requires-clause-formed g c = c.in_ok-lp.ensures.formed

pub returns-then-is_empty-clause-runs : goal.returns-then-is_empty-clause-runs
returns-then-is_empty-clause-runs g c =
    let s = c.args.s in
    let b = c.args.b.now in
    let seen : RunView Frac = record { state = c.args.run.now.store; events = c.args.run.now.events.items; answers = c.args.run.now.answers.items } in
    let names = map (λ b. (goal.LpSolver-dyn g (b.vtable, b.value)).name b.value) c.args.solvers.now.items in
    runs-fault frac_value c.stopped.result (faulted NoSolver s.at b nothing nothing) (solve frac_value (2 ^ 127 - 1) names c.args.program.now.statements.items s.model s.objective s.maximize s.at b) seen c.stopped.ensures
    (λ left. solve-none frac_value (2 ^ 127 - 1) names c.args.program.now.statements.items s.model s.objective s.maximize s.at b (course_from_view frac_value seen left) (is-none (λ b. (goal.LpSolver-dyn g (b.vtable, b.value)).name b.value) c.args.solvers.now (sym c.is_empty.ensures ∙ c.if-is_empty.true)))

pub returns-in_err-lp-clause-runs : goal.returns-in_err-lp-clause-runs
returns-in_err-lp-clause-runs g c =
    let s = c.args.s in
    let b = c.args.b.now in
    let statements = c.args.program.now.statements.items in
    let seen : RunView Frac = record { state = c.args.run.now.store; events = c.args.run.now.events.items; answers = c.args.run.now.answers.items } in
    let names = map (λ b. (goal.LpSolver-dyn g (b.vtable, b.value)).name b.value) c.args.solvers.now.items in
    let p = err_from_is_err_and c.from_residual.result c.from_residual.ensures.1 in
    rw (p.1, p.2) (runs-value_stops frac_value c.in_err-lp.field-0.0 (solve frac_value (2 ^ 127 - 1) names statements s.model s.objective s.maximize s.at b) seen (program_lp frac_value (2 ^ 127 - 1) c.args.run.now.store statements s.model s.objective s.maximize s.at) (λ course lp. answered frac_value (2 ^ 127 - 1) names s.model (equations_of statements s.model) s.objective s.at course lp) c.in_err-lp.ensures.program
    (λ left. solve-does frac_value (2 ^ 127 - 1) names statements s.model s.objective s.maximize s.at b (course_from_view frac_value seen left) (is-some (λ b. (goal.LpSolver-dyn g (b.vtable, b.value)).name b.value) c.args.solvers.now (sym c.is_empty.ensures ∙ c.if-is_empty.false))))

pub returns-clause-runs : goal.returns-clause-runs
returns-clause-runs g c =
    let s = c.args.s in
    let b = c.args.b.now in
    let statements = c.args.program.now.statements.items in
    let old : RunView Frac = record { state = c.args.run.now.store; events = c.args.run.now.events.items; answers = c.args.run.now.answers.items } in
    let names = map (λ b. (goal.LpSolver-dyn g (b.vtable, b.value)).name b.value) c.args.solvers.now.items in
    solves-runs frac_value (2 ^ 127 - 1) names _ _ _ s.at s.model (equations_of statements s.model) s.objective c.in_ok-lp.lp old _ c.in_ok-solve_program.ensures.solves tt (solve frac_value (2 ^ 127 - 1) names statements s.model s.objective s.maximize s.at b)
    (λ left. solve-does frac_value (2 ^ 127 - 1) names statements s.model s.objective s.maximize s.at b (course_from_view frac_value old left) (is-some (λ b. (goal.LpSolver-dyn g (b.vtable, b.value)).name b.value) c.args.solvers.now (sym c.is_empty.ensures ∙ c.if-is_empty.false))
    ∙ ap (λ answer. with_evaluated answer (answered frac_value (2 ^ 127 - 1) names s.model (equations_of statements s.model) s.objective s.at (course_from_view frac_value old left)) (course_from_view frac_value old left)) c.in_ok-lp.ensures.program)

pub returns-clause-valid : goal.returns-clause-valid
returns-clause-valid g c =
    solves-valid frac_value (2 ^ 127 - 1) _ _ _ _ c.args.s.at c.args.s.model _ c.args.s.objective c.in_ok-lp.lp _ _ c.in_ok-solve_program.ensures.solves c.in_ok-lp.ensures.formed

pub returns-in_err-solve_program-clause-runs : goal.returns-in_err-solve_program-clause-runs
returns-in_err-solve_program-clause-runs g c =
    let p = err_from_is_err_and c.from_residual-in_err-solve_program.result c.from_residual-in_err-solve_program.ensures.1 in
    rw p.1 (runs-extended frac_value p.0 _ _ _ p.2 c.in_err-solve_program.ensures.events c.in_err-solve_program.ensures.answers)

pub returns-then-is_empty-clause-solvers : goal.returns-then-is_empty-clause-solvers
returns-then-is_empty-clause-solvers g c =
    let xs = c.args.solvers.now.items in
    let seen : RunView Frac = record { state = c.args.run.now.store; events = c.args.run.now.events.items; answers = c.args.run.now.answers.items } in
    unless-any {F = Frac} {A = Unit {0}} (Err c.stopped.result) (Answered frac_value (2 ^ 127 - 1) (λ b. (goal.LpSolver-dyn g (b.vtable, b.value)).name b.value) (λ b. (goal.LpSolver-dyn g (b.vtable, b.value)).rule b.value) (λ b. (goal.LpSolver-dyn g (b.vtable, b.value)).paths b.value) xs xs seen seen) (answered-nothing frac_value (2 ^ 127 - 1) (λ b. (goal.LpSolver-dyn g (b.vtable, b.value)).name b.value) (λ b. (goal.LpSolver-dyn g (b.vtable, b.value)).rule b.value) (λ b. (goal.LpSolver-dyn g (b.vtable, b.value)).paths b.value) xs seen)

pub returns-then-is_empty-clause-valid : goal.returns-then-is_empty-clause-valid
returns-then-is_empty-clause-valid g c =
    let rules = map (λ b. (goal.LpSolver-dyn g (b.vtable, b.value)).rule b.value) c.args.solvers.now.items in
    let answers = c.args.run.now.answers.items in
    let events = c.args.run.now.events.items in
    unless-any {F = Frac} {A = Unit {0}} (Err c.stopped.result) (ShowsValidEvents frac_value (2 ^ 127 - 1) rules answers events events) (valid-nothing frac_value (2 ^ 127 - 1) rules answers events events refl)

pub returns-in_err-lp-clause-solvers : goal.returns-in_err-lp-clause-solvers
returns-in_err-lp-clause-solvers g c =
    let xs = c.args.solvers.now.items in
    let seen : RunView Frac = record { state = c.args.run.now.store; events = c.args.run.now.events.items; answers = c.args.run.now.answers.items } in
    unless-any {F = Frac} {A = Unit {0}} (c.from_residual.result) (Answered frac_value (2 ^ 127 - 1) (λ b. (goal.LpSolver-dyn g (b.vtable, b.value)).name b.value) (λ b. (goal.LpSolver-dyn g (b.vtable, b.value)).rule b.value) (λ b. (goal.LpSolver-dyn g (b.vtable, b.value)).paths b.value) xs xs seen seen) (answered-nothing frac_value (2 ^ 127 - 1) (λ b. (goal.LpSolver-dyn g (b.vtable, b.value)).name b.value) (λ b. (goal.LpSolver-dyn g (b.vtable, b.value)).rule b.value) (λ b. (goal.LpSolver-dyn g (b.vtable, b.value)).paths b.value) xs seen)

pub returns-in_err-lp-clause-valid : goal.returns-in_err-lp-clause-valid
returns-in_err-lp-clause-valid g c =
    let rules = map (λ b. (goal.LpSolver-dyn g (b.vtable, b.value)).rule b.value) c.args.solvers.now.items in
    let answers = c.args.run.now.answers.items in
    let events = c.args.run.now.events.items in
    unless-any {F = Frac} {A = Unit {0}} (c.from_residual.result) (ShowsValidEvents frac_value (2 ^ 127 - 1) rules answers events events) (valid-nothing frac_value (2 ^ 127 - 1) rules answers events events refl)

pub solve_program-requires-clause-there : goal.solve_program-requires-clause-there
solve_program-requires-clause-there g c = c.requires.chosen (some-there c.args.solvers.now (sym c.is_empty.ensures ∙ c.if-is_empty.false))

pub returns-clause-solvers : goal.returns-clause-solvers
returns-clause-solvers g c =
    solves-answered frac_value (2 ^ 127 - 1) _ _ _ _ c.args.s.at c.args.s.model _ c.args.s.objective c.in_ok-lp.lp _ _ c.in_ok-solve_program.ensures.solves (λ b. (goal.LpSolver-dyn g (b.vtable, b.value)).name b.value) (λ b. (goal.LpSolver-dyn g (b.vtable, b.value)).rule b.value) (λ b. (goal.LpSolver-dyn g (b.vtable, b.value)).paths b.value) c.args.solvers.now.items c.solve_program.new.solvers.items refl refl refl c.in_ok-solve_program.ensures.names c.in_ok-solve_program.ensures.rules

pub returns-in_err-solve_program-clause-solvers : goal.returns-in_err-solve_program-clause-solvers
returns-in_err-solve_program-clause-solvers g c =
    let p = err_from_is_err_and c.from_residual-in_err-solve_program.result c.from_residual-in_err-solve_program.ensures.1 in
    rw (p.1, p.2) tt

pub returns-in_err-solve_program-clause-valid : goal.returns-in_err-solve_program-clause-valid
returns-in_err-solve_program-clause-valid g c =
    let p = err_from_is_err_and c.from_residual-in_err-solve_program.result c.from_residual-in_err-solve_program.ensures.1 in
    rw (p.1, p.2) tt
