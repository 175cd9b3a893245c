use Rattle.std.proofs.Common.{◌^◌, ◌-◌, length, map}
use Rattle.gq_frac.specs.Frac.{frac_value}
use Rattle.gq_frac.specs.declared.frac.Frac.{Frac}
use Rattle.gms_exec.specs.Executing.{CanExecute, Leaves, run_view}
use Rattle.gms_exec.specs.ValidEvents.{ShowsValidEvents}
use Rattle.gms_exec.specs.Stepping.{RunView, Answered}
use Rattle.gms_exec.proofs.Acts.{ran-Solve, lent-runs, kept}
use Rattle.gms_exec.proofs.Arms.{unless-all, unless-any, answered-quiet}
use Rattle.gms_exec.proofs.statement.once.Goals as goal

-- ---- without a solve

pub returns-in_default-clause-runs : goal.returns-in_default-clause-runs
returns-in_default-clause-runs g c =
    let answers = c.args.run.now.answers.items in
    lent-runs frac_value (2 ^ 127 - 1) (λ b. (goal.LpSolver-dyn g (b.vtable, b.value)).name b.value) c.args.program.now c.as_slice.result.now c.args.solvers.now.items c.without_solving.result c.args.s.now c.args.b.now
    (run_view c.args.run.now) (record { state = c.without_solving.new.store; events = c.without_solving.new.events.items; answers = answers }) c.as_slice.ensures.value (c.without_solving.ensures.runs answers)

pub returns-in_default-clause-leaves : goal.returns-in_default-clause-leaves
returns-in_default-clause-leaves g c =
    let xs = c.args.solvers.now.items in
    let rules = map (λ b. (goal.LpSolver-dyn g (b.vtable, b.value)).rule b.value) xs in
    let statements = c.args.program.now.statements.items in
    let answers = c.args.run.now.answers.items in
    let old : RunView Frac = run_view c.args.run.now in
    let new : RunView Frac = record { state = c.without_solving.new.store; events = c.without_solving.new.events.items; answers = answers } in
    let answered_so = Answered frac_value (2 ^ 127 - 1) (λ b. (goal.LpSolver-dyn g (b.vtable, b.value)).name b.value) (λ b. (goal.LpSolver-dyn g (b.vtable, b.value)).rule b.value) (λ b. (goal.LpSolver-dyn g (b.vtable, b.value)).paths b.value) xs xs old new in
    let valid_so = ShowsValidEvents frac_value (2 ^ 127 - 1) rules answers c.args.run.now.events.items c.without_solving.new.events.items in
    unless-all {F = Frac} {A = Unit {0}} c.without_solving.result answered_so valid_so (CanExecute (length xs) statements new.state) (Leaves frac_value (2 ^ 127 - 1) (λ b. (goal.LpSolver-dyn g (b.vtable, b.value)).name b.value) (λ b. (goal.LpSolver-dyn g (b.vtable, b.value)).rule b.value) (λ b. (goal.LpSolver-dyn g (b.vtable, b.value)).paths b.value) statements xs xs old new)
    (λ answered valid can_execute. record { answered = answered; valid = valid; can_execute = can_execute })
    (unless-any {F = Frac} {A = Unit {0}} c.without_solving.result answered_so (answered-quiet frac_value (2 ^ 127 - 1) (λ b. (goal.LpSolver-dyn g (b.vtable, b.value)).name b.value) (λ b. (goal.LpSolver-dyn g (b.vtable, b.value)).rule b.value) (λ b. (goal.LpSolver-dyn g (b.vtable, b.value)).paths b.value) xs old new c.without_solving.ensures.quiet))
    (unless-any {F = Frac} {A = Unit {0}} c.without_solving.result valid_so (c.without_solving.ensures.valid rules answers))
    (kept frac_value (2 ^ 127 - 1) (λ b. (goal.LpSolver-dyn g (b.vtable, b.value)).name b.value) c.args.program.now xs c.without_solving.result c.args.s.now c.args.b.now old new c.requires.no_loop
    (lent-runs frac_value (2 ^ 127 - 1) (λ b. (goal.LpSolver-dyn g (b.vtable, b.value)).name b.value) c.args.program.now c.as_slice.result.now xs c.without_solving.result c.args.s.now c.args.b.now old new c.as_slice.ensures.value (c.without_solving.ensures.runs answers)) c.requires.can_execute)

-- ---- a solve

pub solve_model-requires-clause-chosen : goal.solve_model-requires-clause-chosen
solve_model-requires-clause-chosen g c = c.requires.can_execute.settings.chosen

pub solve_model-requires-clause-plain : goal.solve_model-requires-clause-plain
solve_model-requires-clause-plain g c = c.requires.can_execute.plain.plain

pub returns-clause-runs : goal.returns-clause-runs
returns-clause-runs g c =
    ran-Solve frac_value (2 ^ 127 - 1) (record { program = c.args.program.now; solvers = map (λ b. (goal.LpSolver-dyn g (b.vtable, b.value)).name b.value) c.args.solvers.now.items }) c.args.s.now c.args.b.now c.solve_model.result _ _ _ _
    (run_view c.args.run.now) (run_view c.solve_model.new.run) c.in-Solve.is c.solve_model.ensures.runs

pub returns-clause-leaves : goal.returns-clause-leaves
returns-clause-leaves g c =
    let xs = c.args.solvers.now.items in
    let ys = c.solve_model.new.solvers.items in
    let rules = map (λ b. (goal.LpSolver-dyn g (b.vtable, b.value)).rule b.value) xs in
    let statements = c.args.program.now.statements.items in
    let old : RunView Frac = run_view c.args.run.now in
    let new : RunView Frac = run_view c.solve_model.new.run in
    unless-all {F = Frac} {A = Unit {0}} c.solve_model.result (Answered frac_value (2 ^ 127 - 1) (λ b. (goal.LpSolver-dyn g (b.vtable, b.value)).name b.value) (λ b. (goal.LpSolver-dyn g (b.vtable, b.value)).rule b.value) (λ b. (goal.LpSolver-dyn g (b.vtable, b.value)).paths b.value) xs ys old new) (ShowsValidEvents frac_value (2 ^ 127 - 1) rules new.answers old.events new.events) (CanExecute (length xs) statements new.state) (Leaves frac_value (2 ^ 127 - 1) (λ b. (goal.LpSolver-dyn g (b.vtable, b.value)).name b.value) (λ b. (goal.LpSolver-dyn g (b.vtable, b.value)).rule b.value) (λ b. (goal.LpSolver-dyn g (b.vtable, b.value)).paths b.value) statements xs ys old new)
    (λ answered valid can_execute. record { answered = answered; valid = valid; can_execute = can_execute })
    c.solve_model.ensures.solvers c.solve_model.ensures.valid
    (kept frac_value (2 ^ 127 - 1) (λ b. (goal.LpSolver-dyn g (b.vtable, b.value)).name b.value) c.args.program.now xs c.solve_model.result c.args.s.now c.args.b.now old new c.requires.no_loop
    (ran-Solve frac_value (2 ^ 127 - 1) (record { program = c.args.program.now; solvers = map (λ b. (goal.LpSolver-dyn g (b.vtable, b.value)).name b.value) xs }) c.args.s.now c.args.b.now c.solve_model.result _ _ _ _ old new c.in-Solve.is c.solve_model.ensures.runs) c.requires.can_execute)
