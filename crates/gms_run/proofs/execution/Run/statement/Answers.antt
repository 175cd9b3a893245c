use Rattle.std.proofs.Common.{◌++◌, ◌∙◌, [], map, ap}
use Rattle.gq_frac.specs.Frac.{frac_value, frac_limit}
use Rattle.gms_eval.specs.Gives.{fault_of}
use Rattle.gms_event.specs.Events.{stops}
use Rattle.gms_event.specs.EventView.{events_in}
use Rattle.lp_core.specs.Numbers.{answer_numbers}
use Rattle.gms_exec.proofs.EarlierEvents.{after_statement}
use Rattle.gms_exec.specs.Run.{of_statement}
use Rattle.gms_list.specs.ListingText.{event_text, events_text}
use Rattle.gms_run.specs.InnerRuns.{between}
use Rattle.gms_run.specs.Solving.{solver_views}
use Rattle.gms_run.proofs.Executed.{all_occur, all_listable, listed_on, listed_stop}
use Rattle.gms_run.proofs.Paths.{extended_answered}
use Rattle.gms_run.proofs.execution.Run.statement.Goals as goal

pub show-requires : goal.show-requires
show-requires g c =
    let rules = map (λ b. (goal.LpSolver-dyn g (b.vtable, b.value)).rule b.value) c.args.solvers.now.items in
    let answers = c.step_alone-stepped.new.run.answers.items in
    let events = c.step_alone-stepped.new.run.events.items in
    rw (c.as_slice-answers.ensures.value, c.replace-events.ensures.value)
    (all_listable rules answers events (all_occur rules answers c.clear.new.self.items events c.clear.ensures.items c.in-Ok.ensures.leaves.valid))

pub returns-in_ok-show-in-Ok-clause-listed : goal.returns-in_ok-show-in-Ok-clause-listed
returns-in_ok-show-in-Ok-clause-listed g c =
    let program = c.args.program.now in
    let names = map (λ b. (goal.LpSolver-dyn g (b.vtable, b.value)).name b.value) c.args.solvers.now.items in
    let rules = map (λ b. (goal.LpSolver-dyn g (b.vtable, b.value)).rule b.value) c.args.solvers.now.items in
    let answers = c.step_alone-stepped.new.run.answers.items in
    let events = c.step_alone-stepped.new.run.events.items in
    let before = c.args.self.now.outlet.listing in
    listed_on c.args.keep program rules (of_statement frac_value frac_limit (record { program = program; solvers = names }) c.args.s.now []) (between (solver_views (λ b. (goal.LpSolver-dyn g (b.vtable, b.value)).name b.value) (λ b. (goal.LpSolver-dyn g (b.vtable, b.value)).rule b.value) (λ b. (goal.LpSolver-dyn g (b.vtable, b.value)).paths b.value) c.args.solvers.now.items) c.args.self.now)
    (record { state = c.step_alone-stepped.new.run.store; answers = answers; programs = c.show.new.solved.items; solvers = (solver_views (λ b. (goal.LpSolver-dyn g (b.vtable, b.value)).name b.value) (λ b. (goal.LpSolver-dyn g (b.vtable, b.value)).rule b.value) (λ b. (goal.LpSolver-dyn g (b.vtable, b.value)).paths b.value) c.step_alone-stepped.new.solvers.items) }) events
    (λ beginning course. after_statement frac_value frac_limit (record { program = program; solvers = names }) c.args.s.now beginning [] course)
    c.in-Ok.field-0 c.clear.new.self.items before c.show.new.listing c.clear.ensures.items
    c.in-Ok.ensures.runs
    (all_occur rules answers c.clear.new.self.items events c.clear.ensures.items c.in-Ok.ensures.leaves.valid)
    (extended_answered (λ b. (goal.LpSolver-dyn g (b.vtable, b.value)).name b.value) (λ b. (goal.LpSolver-dyn g (b.vtable, b.value)).rule b.value) (λ b. (goal.LpSolver-dyn g (b.vtable, b.value)).paths b.value) c.args.solvers.now.items c.step_alone-stepped.new.solvers.items answers
    c.clear.new.self.items events c.clear.ensures.items c.in-Ok.ensures.leaves.answered)
    (rw c.replace-events.ensures.value at c.in_ok-show-in-Ok.ensures.kept)
    ((rw c.replace-events.ensures.value at c.in_ok-show-in-Ok.ensures.listed) ∙ ap (λ all. before ++ events_text program.names program.labels frac_limit (map (answer_numbers frac_value) all) (events_in frac_value events)) c.as_slice-answers.ensures.value)

pub returns-in_ok-show-in-Ok-clause-can_execute : goal.returns-in_ok-show-in-Ok-clause-can_execute
returns-in_ok-show-in-Ok-clause-can_execute g c = c.in-Ok.ensures.leaves.can_execute

pub show-requires-in-Err-Fault : goal.show-requires-in-Err-Fault
show-requires-in-Err-Fault g c =
    let rules = map (λ b. (goal.LpSolver-dyn g (b.vtable, b.value)).rule b.value) c.args.solvers.now.items in
    let answers = c.step_alone-stepped.new.run.answers.items in
    let events = c.step_alone-stepped.new.run.events.items in
    let leaves = rw c.in-Err-Fault.field-0-is at c.in-Err-Fault.ensures.leaves in
    rw (c.as_slice-answers.ensures.value, c.replace-events.ensures.value)
    (all_listable rules answers events (all_occur rules answers c.clear.new.self.items events c.clear.ensures.items leaves.valid))

pub returns-in_ok-list_fault-in-Err-Fault-clause-listed : goal.returns-in_ok-list_fault-in-Err-Fault-clause-listed
returns-in_ok-list_fault-in-Err-Fault-clause-listed g c =
    let program = c.args.program.now in
    let names = map (λ b. (goal.LpSolver-dyn g (b.vtable, b.value)).name b.value) c.args.solvers.now.items in
    let rules = map (λ b. (goal.LpSolver-dyn g (b.vtable, b.value)).rule b.value) c.args.solvers.now.items in
    let answers = c.step_alone-stepped.new.run.answers.items in
    let events = c.step_alone-stepped.new.run.events.items in
    let before = c.args.self.now.outlet.listing in
    let leaves = rw c.in-Err-Fault.field-0-is at c.in-Err-Fault.ensures.leaves in
    listed_stop c.args.keep program rules (of_statement frac_value frac_limit (record { program = program; solvers = names }) c.args.s.now []) (between (solver_views (λ b. (goal.LpSolver-dyn g (b.vtable, b.value)).name b.value) (λ b. (goal.LpSolver-dyn g (b.vtable, b.value)).rule b.value) (λ b. (goal.LpSolver-dyn g (b.vtable, b.value)).paths b.value) c.args.solvers.now.items) c.args.self.now)
    (record { state = c.step_alone-stepped.new.run.store; answers = answers; programs = c.show-in-Err-Fault.new.solved.items; solvers = (solver_views (λ b. (goal.LpSolver-dyn g (b.vtable, b.value)).name b.value) (λ b. (goal.LpSolver-dyn g (b.vtable, b.value)).rule b.value) (λ b. (goal.LpSolver-dyn g (b.vtable, b.value)).paths b.value) c.step_alone-stepped.new.solvers.items) }) events
    (λ beginning course. after_statement frac_value frac_limit (record { program = program; solvers = names }) c.args.s.now beginning [] course)
    c.in-Err-Fault.stop c.clear.new.self.items before c.show-in-Err-Fault.new.listing c.list_fault.new.listing c.clear.ensures.items
    (rw c.in-Err-Fault.field-0-is at c.in-Err-Fault.ensures.runs)
    (all_occur rules answers c.clear.new.self.items events c.clear.ensures.items leaves.valid)
    (extended_answered (λ b. (goal.LpSolver-dyn g (b.vtable, b.value)).name b.value) (λ b. (goal.LpSolver-dyn g (b.vtable, b.value)).rule b.value) (λ b. (goal.LpSolver-dyn g (b.vtable, b.value)).paths b.value) c.args.solvers.now.items c.step_alone-stepped.new.solvers.items answers
    c.clear.new.self.items events c.clear.ensures.items leaves.answered)
    (rw c.replace-events.ensures.value at c.in_ok-show-in-Err-Fault.ensures.kept)
    ((rw c.replace-events.ensures.value at c.in_ok-show-in-Err-Fault.ensures.listed) ∙ ap (λ all. before ++ events_text program.names program.labels frac_limit (map (answer_numbers frac_value) all) (events_in frac_value events)) c.as_slice-answers.ensures.value)
    (c.in_ok-list_fault-in-Err-Fault.ensures
    ∙ ap (λ all. c.show-in-Err-Fault.new.listing ++ event_text program.names program.labels frac_limit (map (answer_numbers frac_value) all) (stops (fault_of frac_value c.in-Err-Fault.stop))) c.as_slice-answers.ensures.value)

pub returns-in_ok-list_fault-in-Err-Fault-clause-can_execute : goal.returns-in_ok-list_fault-in-Err-Fault-clause-can_execute
returns-in_ok-list_fault-in-Err-Fault-clause-can_execute g c =
    let leaves = rw c.in-Err-Fault.field-0-is at c.in-Err-Fault.ensures.leaves in
    leaves.can_execute
