use Rattle.std.proofs.Common.{map, refl}
use Rattle.gms_exec.proofs.Acts.{ran-Assign, ran-Display, ran-Options, ran-Abort, ran-nothing}
use Rattle.gms_exec.proofs.Arms.{no-solve_nothing}
use Rattle.gms_exec.proofs.ValidSequences.{valid-nothing}
use Rattle.gms_exec.proofs.statement.without_solving.Goals as goal

pub returns-in-Assign-clause-runs : goal.returns-in-Assign-clause-runs
returns-in-Assign-clause-runs g c answers =
    ran-Assign g.F.ExactField.value g.F.ExactField.limit (record { program = c.args.program.now; solvers = map (λ b. (goal.LpSolver-dyn g (b.vtable, b.value)).name b.value) c.args.solvers.now }) c.args.s.now c.args.b.now c.assign.result c.in-Assign.target c.in-Assign.condition _ c.in-Assign.right_at c.in-Assign.right c.args.store.now c.assign.new.store c.args.events.now.items answers c.in-Assign.is c.as_ref-condition.ensures.value c.assign.ensures

pub returns-in-Assign-clause-quiet : goal.returns-in-Assign-clause-quiet
returns-in-Assign-clause-quiet g c = no-solve_nothing c.args.events.now.items c.args.events.now.items refl

pub returns-in-Assign-clause-valid : goal.returns-in-Assign-clause-valid
returns-in-Assign-clause-valid g c rules answers =
    valid-nothing g.F.ExactField.value g.F.ExactField.limit rules answers c.args.events.now.items c.args.events.now.items refl

pub returns-in-Display-clause-runs : goal.returns-in-Display-clause-runs
returns-in-Display-clause-runs g c answers =
    ran-Display g.F.ExactField.value g.F.ExactField.limit (record { program = c.args.program.now; solvers = map (λ b. (goal.LpSolver-dyn g (b.vtable, b.value)).name b.value) c.args.solvers.now }) c.args.s.now c.args.b.now c.show.result c.in-Display.items c.as_slice.result.now c.len-labels.result
    (record { state = c.args.store.now; events = c.args.events.now.items; answers = answers }) (record { state = c.args.store.now; events = c.show.new.events.items; answers = answers }) c.in-Display.is c.as_slice.ensures c.len-labels.ensures.len (c.show.ensures.runs answers)

pub returns-in-Options-clause-runs : goal.returns-in-Options-clause-runs
returns-in-Options-clause-runs g c answers =
    ran-Options g.F.ExactField.value g.F.ExactField.limit (record { program = c.args.program.now; solvers = map (λ b. (goal.LpSolver-dyn g (b.vtable, b.value)).name b.value) c.args.solvers.now }) c.args.s.now c.args.b.now tt c.in-Options.settings c.as_slice-in-Options.result.now c.args.store.now c.set_options.new.store c.args.events.now.items answers c.in-Options.is c.as_slice-in-Options.ensures c.set_options.ensures

pub returns-in-Options-clause-quiet : goal.returns-in-Options-clause-quiet
returns-in-Options-clause-quiet g c = no-solve_nothing c.args.events.now.items c.args.events.now.items refl

pub returns-in-Options-clause-valid : goal.returns-in-Options-clause-valid
returns-in-Options-clause-valid g c rules answers =
    valid-nothing g.F.ExactField.value g.F.ExactField.limit rules answers c.args.events.now.items c.args.events.now.items refl

pub returns-in-Abort-clause-runs : goal.returns-in-Abort-clause-runs
returns-in-Abort-clause-runs g c answers =
    ran-Abort g.F.ExactField.value g.F.ExactField.limit (record { program = c.args.program.now; solvers = map (λ b. (goal.LpSolver-dyn g (b.vtable, b.value)).name b.value) c.args.solvers.now }) c.args.s.now c.args.b.now c.abort_where.result c.in-Abort.condition _ c.in-Abort.items c.as_slice-items.result.now c.len-labels.result
    (record { state = c.args.store.now; events = c.args.events.now.items; answers = answers }) (record { state = c.args.store.now; events = c.abort_where.new.events.items; answers = answers }) c.in-Abort.is c.as_ref-condition-in-Abort.ensures.value c.as_slice-items.ensures c.len-labels.ensures.len (c.abort_where.ensures.runs answers)

pub returns-in_default : goal.returns-in_default
returns-in_default g c =
    let events = c.args.events.now.items in
    record {
      runs = λ answers. ran-nothing g.F.ExactField.value g.F.ExactField.limit (record { program = c.args.program.now; solvers = map (λ b. (goal.LpSolver-dyn g (b.vtable, b.value)).name b.value) c.args.solvers.now }) c.args.s.now c.args.b.now c.requires.no_loop c.requires.no_solve c.in_default.not-Assign c.in_default.not-Display c.in_default.not-Options c.in_default.not-Abort tt (record { state = c.args.store.now; events = events; answers = answers });
      quiet = no-solve_nothing events events refl;
      valid = λ rules answers. valid-nothing g.F.ExactField.value g.F.ExactField.limit rules answers events events refl;
    }
