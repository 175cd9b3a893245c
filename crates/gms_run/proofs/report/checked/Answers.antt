-- Errors are listed, or the program is run.
use Rattle.std.proofs.Common.{◌++◌, ◌∙◌, List, ap, map, refl, subst, ℕ}
use Rattle.std.specs.List.{All}
use Rattle.std.specs.Prelude.{string_bytes}
use Rattle.std.proofs.lemmas.List.{length-map}
use Rattle.std.proofs.lemmas.Result.{err_from_is_err_and}
use Rattle.gms_host.proofs.Counting.{writing_none}
use Rattle.gms_exec.specs.Stepping.{AreValidSettings}
use Rattle.gms_command.specs.CommandLine.{asked_by}
use Rattle.lp_slot.specs.SolverNames.{IsSolverName}
use Rattle.gms_run.specs.declared.status.Status.TheVariants.{Compile}
use Rattle.gms_run.specs.InnerReports.{script_in}
use Rattle.gms_run.specs.Scripts.{errors_of_script, scripted}
use Rattle.gms_run.specs.Solving.{solving}
use Rattle.gms_run.proofs.Beginning.{first_origin, first_plain, first_settings}
use Rattle.gms_run.proofs.CallResults.{writing_memory}
use Rattle.gms_run.proofs.Reports.{lists_as, lists_none, nothing_follows, prepares_errors}
use Rattle.gms_run.proofs.report.checked.Goals as goal

pub begin-requires : goal.begin-requires
begin-requires g c =
    let script = script_in c.args.script c.args.run.now.progress.store in
    let names = map (λ b. (goal.LpSolver-dyn g (b.vtable, b.value)).name b.value) c.args.solvers.now.items in
    let errors = errors_of_script script.saved script.line c.args.program.now names in
    let none = lists_none c.in_ok-has_errors.field-0 errors script c.args.run.now.outlet.listing c.has_errors.new.listing c.if-branch.false (lists_as (λ b. (goal.LpSolver-dyn g (b.vtable, b.value)).name b.value) c.as_slice.result.now c.args.solvers.now.items c.in_ok-has_errors.field-0 (script_in c.args.script c.args.run.now.progress.store) c.args.program.now c.args.run.now.outlet.listing c.has_errors.new.listing c.as_slice.ensures.value (c.in_ok-has_errors.ensures.listed c.args.run.now.progress.store)) in
    (names, none.0)

pub execute-requires-clause-can_execute : goal.execute-requires-clause-can_execute
execute-requires-clause-can_execute g c =
    let script = script_in c.args.script c.args.run.now.progress.store in
    let names = map (λ b. (goal.LpSolver-dyn g (b.vtable, b.value)).name b.value) c.args.solvers.now.items in
    let errors = errors_of_script script.saved script.line c.args.program.now names in
    let none = lists_none c.in_ok-has_errors.field-0 errors script c.args.run.now.outlet.listing c.has_errors.new.listing c.if-branch.false (lists_as (λ b. (goal.LpSolver-dyn g (b.vtable, b.value)).name b.value) c.as_slice.result.now c.args.solvers.now.items c.in_ok-has_errors.field-0 (script_in c.args.script c.args.run.now.progress.store) c.args.program.now c.args.run.now.outlet.listing c.has_errors.new.listing c.as_slice.ensures.value (c.in_ok-has_errors.ensures.listed c.args.run.now.progress.store)) in
    record {
      settings = subst (λ (n : ℕ). AreValidSettings n c.begin.new.store.settings) (length-map c.args.solvers.now.items (λ b. (goal.LpSolver-dyn g (b.vtable, b.value)).name b.value)) (first_settings names script.source script.line script.saved c.args.program.now c.begin.new.store c.in_ok-begin.ensures c.requires.sound);
      plain = first_plain names script c.args.program.now c.begin.new.store c.in_ok-begin.ensures (record { is_program = c.requires.is_program; no_error = none.0 }) c.requires.sound;
    }

pub execute-requires-clause-fresh : goal.execute-requires-clause-fresh
execute-requires-clause-fresh g c =
    let script = script_in c.args.script c.args.run.now.progress.store in
    let names = map (λ b. (goal.LpSolver-dyn g (b.vtable, b.value)).name b.value) c.args.solvers.now.items in
    let errors = errors_of_script script.saved script.line c.args.program.now names in
    let none = lists_none c.in_ok-has_errors.field-0 errors script c.args.run.now.outlet.listing c.has_errors.new.listing c.if-branch.false (lists_as (λ b. (goal.LpSolver-dyn g (b.vtable, b.value)).name b.value) c.as_slice.result.now c.args.solvers.now.items c.in_ok-has_errors.field-0 (script_in c.args.script c.args.run.now.progress.store) c.args.program.now c.args.run.now.outlet.listing c.has_errors.new.listing c.as_slice.ensures.value (c.in_ok-has_errors.ensures.listed c.args.run.now.progress.store)) in
    let fresh = c.requires.fresh in
    record {
      start = record { unanswered = fresh.start.unanswered; unsolved = fresh.start.unsolved };
      unlisted = ap (λ t. c.args.run.now.outlet.spool ++ t) none.1 ∙ fresh.unlisted;
      silent = fresh.silent;
    }

pub returns-in_err-has_errors-clause-outside : goal.returns-in_err-has_errors-clause-outside
returns-in_err-has_errors-clause-outside g c =
    let p = err_from_is_err_and c.from_residual.result c.from_residual.ensures.1 in
    rw (p.1, p.2) tt

pub returns-in_err-has_errors-clause-counts : goal.returns-in_err-has_errors-clause-counts
returns-in_err-has_errors-clause-counts g c =
    let p = err_from_is_err_and c.from_residual.result c.from_residual.ensures.1 in
    rw (p.1, p.2) (writing_memory _ _)

pub returns-then-branch-clause-outside : goal.returns-then-branch-clause-outside
returns-then-branch-clause-outside g c =
    prepares_errors (solving (λ b. (goal.LpSolver-dyn g (b.vtable, b.value)).name b.value) (λ b. (goal.LpSolver-dyn g (b.vtable, b.value)).rule b.value) (λ b. (goal.LpSolver-dyn g (b.vtable, b.value)).paths b.value) c.args.solvers.now.items c.args.solvers.now.items c.args.run.now.progress.answers.items) (g.H.Host.meaning c.args.host.now).outside (script_in c.args.script c.args.run.now.progress.store) c.args.program.now c.in_ok-has_errors.field-0 c.args.run.now.outlet.spool c.args.run.now.outlet.listing c.has_errors.new.listing c.requires.is_program c.if-branch.true
    (lists_as (λ b. (goal.LpSolver-dyn g (b.vtable, b.value)).name b.value) c.as_slice.result.now c.args.solvers.now.items c.in_ok-has_errors.field-0 (script_in c.args.script c.args.run.now.progress.store) c.args.program.now c.args.run.now.outlet.listing c.has_errors.new.listing c.as_slice.ensures.value (c.in_ok-has_errors.ensures.listed c.args.run.now.progress.store)) (c.requires.fresh.start.unanswered, refl) c.requires.fresh.unlisted

pub returns-then-branch-clause-follows : goal.returns-then-branch-clause-follows
returns-then-branch-clause-follows g c =
    nothing_follows Compile (solving (λ b. (goal.LpSolver-dyn g (b.vtable, b.value)).name b.value) (λ b. (goal.LpSolver-dyn g (b.vtable, b.value)).rule b.value) (λ b. (goal.LpSolver-dyn g (b.vtable, b.value)).paths b.value) c.args.solvers.now.items c.args.solvers.now.items c.args.run.now.progress.answers.items) (asked_by c.args.request) (scripted (script_in c.args.script c.args.run.now.progress.store)) (string_bytes c.args.run.now.remarks) c.args.run.now.save.items refl c.requires.fresh.silent

pub returns-then-branch-clause-counts : goal.returns-then-branch-clause-counts
returns-then-branch-clause-counts g c = writing_none _ _

pub returns-in_err-begin-clause-outside : goal.returns-in_err-begin-clause-outside
returns-in_err-begin-clause-outside g c =
    let p = err_from_is_err_and c.from_residual-in_err-begin.result c.from_residual-in_err-begin.ensures.1 in
    rw (p.1, p.2) tt

pub returns-in_err-begin-clause-counts : goal.returns-in_err-begin-clause-counts
returns-in_err-begin-clause-counts g c =
    let p = err_from_is_err_and c.from_residual-in_err-begin.result c.from_residual-in_err-begin.ensures.1 in
    rw (p.1, p.2) (writing_memory _ _)

pub returns-clause-outside : goal.returns-clause-outside
returns-clause-outside g c =
    let script = script_in c.args.script c.args.run.now.progress.store in
    let names = map (λ b. (goal.LpSolver-dyn g (b.vtable, b.value)).name b.value) c.args.solvers.now.items in
    let errors = errors_of_script script.saved script.line c.args.program.now names in
    let none = lists_none c.in_ok-has_errors.field-0 errors script c.args.run.now.outlet.listing c.has_errors.new.listing c.if-branch.false (lists_as (λ b. (goal.LpSolver-dyn g (b.vtable, b.value)).name b.value) c.as_slice.result.now c.args.solvers.now.items c.in_ok-has_errors.field-0 (script_in c.args.script c.args.run.now.progress.store) c.args.program.now c.args.run.now.outlet.listing c.has_errors.new.listing c.as_slice.ensures.value (c.in_ok-has_errors.ensures.listed c.args.run.now.progress.store)) in
    c.execute.ensures.outside c.args.run.now.progress.store (record { accepted = record { is_program = c.requires.is_program; no_error = none.0 }; named = subst (λ (boxes : List _). All IsSolverName (map (λ b. (goal.LpSolver-dyn g (b.vtable, b.value)).name b.value) boxes)) c.as_slice.ensures.value c.in_ok-has_errors.ensures.named; origin = first_origin names script.source script.line script.saved c.requires.sound; first = c.in_ok-begin.ensures })

pub returns-clause-follows : goal.returns-clause-follows
returns-clause-follows g c =
    let script = script_in c.args.script c.args.run.now.progress.store in
    let names = map (λ b. (goal.LpSolver-dyn g (b.vtable, b.value)).name b.value) c.args.solvers.now.items in
    let errors = errors_of_script script.saved script.line c.args.program.now names in
    let none = lists_none c.in_ok-has_errors.field-0 errors script c.args.run.now.outlet.listing c.has_errors.new.listing c.if-branch.false (lists_as (λ b. (goal.LpSolver-dyn g (b.vtable, b.value)).name b.value) c.as_slice.result.now c.args.solvers.now.items c.in_ok-has_errors.field-0 (script_in c.args.script c.args.run.now.progress.store) c.args.program.now c.args.run.now.outlet.listing c.has_errors.new.listing c.as_slice.ensures.value (c.in_ok-has_errors.ensures.listed c.args.run.now.progress.store)) in
    c.execute.ensures.follows c.args.run.now.progress.store (record { accepted = record { is_program = c.requires.is_program; no_error = none.0 }; named = subst (λ (boxes : List _). All IsSolverName (map (λ b. (goal.LpSolver-dyn g (b.vtable, b.value)).name b.value) boxes)) c.as_slice.ensures.value c.in_ok-has_errors.ensures.named; origin = first_origin names script.source script.line script.saved c.requires.sound; first = c.in_ok-begin.ensures })

pub returns-clause-counts : goal.returns-clause-counts
returns-clause-counts g c = c.execute.ensures.counts
