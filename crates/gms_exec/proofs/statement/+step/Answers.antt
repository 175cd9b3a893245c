use Rattle.std.proofs.Common.{length, ◌∙◌, ◌≡◌, ◌<◌, ◌^◌, ◌-◌, ℕ, [], map, ap, refl, subst, sym, append-nil, arith, Ok}
use Rattle.std.proofs.lemmas.Result.{err_from_is_err_and}
use Rattle.gq_frac.specs.Frac.{frac_value}
use Rattle.gq_frac.specs.declared.frac.Frac.{Frac}
use Rattle.gms_ast.specs.declared.program.Stmt.{size-Stmt}
use Rattle.gms_ast.specs.TreeView.{control_tree}
use Rattle.gms_eval.proofs.Inner.{inner-controlled}
use Rattle.gms_eval.proofs.Shapes.{tree-sets}
use Rattle.gms_eval.specs.Bindings.{controlled}
use Rattle.gms_eval.specs.Value.{domain, sets_of}
use Rattle.gms_exec.specs.Run.{with_evaluated, for_each}
use Rattle.gms_exec.specs.Executing.{CanExecute, run_view}
use Rattle.gms_exec.specs.Stepping.{RunView, course_from_view}
use Rattle.gms_exec.proofs.ActSteps.{on-Loop}
use Rattle.gms_exec.proofs.BodyDepths.{item-less_deep}
use Rattle.gms_exec.proofs.Arms.{runs-value_stops, runs-memory}
use Rattle.gms_exec.proofs.Joining.{reaches-memory}
use Rattle.gms_exec.proofs.Loops.{step_of, left-many, leaves-nothing, between-start, between-end, within-start, within-more, within-failed, within-left, within-end}
use Rattle.gms_exec.proofs.statement.+step.Goals as goal
use Rattle.gms_exec.specs.contracts.statement.step.dyn-1 as dyn

pub once-requires : goal.once-requires
once-requires g t c = record { no_loop = c.in_default.not-Loop; few = c.requires.few; can_execute = c.requires.can_execute }

pub returns-in_default : goal.returns-in_default
returns-in_default g t c =
    let call = c.once.ensures in
    record { runs = call.runs; leaves = call.leaves }

pub returns-in_err-elements : goal.returns-in_err-elements
returns-in_err-elements g t c =
    let old : RunView Frac = record { state = c.args.run.now.store; events = c.args.run.now.events.items; answers = c.args.run.now.answers.items } in
    let control = c.in-Loop.control in
    let names = map (λ b. (dyn.members g.dyn-1 (b.vtable, b.value)).name b.value) c.args.solvers.now.items in
    let p = err_from_is_err_and c.from_residual.result c.from_residual.ensures.1 in
    let left = leaves-nothing frac_value (2 ^ 127 - 1) (λ b. (dyn.members g.dyn-1 (b.vtable, b.value)).name b.value) (λ b. (dyn.members g.dyn-1 (b.vtable, b.value)).rule b.value) (λ b. (dyn.members g.dyn-1 (b.vtable, b.value)).paths b.value) c.args.program.now c.from_residual.result c.args.solvers.now.items old c.requires.can_execute in
    record {
      runs = rw (p.1, p.2) (runs-value_stops frac_value c.in_err-elements.field-0.0 (step_of frac_value (2 ^ 127 - 1) c.args.program.now names c.args.s.now c.args.b.now) old (domain frac_value (2 ^ 127 - 1) c.args.run.now.store c.args.b.now c.args.s.now.at (control_tree control)) (λ course elements. for_each (sets_of (control_tree control)) (map (step_of frac_value (2 ^ 127 - 1) c.args.program.now names) c.in-Loop.body.items) elements c.args.b.now course) c.in_err-elements.ensures
          (λ rest. on-Loop frac_value (2 ^ 127 - 1) (record { program = c.args.program.now; solvers = names }) c.args.s.now c.args.b.now (course_from_view frac_value old rest) control c.in-Loop.body c.in-Loop.is));
      leaves = left;
    }

pub returns-in_err-inner : goal.returns-in_err-inner
returns-in_err-inner g t c =
    let p = err_from_is_err_and c.from_residual-in_err-inner.result c.from_residual-in_err-inner.ensures.1 in
    rw (p.1, p.2) (record { runs = runs-memory frac_value _ _ _ _ [] refl refl (sym (append-nil c.args.run.now.answers.items)); leaves = tt })

pub loop-element-init : goal.loop-element-init
loop-element-init g t c =
    let old : RunView Frac = record { state = c.args.run.now.store; events = c.args.run.now.events.items; answers = c.args.run.now.answers.items } in
    let control = c.in-Loop.control in
    let sets = sets_of (control_tree control) in
    let names = map (λ b. (dyn.members g.dyn-1 (b.vtable, b.value)).name b.value) c.args.solvers.now.items in
    between-start frac_value (2 ^ 127 - 1) _ _ _ c.args.program.now _ sets c.args.b.now c.in-Loop.body.items c.deref-element-items.result.now c.args.solvers.now.items old c.in_ok-inner.inner c.in_ok-inner.ensures
    (λ rest. on-Loop frac_value (2 ^ 127 - 1) (record { program = c.args.program.now; solvers = names }) c.args.s.now c.args.b.now (course_from_view frac_value old rest) control c.in-Loop.body c.in-Loop.is
    ∙ ap (λ answer. with_evaluated answer (λ elements. for_each sets (map (step_of frac_value (2 ^ 127 - 1) c.args.program.now names) c.in-Loop.body.items) elements c.args.b.now (course_from_view frac_value old rest)) (course_from_view frac_value old rest)) (c.in_ok-elements.ensures ∙ ap Ok (sym c.deref-element-items.ensures.value)))
    c.requires.can_execute

pub returns-in_err-control : goal.returns-in_err-control
returns-in_err-control g t c =
    let p = err_from_is_err_and c.from_residual-in_err-control.result c.from_residual-in_err-control.ensures.1 in
    rw (p.1, p.2) (record { runs = reaches-memory frac_value _ _ _ _ _ refl c.loop-element.invariant.reached; leaves = tt })

pub loop-statement-init : goal.loop-statement-init
loop-statement-init g t c =
    let between = c.loop-element.invariant in
    within-start _ _ _ _ _ c.args.program.now _ _ _ _ _ _ _ c.loop-element.element-index c.element-item.result c.loop-element.inner _ c.control.new.self _ _ between c.loop-element-test.true c.element-item.is
    (inner-controlled c.args.b.now c.loop-element.inner c.control.new.self c.as_slice.result.now c.element-item.result c.as_slice-in-loop-element.result.now c.len.result between.outer c.len.ensures c.as_slice-in-loop-element.ensures.value c.in_ok-control.ensures
    ∙ ap (λ sets. controlled c.args.b.now sets c.element-item.result) (c.as_slice.ensures ∙ sym (tree-sets c.in-Loop.control)))
    refl

pub step-requires : goal.step-requires
step-requires g t c =
    let left = c.loop-statement.invariant.left in
    let many = left-many frac_value (2 ^ 127 - 1) (λ b. (dyn.members g.dyn-1 (b.vtable, b.value)).name b.value) (λ b. (dyn.members g.dyn-1 (b.vtable, b.value)).rule b.value) (λ b. (dyn.members g.dyn-1 (b.vtable, b.value)).paths b.value) c.args.program.now c.args.solvers.now.items c.loop-statement.solvers.items (run_view c.args.run.now) (run_view c.loop-statement.run) left in
    let in_it = rw c.deref-statement-items.ensures.value at c.loop-statement-test.true in
    let is = rw c.deref-statement-items.ensures.value at c.statement-item.is in
    let less : size-Stmt Frac c.statement-item.result < size-Stmt Frac c.args.s.now = item-less_deep c.args.s.now c.in-Loop.control c.in-Loop.body c.loop-statement.statement-index c.statement-item.result c.in-Loop.is in_it is in
    let whole : size-Stmt Frac c.args.s.now ≡ t = c.decreases in
    let falls : size-Stmt Frac c.statement-item.result < t = omega arith in
    let few : length c.loop-statement.solvers.items < 2 ^ 32 = subst (λ (n : ℕ). n < 2 ^ 32) (sym many) c.requires.few in
    let can_execute : CanExecute (length c.loop-statement.solvers.items) c.args.program.now.statements.items c.loop-statement.run.store = subst (λ (n : ℕ). CanExecute n c.args.program.now.statements.items c.loop-statement.run.store) (sym many) left.can_execute in
    (falls, (few, can_execute))

pub returns-in_err-step : goal.returns-in_err-step
returns-in_err-step g t c =
    let within = c.loop-statement.invariant in
    let call = c.in_err-step.ensures in
    let p = err_from_is_err_and c.from_residual-in_err-step.result c.from_residual-in_err-step.ensures.1 in
    let in_it = rw c.deref-statement-items.ensures.value at c.loop-statement-test.true in
    let is = rw c.deref-statement-items.ensures.value at c.statement-item.is in
    let left = within-left _ _ _ _ _ c.args.program.now _ _ _ _ _ _ _ (Unit {0}) c.in_err-step.field-0.0 _ _ _ _ _ _ _ _ _ within call.runs call.leaves in
    rw (p.1, p.2) (record {
      runs = within-failed _ _ _ _ _ c.args.program.now _ _ _ _ _ _ _ c.in_err-step.field-0.0 _ _ _ _ _ _ _ _ _ within in_it is refl call.runs;
      leaves = left;
    })

pub loop-statement-preserved : goal.loop-statement-preserved
loop-statement-preserved g t c =
    let call = c.in_ok-step.ensures in
    let in_it = rw c.deref-statement-items.ensures.value at c.loop-statement-test.true in
    let is = rw c.deref-statement-items.ensures.value at c.statement-item.is in
    within-more _ _ _ _ _ c.args.program.now _ _ _ _ _ _ _ tt _ _ _ _ _ _ _ _ _ _ c.loop-statement.invariant in_it is refl call.runs call.leaves

pub loop-element-preserved : goal.loop-element-preserved
loop-element-preserved g t c =
    within-end _ _ _ _ _ c.args.program.now _ _ _ _ _ _ _ _ _ _ _ _ _ _ c.loop-statement.invariant (rw c.deref-statement-items.ensures.value at c.loop-statement-test.false) refl

pub returns : goal.returns
returns g t c =
    let left = c.loop-element.invariant.left in
    record { runs = between-end _ _ _ _ _ c.args.program.now _ _ _ _ _ _ _ tt _ _ _ _ c.loop-element.invariant c.loop-element-test.false; leaves = left }
