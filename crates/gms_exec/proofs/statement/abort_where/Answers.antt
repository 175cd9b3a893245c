use Rattle.std.proofs.Common.{◌∙◌, ap, refl, if◌then◌else◌, option_map}
use Rattle.std.specs.Prelude.{option_copied}
use Rattle.std.proofs.lemmas.Result.{err_from_is_err_and}
use Rattle.gms_ast.specs.TreeView.{tree_of}
use Rattle.gms_eval.specs.Holds.{holds}
use Rattle.gms_exec.specs.Run.{with_evaluated, abort, abort_where}
use Rattle.gms_exec.specs.Stepping.{course_from_view}
use Rattle.gms_exec.proofs.Arms.{runs-alike, runs-nothing, runs-value_stops}
use Rattle.gms_exec.proofs.ValidSequences.{valid-nothing}
use Rattle.gms_exec.proofs.statement.abort_where.Goals as goal

pub returns-in_default-clause-runs : goal.returns-in_default-clause-runs
returns-in_default-clause-runs g c answers =
    let v = g.F.ExactField.value in
    let limit = g.F.ExactField.limit in
    let items = c.args.items.now in
    let b = c.args.b.now in
    runs-alike v c.abort.result (abort_where v limit c.args.labels (option_map tree_of (option_copied c.args.condition)) items c.args.at b) (abort v limit c.args.labels items c.args.at b) (record { state = c.args.store.now; events = c.args.events.now.items; answers = answers }) (record { state = c.args.store.now; events = c.abort.new.events.items; answers = answers })
    (λ left. ap (λ condition. abort_where v limit c.args.labels (option_map tree_of (option_copied condition)) items c.args.at b (course_from_view v (record { state = c.args.store.now; events = c.args.events.now.items; answers = answers }) left)) c.in_default.is)
    (c.abort.ensures.runs answers)

pub returns-in_err-holds-clause-runs : goal.returns-in_err-holds-clause-runs
returns-in_err-holds-clause-runs g c answers =
    let v = g.F.ExactField.value in
    let limit = g.F.ExactField.limit in
    let items = c.args.items.now in
    let b = c.args.b.now in
    let p = err_from_is_err_and c.from_residual.result c.from_residual.ensures.1 in
    rw (p.1, p.2) (runs-value_stops v c.in_err-holds.field-0.0 (abort_where v limit c.args.labels (option_map tree_of (option_copied c.args.condition)) items c.args.at b) (record { state = c.args.store.now; events = c.args.events.now.items; answers = answers }) (holds v limit c.args.store.now b (tree_of c.in-Some.condition.now)) (λ course so. if so then abort v limit c.args.labels items c.args.at b course else course) c.in_err-holds.ensures
    (λ left. ap (λ condition. abort_where v limit c.args.labels (option_map tree_of (option_copied condition)) items c.args.at b (course_from_view v (record { state = c.args.store.now; events = c.args.events.now.items; answers = answers }) left)) c.in-Some.is))

pub returns-then-branch-clause-runs : goal.returns-then-branch-clause-runs
returns-then-branch-clause-runs g c answers =
    let v = g.F.ExactField.value in
    let limit = g.F.ExactField.limit in
    let items = c.args.items.now in
    let b = c.args.b.now in
    runs-alike v c.abort-then-branch.result (abort_where v limit c.args.labels (option_map tree_of (option_copied c.args.condition)) items c.args.at b) (abort v limit c.args.labels items c.args.at b) (record { state = c.args.store.now; events = c.args.events.now.items; answers = answers }) (record { state = c.args.store.now; events = c.abort-then-branch.new.events.items; answers = answers })
    (λ left.
    let course = course_from_view v (record { state = c.args.store.now; events = c.args.events.now.items; answers = answers }) left in
    ap (λ condition. abort_where v limit c.args.labels (option_map tree_of (option_copied condition)) items c.args.at b course) c.in-Some.is
    ∙ ap (λ answer. with_evaluated answer (λ so. if so then abort v limit c.args.labels items c.args.at b course else course) course) c.in_ok-holds.ensures
    ∙ ap (λ so. if so then abort v limit c.args.labels items c.args.at b course else course) c.if-branch.true)
    (c.abort-then-branch.ensures.runs answers)

pub returns-else-branch-clause-runs : goal.returns-else-branch-clause-runs
returns-else-branch-clause-runs g c answers =
    let v = g.F.ExactField.value in
    let limit = g.F.ExactField.limit in
    let items = c.args.items.now in
    let b = c.args.b.now in
    runs-nothing v tt (abort_where v limit c.args.labels (option_map tree_of (option_copied c.args.condition)) items c.args.at b) (record { state = c.args.store.now; events = c.args.events.now.items; answers = answers })
    (λ left.
    let course = course_from_view v (record { state = c.args.store.now; events = c.args.events.now.items; answers = answers }) left in
    ap (λ condition. abort_where v limit c.args.labels (option_map tree_of (option_copied condition)) items c.args.at b course) c.in-Some.is
    ∙ ap (λ answer. with_evaluated answer (λ so. if so then abort v limit c.args.labels items c.args.at b course else course) course) c.in_ok-holds.ensures
    ∙ ap (λ so. if so then abort v limit c.args.labels items c.args.at b course else course) c.if-branch.false)

pub returns-in_err-holds-clause-valid : goal.returns-in_err-holds-clause-valid
returns-in_err-holds-clause-valid g c rules answers =
    valid-nothing g.F.ExactField.value g.F.ExactField.limit rules answers c.args.events.now.items c.args.events.now.items refl

pub returns-else-branch-clause-valid : goal.returns-else-branch-clause-valid
returns-else-branch-clause-valid g c rules answers =
    valid-nothing g.F.ExactField.value g.F.ExactField.limit rules answers c.args.events.now.items c.args.events.now.items refl
