use Rattle.std.proofs.Common.{◌≡◌, ◌+◌, ◌*◌, ◌<◌, ◌∙◌, ap, sym, map, arith}
use denote.Param.Weighed.{most}
use Rattle.gms_ast.specs.declared.program.Stmt.{size-Stmt}
use Rattle.std.specs.Prelude.{flat_map}
use Rattle.gms_scope.specs.Facts.{with_marks}
use Rattle.gms_store.specs.State.{base_of}
use Rattle.gms_scope.specs.DynamicSets.{assigned_names}
use Rattle.gms_scope.proofs.Assigned.{assigned-Loop, marks-step}
use Rattle.gms_scope.proofs.BodyDepths.{body-less_deep}
use Rattle.gms_scope.proofs.dynamic.+assigned.Goals as goal

pub mark_assigned-loop-statement-preserved : goal.mark_assigned-loop-statement-preserved
mark_assigned-loop-statement-preserved g t c =
    marks-step (base_of c.args.store.now) assigned_names c.args.statements.now c.loop-statement.statement-index c.statement-item.result _ _ _ c.loop-statement-test.true c.statement-item.is c.loop-statement.invariant c.mark_statement.ensures

pub mark_statement-returns-in-Loop : goal.mark_statement-returns-in-Loop
mark_statement-returns-in-Loop g t c =
    c.mark_assigned.ensures
    ∙ ap (λ statements. with_marks c.args.marks.now (map (base_of c.args.store.now) (flat_map assigned_names statements))) c.deref.ensures.value
    ∙ ap (λ names. with_marks c.args.marks.now (map (base_of c.args.store.now) names)) (sym (assigned-Loop c.args.statement.now c.in-Loop.control c.in-Loop.body c.in-Loop.is))

pub mark_statement-mark_assigned-requires : goal.mark_statement-mark_assigned-requires
mark_statement-mark_assigned-requires g t c κs within =
    let less : most (size-Stmt g.row.F.Denot) c.in-Loop.body.items < size-Stmt g.row.F.Denot c.args.statement.now = body-less_deep c.args.statement.now c.in-Loop.control c.in-Loop.body c.in-Loop.is in
    let same = ap (most (size-Stmt g.row.F.Denot)) c.deref.ensures.value in
    let whole : 2 * size-Stmt g.row.F.Denot c.args.statement.now + 0 ≡ t = c.decreases in
    let falls : 2 * most (size-Stmt g.row.F.Denot) c.deref.result.now + 1 < t = omega arith in
    (falls, within)
