use Rattle.std.proofs.Common.{◌≡◌, ℕ, ◌+◌, ◌*◌, ◌<◌, ◌∙◌, ap, sym, List, arith}
use Rattle.std.specs.Prelude.{flat_map}
use denote.Param.Weighed.{most}
use Rattle.std.proofs.lemmas.List.{take_all}
use Rattle.gq_frac.specs.declared.frac.Frac.{Frac}
use Rattle.gms_labels.specs.declared.place.Place.{Place}
use Rattle.gms_ast.specs.declared.program.Stmt.{Stmt, size-Stmt}
use Rattle.gms_check.specs.Errors.{first_error}
use Rattle.gms_save.specs.JointErrors.{restarts_at, targets}
use Rattle.gms_save.specs.InnerRestartChecks.{fixed_by}
use Rattle.gms_save.proofs.LoopDepths.{body-less_deep}
use Rattle.gms_save.proofs.Restarts.{first-more, targets-Assign, targets-Loop, targets-other}
use Rattle.gms_save.proofs.restart.RestartCheck.+targets.Goals as goal

pub target_error-returns-in-Assign : goal.target_error-returns-in-Assign
target_error-returns-in-Assign t c =
    let a = c.in-Assign in
    c.target_error_at.ensures ∙ ap (λ (names : List (Place × ℕ)). first_error (restarts_at (fixed_by c.args.self.now) names)) (sym (targets-Assign c.args.statement.now a.target a.condition a.right_at a.right a.is))

pub target_error-returns-in-Loop : goal.target_error-returns-in-Loop
target_error-returns-in-Loop t c =
    let errors = λ (names : List (Place × ℕ)). first_error (restarts_at (fixed_by c.args.self.now) names) in
    c.target_error_among.ensures
    ∙ ap (λ (body : List (Stmt Frac)). first_error (restarts_at (fixed_by c.args.self.now) (flat_map targets body))) c.deref.ensures.value
    ∙ ap errors (sym (targets-Loop c.args.statement.now c.in-Loop.control c.in-Loop.body c.in-Loop.is))

pub target_error-returns-in_default : goal.target_error-returns-in_default
target_error-returns-in_default t c =
    ap (λ (names : List (Place × ℕ)). first_error (restarts_at (fixed_by c.args.self.now) names)) (sym (targets-other c.args.statement.now c.in_default.not-Assign c.in_default.not-Loop))

pub target_error-target_error_among-requires : goal.target_error-target_error_among-requires
target_error-target_error_among-requires t c =
    let less : most (size-Stmt Frac) c.in-Loop.body.items < size-Stmt Frac c.args.statement.now = body-less_deep c.args.statement.now c.in-Loop.control c.in-Loop.body c.in-Loop.is in
    let same = ap (most (size-Stmt Frac)) c.deref.ensures.value in
    let whole : 2 * size-Stmt Frac c.args.statement.now + 0 ≡ t = c.decreases in
    let falls : 2 * most (size-Stmt Frac) c.deref.result.now + 1 < t = omega arith in
    (falls, tt)

pub target_error_among-loop-statement-preserved : goal.target_error_among-loop-statement-preserved
target_error_among-loop-statement-preserved t c =
    first-more (fixed_by c.args.self.now) targets c.args.statements.now c.loop-statement.statement-index c.statement-item.result c.loop-statement.first c.sooner-first.result c.target_error.result c.loop-statement-test.true c.statement-item.is c.loop-statement.invariant c.target_error.ensures c.sooner-first.ensures

pub target_error_among-returns : goal.target_error_among-returns
target_error_among-returns t c =
    c.loop-statement.invariant
    ∙ ap (λ (statements : List (Stmt Frac)). first_error (restarts_at (fixed_by c.args.self.now) (flat_map targets statements))) (take_all c.loop-statement.statement-index c.args.statements.now c.loop-statement-test.false)
