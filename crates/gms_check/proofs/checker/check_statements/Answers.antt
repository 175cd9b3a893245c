use Rattle.std.proofs.Common.{◌≡◌, ◌∙◌, ◌++◌, ◌<◌, ◌≤◌, ap, subst, refl, length, get_or, List, Option}
use Rattle.std.specs.Prelude.{ℕ}
use Rattle.gms_ast.specs.declared.program.Stmt.{Stmt}
use Rattle.gms_scope.specs.Facts.{Facts, first_facts}
use Rattle.gms_check.specs.declared.error.CompileError.{CompileError}
use Rattle.gms_check.specs.InnerChecking.{Checking, known_by, seen}
use Rattle.gms_check.specs.CompileErrors.{statement_error}
use Rattle.gms_check.proofs.PastErrors.{each-all, each-end, each-step, each_from}
use Rattle.gms_check.proofs.checker.check_statements.Goals as goal

pub loop-statement-init : goal.loop-statement-init
loop-statement-init g c = record {
  solvers = refl;
  first = c.requires.first;
  errors = ap (λ (es : List (Option CompileError)). es ++ each_from g.F.ExactField.value (seen c.args.checker.now).solvers (seen c.args.checker.now).facts c.args.program.now.statements.items) c.new-errors.ensures.items ∙ ap (λ (f : Facts). each_from g.F.ExactField.value (seen c.args.checker.now).solvers f c.args.program.now.statements.items) c.requires.facts;
}

pub statement-requires : goal.statement-requires
statement-requires g c = c.loop-statement.invariant.first

pub loop-statement-preserved : goal.loop-statement-preserved
loop-statement-preserved g c =
    let value = g.F.ExactField.value in
    let program = c.args.program.now in
    let solvers = (seen c.args.checker.now).solvers in
    let now = seen c.loop-statement.checker in
    let statement = c.statement-item.result in
    let invariant = c.loop-statement.invariant in
    let ensures = c.in_ok-error.ensures in
    let there : c.loop-statement.statement-index < length program.statements.items = subst (λ (xs : List (Stmt _)). c.loop-statement.statement-index < length xs) c.deref-statement-items.ensures.value c.loop-statement-test.true in
    let is : statement ≡ get_or program.statements.items c.loop-statement.statement-index statement = c.statement-item.is ∙ ap (λ (xs : List (Stmt _)). get_or xs c.loop-statement.statement-index statement) c.deref-statement-items.ensures.value in
    record {
      solvers = ap (λ (u : Checking). u.solvers) ensures.facts ∙ invariant.solvers;
      first = ap (λ (u : Checking). u.first) ensures.facts;
      errors = each-step value solvers program.statements.items c.loop-statement.statement-index statement c.loop-statement.errors.items _ now.facts _ c.in_ok-error.error (each_from value solvers (first_facts program) program.statements.items) there is (ensures.error ∙ ap (λ (s : List (List ℕ)). statement_error (known_by value s now.facts) statement) invariant.solvers) (ap (λ (u : Checking). u.facts) ensures.facts) c.in_ok-push.ensures.items invariant.errors;
    }

pub returns : goal.returns
returns g c =
    let value = g.F.ExactField.value in
    let program = c.args.program.now in
    let solvers = (seen c.args.checker.now).solvers in
    each-end value solvers program.statements.items c.loop-statement.statement-index c.loop-statement.errors.items (seen c.loop-statement.checker).facts (each_from value solvers (first_facts program) program.statements.items) (subst (λ (xs : List (Stmt _)). length xs ≤ c.loop-statement.statement-index) c.deref-statement-items.ensures.value c.loop-statement-test.false) c.loop-statement.invariant.errors ∙ each-all value solvers program
