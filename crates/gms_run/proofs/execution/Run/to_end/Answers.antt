-- The statements, and what follows their listing.
use Rattle.std.proofs.Common.{List, subst, sym}
use Rattle.std.specs.Prelude.{string_bytes}
use Rattle.std.proofs.lemmas.Result.{err_from_is_err_and}
use Rattle.gq_frac.specs.declared.frac.Frac.{Frac}
use Rattle.gq_frac.specs.Frac.{frac_value, frac_limit}
use Rattle.lp_core.specs.declared.answer.Answer.{Answer}
use Rattle.gms_host.proofs.Counting.{writing_done, writing_more}
use Rattle.gms_command.specs.Answered.{AreSomeAnswers}
use Rattle.gms_command.specs.CommandLine.{asked_by}
use Rattle.gms_run.specs.InnerReports.{IsRemarked}
use Rattle.gms_run.specs.Solving.{solving}
use Rattle.gms_run.proofs.CallResults.{comes_err, writing_err, writing_memory}
use Rattle.gms_run.proofs.Reports.{ends_answered}
use Rattle.gms_run.proofs.execution.Run.to_end.Goals as goal

-- each answer is one of the linear program that was kept for it, where the programs were requested
pub remark-requires : goal.remark-requires
remark-requires g c requested =
    subst (λ (given : List (Answer Frac)). AreSomeAnswers frac_value frac_limit c.statements.new.self.solved.items given) (sym c.as_slice-given.ensures.value)
    (ends_answered c.args.request.ranges _ _ (solving (λ b. (goal.LpSolver-dyn g (b.vtable, b.value)).name b.value) (λ b. (goal.LpSolver-dyn g (b.vtable, b.value)).rule b.value) (λ b. (goal.LpSolver-dyn g (b.vtable, b.value)).paths b.value) c.args.solvers.now.items c.statements.new.solvers.items c.statements.new.self.progress.answers.items) _ _ c.in_ok-status.ensures.outside.ends requested)

pub statements-requires-clause-can_execute : goal.statements-requires-clause-can_execute
statements-requires-clause-can_execute g c = c.requires.can_execute

pub statements-requires-clause-unsolved : goal.statements-requires-clause-unsolved
statements-requires-clause-unsolved g c = c.requires.unsolved

pub returns-in_err-status-clause-outside : goal.returns-in_err-status-clause-outside
returns-in_err-status-clause-outside g c state =
    let p = err_from_is_err_and c.from_residual.result c.from_residual.ensures.1 in
    rw (p.1, p.2, ← c.statements_of-list.ensures state) (comes_err _ _ c.in_err-status.field-0.0 (λ u. u) c.in_err-status.ensures.outside)

pub returns-in_err-status-clause-counts : goal.returns-in_err-status-clause-counts
returns-in_err-status-clause-counts g c =
    let p = err_from_is_err_and c.from_residual.result c.from_residual.ensures.1 in
    rw (p.1, p.2) (writing_err c.in_err-status.field-0.0 c.in_err-status.ensures.counts)

pub returns-in_err-text-clause-outside : goal.returns-in_err-text-clause-outside
returns-in_err-text-clause-outside g c state =
    let p = err_from_is_err_and c.from_residual-in_err-text.result c.from_residual-in_err-text.ensures.1 in
    rw (p.1, p.2) tt

pub returns-in_err-text-clause-counts : goal.returns-in_err-text-clause-counts
returns-in_err-text-clause-counts g c =
    let p = err_from_is_err_and c.from_residual-in_err-text.result c.from_residual-in_err-text.ensures.1 in
    rw (p.1, p.2) (writing_more _ c.in_ok-status.ensures.counts (writing_memory _ _))

pub returns-in_err-save-clause-outside : goal.returns-in_err-save-clause-outside
returns-in_err-save-clause-outside g c state =
    let p = err_from_is_err_and c.from_residual-in_err-save.result c.from_residual-in_err-save.ensures.1 in
    rw (p.1, p.2) tt

pub returns-in_err-save-clause-counts : goal.returns-in_err-save-clause-counts
returns-in_err-save-clause-counts g c =
    let p = err_from_is_err_and c.from_residual-in_err-save.result c.from_residual-in_err-save.ensures.1 in
    rw (p.1, p.2) (writing_more _ c.in_ok-status.ensures.counts (writing_memory _ _))

pub returns-clause-outside : goal.returns-clause-outside
returns-clause-outside g c state = rw (← c.statements_of-list.ensures state) c.in_ok-status.ensures.outside

pub returns-clause-remarks : goal.returns-clause-remarks
returns-clause-remarks g c =
    let told : IsRemarked (asked_by c.args.request) c.args.program.now c.statements.new.self.progress.store c.statements.new.self.solved.items c.statements.new.self.progress.answers.items (string_bytes c.in_ok-text.text) = rw (← c.as_slice-given.ensures.value) c.in_ok-text.ensures in
    told

pub returns-clause-counts : goal.returns-clause-counts
returns-clause-counts g c = writing_done _ _ c.in_ok-status.ensures.counts
