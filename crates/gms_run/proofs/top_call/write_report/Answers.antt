-- The output is opened, the listing written, the output closed, and the closing lines said.
use Rattle.std.proofs.Common.{ap, refl, sym, subst, ◌∙◌}
use Rattle.std.specs.Prelude.{string_bytes}
use Rattle.std.proofs.lemmas.Result.{err_from_is_err_and}
use Rattle.gms_host.specs.Meaning.{Outside}
use Rattle.gms_host.proofs.Counting.{writing_done, writing_more}
use Rattle.gms_command.specs.CommandLine.{asked_by}
use Rattle.gms_run.specs.InnerReports.{loaded_input_in}
use Rattle.gms_run.specs.Listings.{SavesSo}
use Rattle.gms_run.specs.Solving.{solving}
use Rattle.gms_run.proofs.CallResults.{comes_broken, comes_err, writing_err, writing_failed, writing_memory}
use Rattle.gms_run.proofs.Reports.{are_closing, counted}
use Rattle.gms_run.proofs.Runs.{reported, unclosed, unopened, unsaid, unsaved, unwritten}
use Rattle.gms_run.proofs.top_call.write_report.Goals as goal

pub report-requires-clause-open : goal.report-requires-clause-open
report-requires-clause-open g c = ap (λ (o : Outside). o.writing) c.in_ok-open_out.ensures.outside

pub close_out-requires : goal.close_out-requires
close_out-requires g c = ap (λ (o : Outside). o.writing) (c.in_ok-status.ensures.outside.written) ∙ ap (λ (o : Outside). o.writing) c.in_ok-open_out.ensures.outside

pub returns-in_err-open_out-clause-outside : goal.returns-in_err-open_out-clause-outside
returns-in_err-open_out-clause-outside g c =
    let p = err_from_is_err_and c.from_residual.result c.from_residual.ensures.1 in
    rw (p.1, p.2) (comes_broken _ c.in_err-open_out.field-0.0 (unopened (solving (λ b. (goal.LpSolver-dyn g (b.vtable, b.value)).name b.value) (λ b. (goal.LpSolver-dyn g (b.vtable, b.value)).rule b.value) (λ b. (goal.LpSolver-dyn g (b.vtable, b.value)).paths b.value) c.args.solvers.now.items c.args.solvers.now.items c.args.run.now.progress.answers.items) (g.H.Host.meaning c.args.host.now).outside (g.H.Host.meaning c.open_out.new.self).outside (asked_by c.args.request) (loaded_input_in c.args.loaded_input c.args.run.now.progress.store) c.args.output.now c.in_err-open_out.field-0.0 c.requires.named (c.requires.fresh.start.unanswered, refl) c.in_err-open_out.ensures.outside))

pub returns-in_err-open_out-clause-counts : goal.returns-in_err-open_out-clause-counts
returns-in_err-open_out-clause-counts g c =
    let p = err_from_is_err_and c.from_residual.result c.from_residual.ensures.1 in
    rw (p.1, p.2) (writing_err c.in_err-open_out.field-0.0 c.in_err-open_out.ensures.counts)

pub returns-in_err-status-clause-outside : goal.returns-in_err-status-clause-outside
returns-in_err-status-clause-outside g c =
    let p = err_from_is_err_and c.from_residual-in_err-status.result c.from_residual-in_err-status.ensures.1 in
    rw (p.1, p.2) (comes_err _ _ c.in_err-status.field-0.0 (unwritten (solving (λ b. (goal.LpSolver-dyn g (b.vtable, b.value)).name b.value) (λ b. (goal.LpSolver-dyn g (b.vtable, b.value)).rule b.value) (λ b. (goal.LpSolver-dyn g (b.vtable, b.value)).paths b.value) c.args.solvers.now.items c.report.new.solvers.items c.report.new.run.progress.answers.items) (g.H.Host.meaning c.args.host.now).outside (g.H.Host.meaning c.open_out.new.self).outside (g.H.Host.meaning c.report.new.host).outside (asked_by c.args.request) (loaded_input_in c.args.loaded_input c.args.run.now.progress.store) c.args.output.now c.requires.named c.in_ok-open_out.ensures.outside) c.in_err-status.ensures.outside)

pub returns-in_err-status-clause-counts : goal.returns-in_err-status-clause-counts
returns-in_err-status-clause-counts g c =
    let p = err_from_is_err_and c.from_residual-in_err-status.result c.from_residual-in_err-status.ensures.1 in
    rw (p.1, p.2) (writing_failed _ _ c.in_err-status.field-0.0 c.in_ok-open_out.ensures.counts c.in_err-status.ensures.counts)

pub returns-in_err-close_out-clause-outside : goal.returns-in_err-close_out-clause-outside
returns-in_err-close_out-clause-outside g c =
    let p = err_from_is_err_and c.from_residual-in_err-close_out.result c.from_residual-in_err-close_out.ensures.1 in
    rw (p.1, p.2) (comes_broken _ c.in_err-close_out.field-0.0 (unclosed c.in_ok-status.status (solving (λ b. (goal.LpSolver-dyn g (b.vtable, b.value)).name b.value) (λ b. (goal.LpSolver-dyn g (b.vtable, b.value)).rule b.value) (λ b. (goal.LpSolver-dyn g (b.vtable, b.value)).paths b.value) c.args.solvers.now.items c.report.new.solvers.items c.report.new.run.progress.answers.items) (g.H.Host.meaning c.args.host.now).outside (g.H.Host.meaning c.open_out.new.self).outside (g.H.Host.meaning c.report.new.host).outside (asked_by c.args.request) (loaded_input_in c.args.loaded_input c.args.run.now.progress.store) c.args.output.now c.requires.named c.in_ok-open_out.ensures.outside c.in_ok-status.ensures.outside (g.H.Host.meaning c.close_out.new.self).outside c.in_err-close_out.field-0.0 c.in_err-close_out.ensures.outside))

pub returns-in_err-close_out-clause-counts : goal.returns-in_err-close_out-clause-counts
returns-in_err-close_out-clause-counts g c =
    let p = err_from_is_err_and c.from_residual-in_err-close_out.result c.from_residual-in_err-close_out.ensures.1 in
    rw (p.1, p.2) (writing_failed _ _ c.in_err-close_out.field-0.0 (writing_more _ c.in_ok-open_out.ensures.counts c.in_ok-status.ensures.counts) c.in_err-close_out.ensures.counts)

pub returns-in_err-write_save-clause-outside : goal.returns-in_err-write_save-clause-outside
returns-in_err-write_save-clause-outside g c =
    let bytes = c.as_slice.ensures.value in
    let p = err_from_is_err_and c.from_residual-in_err-write_save.result c.from_residual-in_err-write_save.ensures.1 in
    rw (p.1, p.2) (comes_err _ _ c.in_err-write_save.field-0.0 (λ lost. unsaved c.in_ok-status.status (solving (λ b. (goal.LpSolver-dyn g (b.vtable, b.value)).name b.value) (λ b. (goal.LpSolver-dyn g (b.vtable, b.value)).rule b.value) (λ b. (goal.LpSolver-dyn g (b.vtable, b.value)).paths b.value) c.args.solvers.now.items c.report.new.solvers.items c.report.new.run.progress.answers.items) (g.H.Host.meaning c.args.host.now).outside (g.H.Host.meaning c.open_out.new.self).outside (g.H.Host.meaning c.report.new.host).outside (asked_by c.args.request) (loaded_input_in c.args.loaded_input c.args.run.now.progress.store) c.args.output.now c.requires.named c.in_ok-open_out.ensures.outside c.in_ok-status.ensures.outside (g.H.Host.meaning c.close_out.new.self).outside c.in_ok-close_out.ensures.outside (g.H.Host.meaning c.write_save.new.host).outside c.as_slice.result.now (subst (SavesSo c.in_ok-status.status (solving (λ b. (goal.LpSolver-dyn g (b.vtable, b.value)).name b.value) (λ b. (goal.LpSolver-dyn g (b.vtable, b.value)).rule b.value) (λ b. (goal.LpSolver-dyn g (b.vtable, b.value)).paths b.value) c.args.solvers.now.items c.report.new.solvers.items c.report.new.run.progress.answers.items) (asked_by c.args.request) (loaded_input_in c.args.loaded_input c.args.run.now.progress.store)) (sym bytes) c.in_ok-status.ensures.follows.saves) lost) c.in_err-write_save.ensures.outside)

pub returns-in_err-write_save-clause-counts : goal.returns-in_err-write_save-clause-counts
returns-in_err-write_save-clause-counts g c =
    let p = err_from_is_err_and c.from_residual-in_err-write_save.result c.from_residual-in_err-write_save.ensures.1 in
    rw (p.1, p.2) (writing_failed _ _ c.in_err-write_save.field-0.0 (writing_more _ (writing_more _ c.in_ok-open_out.ensures.counts c.in_ok-status.ensures.counts) c.in_ok-close_out.ensures.counts) c.in_err-write_save.ensures.counts)

pub returns-in_err-push_closing-clause-outside : goal.returns-in_err-push_closing-clause-outside
returns-in_err-push_closing-clause-outside g c =
    let p = err_from_is_err_and c.from_residual-in_err-push_closing.result c.from_residual-in_err-push_closing.ensures.1 in
    rw (p.1, p.2) tt

pub returns-in_err-push_closing-clause-counts : goal.returns-in_err-push_closing-clause-counts
returns-in_err-push_closing-clause-counts g c =
    let p = err_from_is_err_and c.from_residual-in_err-push_closing.result c.from_residual-in_err-push_closing.ensures.1 in
    rw (p.1, p.2) (writing_more _ (writing_more _ c.in_ok-open_out.ensures.counts c.in_ok-status.ensures.counts) (writing_more _ c.in_ok-close_out.ensures.counts (writing_more _ c.in_ok-write_save.ensures.counts (writing_memory _ _))))

pub returns-in_err-say_line-clause-outside : goal.returns-in_err-say_line-clause-outside
returns-in_err-say_line-clause-outside g c =
    let closing =
    are_closing c.in_ok-status.status (solving (λ b. (goal.LpSolver-dyn g (b.vtable, b.value)).name b.value) (λ b. (goal.LpSolver-dyn g (b.vtable, b.value)).rule b.value) (λ b. (goal.LpSolver-dyn g (b.vtable, b.value)).paths b.value) c.args.solvers.now.items c.report.new.solvers.items c.report.new.run.progress.answers.items) (asked_by c.args.request) (loaded_input_in c.args.loaded_input c.args.run.now.progress.store) (string_bytes c.report.new.run.remarks) c.as_bytes.result.now c.args.output.now c.len.result c.in_ok-status.ensures.follows.remarks c.requires.named (counted c.report.new.run.progress.answers c.len.result c.len.ensures)
    (c.as_bytes.ensures.value ∙ c.as_str.ensures.value ∙ c.in_ok-push_closing.ensures) in
    let bytes = c.as_slice.ensures.value in
    let p = err_from_is_err_and c.from_residual-in_err-say_line.result c.from_residual-in_err-say_line.ensures.1 in
    rw (p.1, p.2) (comes_broken _ c.in_err-say_line.field-0.0 (unsaid c.in_ok-status.status (solving (λ b. (goal.LpSolver-dyn g (b.vtable, b.value)).name b.value) (λ b. (goal.LpSolver-dyn g (b.vtable, b.value)).rule b.value) (λ b. (goal.LpSolver-dyn g (b.vtable, b.value)).paths b.value) c.args.solvers.now.items c.report.new.solvers.items c.report.new.run.progress.answers.items) (g.H.Host.meaning c.args.host.now).outside (g.H.Host.meaning c.open_out.new.self).outside (g.H.Host.meaning c.report.new.host).outside (asked_by c.args.request) (loaded_input_in c.args.loaded_input c.args.run.now.progress.store) c.args.output.now c.requires.named c.in_ok-open_out.ensures.outside c.in_ok-status.ensures.outside (g.H.Host.meaning c.close_out.new.self).outside c.in_ok-close_out.ensures.outside (g.H.Host.meaning c.write_save.new.host).outside c.as_slice.result.now (subst (SavesSo c.in_ok-status.status (solving (λ b. (goal.LpSolver-dyn g (b.vtable, b.value)).name b.value) (λ b. (goal.LpSolver-dyn g (b.vtable, b.value)).rule b.value) (λ b. (goal.LpSolver-dyn g (b.vtable, b.value)).paths b.value) c.args.solvers.now.items c.report.new.solvers.items c.report.new.run.progress.answers.items) (asked_by c.args.request) (loaded_input_in c.args.loaded_input c.args.run.now.progress.store)) (sym bytes) c.in_ok-status.ensures.follows.saves) c.in_ok-write_save.ensures.outside c.as_bytes.result.now closing (g.H.Host.meaning c.say_line.new.host).outside c.in_err-say_line.ensures.outside))

pub returns-in_err-say_line-clause-counts : goal.returns-in_err-say_line-clause-counts
returns-in_err-say_line-clause-counts g c =
    let p = err_from_is_err_and c.from_residual-in_err-say_line.result c.from_residual-in_err-say_line.ensures.1 in
    rw (p.1, p.2) (writing_failed _ _ c.in_err-say_line.field-0.0 (writing_more _ (writing_more _ (writing_more _ c.in_ok-open_out.ensures.counts c.in_ok-status.ensures.counts) c.in_ok-close_out.ensures.counts) c.in_ok-write_save.ensures.counts) c.in_err-say_line.ensures.counts)

pub returns-clause-outside : goal.returns-clause-outside
returns-clause-outside g c =
    let closing =
    are_closing c.in_ok-status.status (solving (λ b. (goal.LpSolver-dyn g (b.vtable, b.value)).name b.value) (λ b. (goal.LpSolver-dyn g (b.vtable, b.value)).rule b.value) (λ b. (goal.LpSolver-dyn g (b.vtable, b.value)).paths b.value) c.args.solvers.now.items c.report.new.solvers.items c.report.new.run.progress.answers.items) (asked_by c.args.request) (loaded_input_in c.args.loaded_input c.args.run.now.progress.store) (string_bytes c.report.new.run.remarks) c.as_bytes.result.now c.args.output.now c.len.result c.in_ok-status.ensures.follows.remarks c.requires.named (counted c.report.new.run.progress.answers c.len.result c.len.ensures)
    (c.as_bytes.ensures.value ∙ c.as_str.ensures.value ∙ c.in_ok-push_closing.ensures) in
    let bytes = c.as_slice.ensures.value in
    reported c.in_ok-status.status (solving (λ b. (goal.LpSolver-dyn g (b.vtable, b.value)).name b.value) (λ b. (goal.LpSolver-dyn g (b.vtable, b.value)).rule b.value) (λ b. (goal.LpSolver-dyn g (b.vtable, b.value)).paths b.value) c.args.solvers.now.items c.report.new.solvers.items c.report.new.run.progress.answers.items) (g.H.Host.meaning c.args.host.now).outside (g.H.Host.meaning c.open_out.new.self).outside (g.H.Host.meaning c.report.new.host).outside (asked_by c.args.request) (loaded_input_in c.args.loaded_input c.args.run.now.progress.store) c.args.output.now c.requires.named c.in_ok-open_out.ensures.outside c.in_ok-status.ensures.outside (g.H.Host.meaning c.close_out.new.self).outside c.in_ok-close_out.ensures.outside (g.H.Host.meaning c.write_save.new.host).outside c.as_slice.result.now (subst (SavesSo c.in_ok-status.status (solving (λ b. (goal.LpSolver-dyn g (b.vtable, b.value)).name b.value) (λ b. (goal.LpSolver-dyn g (b.vtable, b.value)).rule b.value) (λ b. (goal.LpSolver-dyn g (b.vtable, b.value)).paths b.value) c.args.solvers.now.items c.report.new.solvers.items c.report.new.run.progress.answers.items) (asked_by c.args.request) (loaded_input_in c.args.loaded_input c.args.run.now.progress.store)) (sym bytes) c.in_ok-status.ensures.follows.saves) c.in_ok-write_save.ensures.outside c.as_bytes.result.now closing (g.H.Host.meaning c.say_line.new.host).outside c.in_ok-say_line.ensures.outside

pub returns-clause-counts : goal.returns-clause-counts
returns-clause-counts g c = writing_more _ (writing_more _ c.in_ok-open_out.ensures.counts c.in_ok-status.ensures.counts) (writing_more _ c.in_ok-close_out.ensures.counts (writing_more _ c.in_ok-write_save.ensures.counts (writing_done _ _ c.in_ok-say_line.ensures.counts)))
