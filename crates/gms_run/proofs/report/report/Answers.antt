-- The listing so far, and the last line after it.
use Rattle.std.proofs.Common.{◌++◌, ap, ◌∙◌}
use Rattle.std.proofs.lemmas.Result.{err_from_is_err_and}
use Rattle.gms_host.specs.Meaning.{Outside}
use Rattle.gms_host.proofs.Counting.{writing_done, writing_more}
use Rattle.gms_run.specs.InnerReports.{loaded_input_in}
use Rattle.gms_run.specs.Solving.{solving}
use Rattle.gms_run.proofs.CallResults.{comes_err, writing_err, writing_failed}
use Rattle.gms_run.proofs.Reports.{counted, lists_ended, prefix_ended}
use Rattle.gms_run.proofs.report.report.Goals as goal

pub end-requires : goal.end-requires
end-requires g c = ap (λ (o : Outside). o.writing) c.in_ok-status.ensures.outside.passes.written ∙ c.requires.open

pub returns-in_err-status-clause-outside : goal.returns-in_err-status-clause-outside
returns-in_err-status-clause-outside g c =
    let p = err_from_is_err_and c.from_residual.result c.from_residual.ensures.1 in
    rw (p.1, p.2) (comes_err _ _ c.in_err-status.field-0.0 (λ u. u) c.in_err-status.ensures.outside)

pub returns-in_err-status-clause-counts : goal.returns-in_err-status-clause-counts
returns-in_err-status-clause-counts g c =
    let p = err_from_is_err_and c.from_residual.result c.from_residual.ensures.1 in
    rw (p.1, p.2) (writing_err c.in_err-status.field-0.0 c.in_err-status.ensures.counts)

pub returns-in_err-end-clause-outside : goal.returns-in_err-end-clause-outside
returns-in_err-end-clause-outside g c =
    let p = err_from_is_err_and c.from_residual-in_err-end.result c.from_residual-in_err-end.ensures.1 in
    rw (p.1, p.2) (comes_err _ _ c.in_err-end.field-0.0 (prefix_ended c.in_ok-status.status (solving (λ b. (goal.LpSolver-dyn g (b.vtable, b.value)).name b.value) (λ b. (goal.LpSolver-dyn g (b.vtable, b.value)).rule b.value) (λ b. (goal.LpSolver-dyn g (b.vtable, b.value)).paths b.value) c.args.solvers.now.items c.listed.new.solvers.items c.listed.new.run.progress.answers.items) (g.H.Host.meaning c.args.host.now).outside (g.H.Host.meaning c.listed.new.host).outside (g.H.Host.meaning c.end.new.host).outside (loaded_input_in c.args.loaded_input c.args.run.now.progress.store) (c.listed.new.run.outlet.spool ++ c.listed.new.run.outlet.listing) c.len-solves.result (counted c.listed.new.run.progress.answers c.len-solves.result c.len-solves.ensures) c.in_ok-status.ensures.outside) c.in_err-end.ensures.outside)

pub returns-in_err-end-clause-counts : goal.returns-in_err-end-clause-counts
returns-in_err-end-clause-counts g c =
    let p = err_from_is_err_and c.from_residual-in_err-end.result c.from_residual-in_err-end.ensures.1 in
    rw (p.1, p.2) (writing_failed _ _ c.in_err-end.field-0.0 c.in_ok-status.ensures.counts c.in_err-end.ensures.counts)

pub returns-clause-outside : goal.returns-clause-outside
returns-clause-outside g c =
    lists_ended c.in_ok-status.status (solving (λ b. (goal.LpSolver-dyn g (b.vtable, b.value)).name b.value) (λ b. (goal.LpSolver-dyn g (b.vtable, b.value)).rule b.value) (λ b. (goal.LpSolver-dyn g (b.vtable, b.value)).paths b.value) c.args.solvers.now.items c.listed.new.solvers.items c.listed.new.run.progress.answers.items) (g.H.Host.meaning c.args.host.now).outside (g.H.Host.meaning c.listed.new.host).outside (g.H.Host.meaning c.end.new.host).outside (loaded_input_in c.args.loaded_input c.args.run.now.progress.store) (c.listed.new.run.outlet.spool ++ c.listed.new.run.outlet.listing) c.len-solves.result (counted c.listed.new.run.progress.answers c.len-solves.result c.len-solves.ensures) c.in_ok-status.ensures.outside c.in_ok-end.ensures.outside

pub returns-clause-counts : goal.returns-clause-counts
returns-clause-counts g c = writing_more _ c.in_ok-status.ensures.counts (writing_done _ _ c.in_ok-end.ensures.counts)
