use Rattle.std.proofs.lemmas.Result.{err_from_is_err_and}
use Rattle.gms_host.specs.Meaning.{Outside}
use Rattle.std.proofs.Common.{◌+◌, Err, ap, ◌∙◌}
use Rattle.gms_host.proofs.Counting.{reading_more}
use Rattle.gms_run.proofs.CallResults.{reading_err}
use Rattle.gms_run.proofs.Transfers.{file_unopened, reads_file}
use Rattle.gms_run.proofs.transfer.read_file.Goals as goal

pub read_most-requires-clause-open : goal.read_most-requires-clause-open
read_most-requires-clause-open g c = ap (λ (o : Outside). o.reading) c.in_ok-open_in.ensures.outside.2

pub returns-in_err-open_in-clause-outside : goal.returns-in_err-open_in-clause-outside
returns-in_err-open_in-clause-outside g c =
    let p = err_from_is_err_and c.from_residual.result c.from_residual.ensures.1 in
    file_unopened (c.args.most + 1) c.from_residual.result c.in_err-open_in.field-0.0 _ _ c.args.file.now (p.1 ∙ ap (λ e. Err e) p.2) c.in_err-open_in.ensures.outside

pub returns-in_err-open_in-clause-counts : goal.returns-in_err-open_in-clause-counts
returns-in_err-open_in-clause-counts g c =
    let p = err_from_is_err_and c.from_residual.result c.from_residual.ensures.1 in
    rw (p.1, p.2) (reading_err c.in_err-open_in.field-0.0 c.in_err-open_in.ensures.counts)

pub returns-clause-outside : goal.returns-clause-outside
returns-clause-outside g c = reads_file (c.args.most + 1) c.read_most.result _ _ _ c.args.file.now c.in_ok-open_in.ensures.outside c.read_most.ensures.outside

pub returns-clause-counts : goal.returns-clause-counts
returns-clause-counts g c = reading_more _ (λ t. tt) c.in_ok-open_in.ensures.counts c.read_most.ensures.counts
