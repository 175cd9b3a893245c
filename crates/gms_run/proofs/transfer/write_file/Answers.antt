-- The file was opened, written and closed, or how far that came.
use Rattle.std.proofs.Common.{◌∙◌, ap, inl, inr}
use Rattle.std.proofs.lemmas.Result.{err_from_is_err_and}
use Rattle.gms_host.specs.Meaning.{Outside}
use Rattle.gms_host.proofs.Counting.{writing_more}
use Rattle.gms_run.proofs.CallResults.{comes_broken, writing_err, writing_failed}
use Rattle.gms_run.proofs.Transfers.{closes_file, unwritten_file}
use Rattle.gms_run.proofs.transfer.write_file.Goals as goal

pub write_all-requires : goal.write_all-requires
write_all-requires g c = ap (λ (o : Outside). o.writing) c.in_ok-open_out.ensures.outside

pub close_out-requires : goal.close_out-requires
close_out-requires g c = ap (λ (o : Outside). o.writing) c.in_ok-write_all.ensures.outside ∙ ap (λ (o : Outside). o.writing) c.in_ok-open_out.ensures.outside

pub returns-in_err-open_out-clause-outside : goal.returns-in_err-open_out-clause-outside
returns-in_err-open_out-clause-outside g c =
    let p = err_from_is_err_and c.from_residual.result c.from_residual.ensures.1 in
    rw (p.1, p.2) (comes_broken _ c.in_err-open_out.field-0.0 (inl c.in_err-open_out.ensures.outside))

pub returns-in_err-open_out-clause-counts : goal.returns-in_err-open_out-clause-counts
returns-in_err-open_out-clause-counts g c =
    let p = err_from_is_err_and c.from_residual.result c.from_residual.ensures.1 in
    rw (p.1, p.2) (writing_err c.in_err-open_out.field-0.0 c.in_err-open_out.ensures.counts)

pub returns-in_err-write_all-clause-outside : goal.returns-in_err-write_all-clause-outside
returns-in_err-write_all-clause-outside g c =
    let p = err_from_is_err_and c.from_residual-in_err-write_all.result c.from_residual-in_err-write_all.ensures.1 in
    rw (p.1, p.2) (comes_broken _ c.in_err-write_all.field-0.0 (inr (inl (unwritten_file (g.H.Host.meaning c.args.host.now).outside (g.H.Host.meaning c.open_out.new.self).outside (g.H.Host.meaning c.write_all.new.host).outside c.args.file.now c.args.bytes.now c.in_ok-open_out.ensures.outside c.in_err-write_all.ensures.outside))))

pub returns-in_err-write_all-clause-counts : goal.returns-in_err-write_all-clause-counts
returns-in_err-write_all-clause-counts g c =
    let p = err_from_is_err_and c.from_residual-in_err-write_all.result c.from_residual-in_err-write_all.ensures.1 in
    rw (p.1, p.2) (writing_failed _ _ c.in_err-write_all.field-0.0 c.in_ok-open_out.ensures.counts c.in_err-write_all.ensures.counts)

pub returns-clause-outside : goal.returns-clause-outside
returns-clause-outside g c = closes_file c.close_out.result (g.H.Host.meaning c.args.host.now).outside (g.H.Host.meaning c.open_out.new.self).outside (g.H.Host.meaning c.write_all.new.host).outside (g.H.Host.meaning c.close_out.new.self).outside c.args.file.now c.args.bytes.now c.in_ok-open_out.ensures.outside c.in_ok-write_all.ensures.outside c.close_out.ensures.outside

pub returns-clause-counts : goal.returns-clause-counts
returns-clause-counts g c = writing_more _ c.in_ok-open_out.ensures.counts (writing_more _ c.in_ok-write_all.ensures.counts c.close_out.ensures.counts)
