use Rattle.std.proofs.Common.{◌≡◌, ◌++◌, ap, sym, ◌∙◌, subst, append_assoc}
use Rattle.std.proofs.lemmas.Result.{err_from_is_err_and}
use Rattle.gms_host.specs.Spooling.{Passes, WritesPrefix}
use Rattle.gms_host.proofs.Counting.{writing_more}
use Rattle.gms_list.specs.ListingText.{end_text}
use Rattle.gms_run.specs.ProgramsToRun.{status_code}
use Rattle.gms_run.proofs.CallResults.{comes_broken, comes_flushed, writing_memory}
use Rattle.gms_run.proofs.outlet.Outlet.end.Goals as goal

pub returns-in_err-close-clause-outside : goal.returns-in_err-close-clause-outside
returns-in_err-close-clause-outside g c =
    let p = err_from_is_err_and c.from_residual.result c.from_residual.ensures.1 in
    rw (p.1, p.2) tt

pub returns-in_err-close-clause-counts : goal.returns-in_err-close-clause-counts
returns-in_err-close-clause-counts g c =
    let p = err_from_is_err_and c.from_residual.result c.from_residual.ensures.1 in
    rw (p.1, p.2) (writing_memory _ _)

pub returns-in_err-pass-clause-outside : goal.returns-in_err-pass-clause-outside
returns-in_err-pass-clause-outside g c =
    let p = err_from_is_err_and c.from_residual-in_err-pass.result c.from_residual-in_err-pass.ensures.1 in
    let whole : c.args.self.now.spool ++ c.close.new.self ≡ c.args.self.now.spool ++ c.args.self.now.listing ++ end_text (status_code c.args.status) c.args.solves =
    ap (λ t. c.args.self.now.spool ++ t) (c.in_ok-close.ensures ∙ ap (λ n. c.args.self.now.listing ++ end_text n c.args.solves) c.code.ensures) ∙ sym (append_assoc c.args.self.now.spool c.args.self.now.listing (end_text (status_code c.args.status) c.args.solves)) in
    rw (p.1, p.2) (comes_broken _ c.in_err-pass.field-0.0 (subst (WritesPrefix (g.H.Host.meaning c.args.host.now).outside (g.H.Host.meaning c.pass.new.host).outside) whole c.in_err-pass.ensures.outside.0))

pub returns-clause-outside : goal.returns-clause-outside
returns-clause-outside g c =
    let whole : c.args.self.now.spool ++ c.close.new.self ≡ c.args.self.now.spool ++ c.args.self.now.listing ++ end_text (status_code c.args.status) c.args.solves =
    ap (λ t. c.args.self.now.spool ++ t) (c.in_ok-close.ensures ∙ ap (λ n. c.args.self.now.listing ++ end_text n c.args.solves) c.code.ensures) ∙ sym (append_assoc c.args.self.now.spool c.args.self.now.listing (end_text (status_code c.args.status) c.args.solves)) in
    comes_flushed c.flush.result (g.H.Host.meaning c.args.host.now).outside (g.H.Host.meaning c.pass.new.host).outside (g.H.Host.meaning c.flush.new.host).outside _ c.pass.new.self.spool
    (subst (λ expected. Passes (g.H.Host.meaning c.args.host.now).outside (g.H.Host.meaning c.pass.new.host).outside expected c.pass.new.self.spool) whole c.in_ok-pass.ensures.outside) c.flush.ensures.outside

pub returns-clause-counts : goal.returns-clause-counts
returns-clause-counts g c = writing_more _ c.in_ok-pass.ensures.counts c.flush.ensures.counts
