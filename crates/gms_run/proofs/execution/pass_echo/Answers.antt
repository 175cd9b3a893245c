-- The echo comes first: nothing is pending before it.
use Rattle.std.proofs.Common.{◌++◌, ◌∙◌, ap}
use Rattle.std.proofs.lemmas.Result.{err_from_is_err_and}
use Rattle.gms_list.specs.ListingText.{echo_text}
use Rattle.gms_run.proofs.CallResults.{comes_put, writing_memory}
use Rattle.gms_run.proofs.Reports.{after_nothing}
use Rattle.gms_run.proofs.execution.pass_echo.Goals as goal

pub returns-in_err-echo_from-clause-outside : goal.returns-in_err-echo_from-clause-outside
returns-in_err-echo_from-clause-outside g c =
    let p = err_from_is_err_and c.from_residual.result c.from_residual.ensures.1 in
    rw (p.1, p.2) tt

pub returns-in_err-echo_from-clause-counts : goal.returns-in_err-echo_from-clause-counts
returns-in_err-echo_from-clause-counts g c =
    let p = err_from_is_err_and c.from_residual.result c.from_residual.ensures.1 in
    rw (p.1, p.2) (writing_memory _ _)

pub returns-clause-outside : goal.returns-clause-outside
returns-clause-outside g c =
    comes_put c.pass.result _ _ _ (echo_text c.args.script.line c.args.script.file.now) c.pass.new.self.spool (ap (λ t. c.args.outlet.now.spool ++ t) c.in_ok-echo_from.ensures ∙ after_nothing c.args.outlet.now.spool c.args.outlet.now.listing (echo_text c.args.script.line c.args.script.file.now) c.requires.empty) c.pass.ensures.outside
