use Rattle.std.proofs.Common.{◌≡◌, ◌++◌, ap, sym, ◌∙◌, append-nil}
use Rattle.gms_run.specs.InnerReports.{script_in}
use Rattle.gms_list.specs.ListingText.{refused_echo}
use Rattle.gms_run.specs.declared.outlet.Outlet.{Outlet}
use Rattle.gms_run.proofs.Reports.{echo_there, echo_nowhere, two_after}
use Rattle.gms_run.proofs.report.refused.Goals as goal
use Rattle.gms_run.proofs.report.refused.Goals.{then-has_echo+in_ok-echo_from, else-has_echo}

pub returns-clause-text : goal.returns-clause-text
returns-clause-text c = λ state.
    let old = c.args.outlet.now.listing in
    let echoed : c.if-has_echo.outlet.listing ≡ old ++ refused_echo c.args.fault.error (script_in c.args.script state).line (script_in c.args.script state).file =
    elim c.if-has_echo.branch [
      | then-has_echo+in_ok-echo_from w ↦ ap (λ (o : Outlet). o.listing) w.outlet-is ∙ w.in_ok-echo_from.ensures ∙ ap (λ t. old ++ t) (sym (echo_there c.args.fault.error (script_in c.args.script state) (sym w.if-has_echo.ensures)))
      | else-has_echo w ↦ ap (λ (o : Outlet). o.listing) w.outlet-is ∙ sym (append-nil old) ∙ ap (λ t. old ++ t) (sym (echo_nowhere c.args.fault.error (script_in c.args.script state) (sym w.if-has_echo.ensures)))
    ] in
    two_after old _ _ _ _ echoed c.in_ok-source_fault.ensures
