use Rattle.std.proofs.Common.{◌∙◌, refl, sym}
use Rattle.gms_list.specs.ListingText.{compile_errors_text, echo_text}
use Rattle.gms_run.proofs.Reports.{emptied, filled, two_after}
use Rattle.gms_run.proofs.report.list_errors.Goals as goal

pub returns-then-is_empty : goal.returns-then-is_empty
returns-then-is_empty c = λ state. (emptied c.args.errors.now (sym c.is_empty.ensures ∙ c.if-is_empty.true), refl)

pub returns : goal.returns
returns c = λ state.
    (filled c.args.errors.now (sym c.is_empty.ensures ∙ c.if-is_empty.false), two_after c.args.listing.now (echo_text c.args.script.line c.args.script.file.now) c.echo_from.new.self (compile_errors_text c.args.errors.now) c.errors.new.self c.in_ok-echo_from.ensures c.in_ok-errors.ensures)
