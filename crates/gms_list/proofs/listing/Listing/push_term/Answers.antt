use Rattle.std.proofs.Common.{◌∙◌}
use Rattle.gms_list.proofs.AppendedPieces.{untouched, reshaped}
use Rattle.gms_list.proofs.Shapes.{term}
use Rattle.std.proofs.Common.{ap}
use Rattle.gms_list.specs.SolveText.{amount}
use Rattle.gms_list.proofs.listing.Listing.push_term.Goals as goal

pub returns-in_err-column : goal.returns-in_err-column
returns-in_err-column g c = untouched _ _ c.from_residual.result c.from_residual.ensures.0

pub returns-in_err-text : goal.returns-in_err-text
returns-in_err-text g c = untouched _ _ c.from_residual-in_err-text.result c.from_residual-in_err-text.ensures.0

pub returns : goal.returns
returns g c =
    reshaped _ _ c.as_str.result.now _ c.push.result (term _ _ _ _ _ _ _ (c.as_str.ensures.value ∙ c.in_ok-text.ensures.ok) c.term_sign-sign.ensures (c.amount-number.ensures ∙ ap amount c.magnitude.ensures) c.in_ok-column.ensures) c.push.ensures
