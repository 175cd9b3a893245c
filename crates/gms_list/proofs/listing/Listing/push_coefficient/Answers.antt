use Rattle.std.proofs.Common.{◌∙◌}
use Rattle.gms_list.proofs.AppendedPieces.{untouched, reshaped}
use Rattle.gms_list.proofs.Shapes.{coefficient_line}
use Rattle.gms_list.proofs.listing.Listing.push_coefficient.Goals as goal

pub returns-in_err-key : goal.returns-in_err-key
returns-in_err-key g c = untouched _ _ c.from_residual.result c.from_residual.ensures.0

pub returns-in_err-line : goal.returns-in_err-line
returns-in_err-line g c = untouched _ _ c.from_residual-in_err-line.result c.from_residual-in_err-line.ensures.0

pub returns : goal.returns
returns g c =
    reshaped _ _ c.as_str.result.now _ c.push.result (coefficient_line _ _ _ _ _ (c.as_str.ensures.value ∙ c.in_ok-line.ensures.ok) c.amount-number.ensures c.in_ok-key.ensures) c.push.ensures
