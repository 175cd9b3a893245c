use Rattle.std.proofs.Common.{◌∙◌}
use Rattle.gms_list.proofs.AppendedPieces.{untouched, reshaped}
use Rattle.gms_list.proofs.Shapes.{pair}
use Rattle.gms_list.proofs.listing.Listing.push_pair.Goals as goal

pub returns-in_err-text : goal.returns-in_err-text
returns-in_err-text g c = untouched _ _ c.from_residual.result c.from_residual.ensures.0

pub returns : goal.returns
returns g c =
    reshaped _ _ c.as_str.result.now _ c.push.result (pair _ c.args.before.now _ _ _ _ (c.as_str.ensures.value ∙ c.in_ok-text.ensures.ok) c.text_of-name.ensures c.text_of-element.ensures) c.push.ensures
