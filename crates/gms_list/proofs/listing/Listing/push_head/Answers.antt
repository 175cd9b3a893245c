use Rattle.std.proofs.Common.{◌∙◌}
use Rattle.gms_list.proofs.AppendedPieces.{untouched, reshaped}
use Rattle.gms_list.proofs.Shapes.{head_of}
use Rattle.gms_list.proofs.listing.Listing.push_head.Goals as goal

pub returns-in_err-line : goal.returns-in_err-line
returns-in_err-line g c = untouched _ _ c.from_residual.result c.from_residual.ensures.0

pub returns : goal.returns
returns g c =
    reshaped _ _ c.as_str.result.now _ c.push.result (head_of _ c.args.word.now _ c.args.following.now _ (c.as_str.ensures.value ∙ c.in_ok-line.ensures.ok) c.text_of-text.ensures) c.push.ensures
