use Rattle.std.proofs.Common.{◌∙◌}
use Rattle.gms_list.proofs.AppendedPieces.{untouched, reshaped}
use Rattle.gms_list.proofs.Shapes.{member_line}
use Rattle.gms_list.proofs.listing.Listing.push_member.Goals as goal

pub returns-in_err-tuple : goal.returns-in_err-tuple
returns-in_err-tuple c = untouched _ _ c.from_residual.result c.from_residual.ensures.0

pub returns-in_err-line : goal.returns-in_err-line
returns-in_err-line c = untouched _ _ c.from_residual-in_err-line.result c.from_residual-in_err-line.ensures.0

pub returns : goal.returns
returns c =
    reshaped _ _ c.as_str.result.now _ c.push.result (member_line _ _ _ (c.as_str.ensures.value ∙ c.in_ok-line.ensures.ok) c.in_ok-tuple.ensures) c.push.ensures
