use Rattle.std.proofs.Common.{◌∙◌, codes, refl}
use Rattle.gms_list.proofs.AppendedPieces.{untouched, reshaped}
use Rattle.gms_list.proofs.Shapes.{error_line}
use Rattle.gms_list.proofs.listing.Listing.save_fault.Goals as goal

pub returns-in_err-line : goal.returns-in_err-line
returns-in_err-line c = untouched _ _ c.from_residual.result c.from_residual.ensures.0

pub returns : goal.returns
returns c =
    reshaped _ _ c.as_str.result.now _ c.push.result (error_line _ (codes "*** Source error ") _ _ c.args.code c.args.at.line c.args.at.column _ (c.as_str.ensures.value ∙ c.in_ok-line.ensures.ok) refl refl) c.push.ensures
