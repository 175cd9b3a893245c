use Rattle.std.proofs.Common.{◌∙◌}
use Rattle.gms_list.proofs.AppendedPieces.{untouched, reshaped}
use Rattle.gms_list.proofs.Shapes.{error_line}
use Rattle.std.proofs.Common.{codes}
use Rattle.gms_list.proofs.listing.Listing.source_fault.Goals as goal

pub returns-in_err-line : goal.returns-in_err-line
returns-in_err-line c = untouched _ _ c.from_residual.result c.from_residual.ensures.0

pub returns : goal.returns
returns c =
    reshaped _ _ c.as_str.result.now _ c.push.result (error_line _ (codes "*** Source error ") _ _ c.code-code.result c.args.f.now.at.line c.args.f.now.at.column _ (c.as_str.ensures.value ∙ c.in_ok-line.ensures.ok) c.code-code.ensures c.name-name.ensures) c.push.ensures
