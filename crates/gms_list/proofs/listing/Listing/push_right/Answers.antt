use Rattle.std.proofs.Common.{codes, refl}
use Rattle.gms_list.proofs.AppendedPieces.{traversal, broke}
use Rattle.gms_list.proofs.listing.Listing.push_right.Goals as goal

pub returns-in_err-push : goal.returns-in_err-push
returns-in_err-push c = broke c.from_residual.result c.from_residual.ensures.0 (codes " ") _ (traversal _ refl) c.in_err-push.ensures
