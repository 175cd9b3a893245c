use Rattle.gms_list.proofs.AppendedPieces.{traversal, step, broke, last}
use Rattle.std.proofs.Common.{refl}
use Rattle.gms_list.proofs.listing.Listing.push_solution.Goals as goal

pub returns-in_err-push_all_rows : goal.returns-in_err-push_all_rows
returns-in_err-push_all_rows g c =
    broke c.from_residual.result c.from_residual.ensures.0 _ _ (traversal _ refl) c.in_err-push_all_rows.ensures

pub returns : goal.returns
returns g c =
    last _ _ c.push_all_columns.result (step _ _ (traversal _ refl) c.in_ok-push_all_rows.ensures) c.push_all_columns.ensures
