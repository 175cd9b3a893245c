use Rattle.gms_list.proofs.AppendedPieces.{traversal, step, broke, last}
use Rattle.std.proofs.Common.{refl}
use Rattle.gms_list.proofs.listing.Listing.push_optimal.Goals as goal

pub returns-in_err-push_column_numbers : goal.returns-in_err-push_column_numbers
returns-in_err-push_column_numbers g c =
    broke c.from_residual.result c.from_residual.ensures.0 _ _ (traversal _ refl) c.in_err-push_column_numbers.ensures

pub returns-in_err-push_row_numbers : goal.returns-in_err-push_row_numbers
returns-in_err-push_row_numbers g c =
    broke c.from_residual-in_err-push_row_numbers.result c.from_residual-in_err-push_row_numbers.ensures.0 _ _ (step _ _ (traversal _ refl) c.in_ok-push_column_numbers.ensures) c.in_err-push_row_numbers.ensures

pub returns-in_err-push_column_numbers-2 : goal.returns-in_err-push_column_numbers-2
returns-in_err-push_column_numbers-2 g c =
    broke c.from_residual-in_err-push_column_numbers-2.result c.from_residual-in_err-push_column_numbers-2.ensures.0 _ _ (step _ _ (step _ _ (traversal _ refl) c.in_ok-push_column_numbers.ensures) c.in_ok-push_row_numbers.ensures) c.in_err-push_column_numbers-2.ensures

pub returns : goal.returns
returns g c =
    last _ _ c.push_dual_bound.result (step _ _ (step _ _ (step _ _ (traversal _ refl) c.in_ok-push_column_numbers.ensures) c.in_ok-push_row_numbers.ensures) c.in_ok-push_column_numbers-2.ensures) c.push_dual_bound.ensures
