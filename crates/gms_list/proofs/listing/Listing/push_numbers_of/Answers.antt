use Rattle.gms_list.proofs.AppendedPieces.{traversal, step, broke, last}
use Rattle.std.proofs.Common.{refl}
use Rattle.gms_list.proofs.listing.Listing.push_numbers_of.Goals as goal

pub returns-in_err-push_bound_cell : goal.returns-in_err-push_bound_cell
returns-in_err-push_bound_cell g c =
    broke c.from_residual.result c.from_residual.ensures.0 _ _ (traversal _ refl) c.in_err-push_bound_cell.ensures

pub returns-in_err-push_cell : goal.returns-in_err-push_cell
returns-in_err-push_cell g c =
    broke c.from_residual-in_err-push_cell.result c.from_residual-in_err-push_cell.ensures.0 _ _ (step _ _ (traversal _ refl) c.in_ok-push_bound_cell.ensures) c.in_err-push_cell.ensures

pub returns-in_err-push_bound_cell-2 : goal.returns-in_err-push_bound_cell-2
returns-in_err-push_bound_cell-2 g c =
    broke c.from_residual-in_err-push_bound_cell-2.result c.from_residual-in_err-push_bound_cell-2.ensures.0 _ _ (step _ _ (step _ _ (traversal _ refl) c.in_ok-push_bound_cell.ensures) c.in_ok-push_cell.ensures) c.in_err-push_bound_cell-2.ensures

pub returns : goal.returns
returns g c =
    last _ _ c.push_cell-2.result (step _ _ (step _ _ (step _ _ (traversal _ refl) c.in_ok-push_bound_cell.ensures) c.in_ok-push_cell.ensures) c.in_ok-push_bound_cell-2.ensures) c.push_cell-2.ensures
