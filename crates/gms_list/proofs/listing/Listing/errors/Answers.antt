use Rattle.std.proofs.Common.{arith, ap, flat_map, get_or}
use Rattle.gms_list.proofs.AppendedPieces.{traversal, loop_step, loop_broke, loop_done, map_same, same_at}
use Rattle.gms_list.specs.ListingText.{compile_error_text}
use Rattle.gms_list.proofs.listing.Listing.errors.Goals as goal

pub loop-error-init : goal.loop-error-init
loop-error-init c = traversal _ (ap (λ es. flat_map compile_error_text es) (map_same c.args.e.now))

pub loop-error-preserved : goal.loop-error-preserved
loop-error-preserved c =
    loop_step compile_error_text (λ x. x) c.args.e.now c.loop-error.error-index (get_or c.args.e.now c.loop-error.error-index _) (omega arith) (same_at c.args.e.now c.loop-error.error-index _ _ (omega arith)) c.loop-error.invariant c.in_ok-push_error.ensures

pub returns-in_err-push_error : goal.returns-in_err-push_error
returns-in_err-push_error c =
    loop_broke compile_error_text (λ x. x) c.args.e.now c.loop-error.error-index (get_or c.args.e.now c.loop-error.error-index _) (omega arith) (same_at c.args.e.now c.loop-error.error-index _ _ (omega arith)) c.loop-error.invariant c.from_residual.result c.from_residual.ensures.0 c.in_err-push_error.ensures

pub returns : goal.returns
returns c = loop_done compile_error_text (λ x. x) c.args.e.now c.loop-error.error-index (omega arith) c.loop-error.invariant
