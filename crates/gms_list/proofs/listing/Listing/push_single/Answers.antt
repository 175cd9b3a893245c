use Rattle.gms_list.proofs.AppendedPieces.{traversal, step, broke, last}
use Rattle.std.proofs.Common.{refl, codes, ap, map, flat_map}
use Rattle.gq_extended.specs.Meaning.{extended}
use Rattle.gms_list.specs.ListingText.{number_text}
use Rattle.gms_list.proofs.Shapes.{single_value}
use Rattle.gms_list.proofs.listing.Listing.push_single.Goals as goal

pub returns-in_err-push : goal.returns-in_err-push
returns-in_err-push g c =
    broke c.from_residual.result c.from_residual.ensures.0 (codes " = ") _ (traversal _ (single_value _ _ refl)) c.in_err-push.ensures

pub returns-in_err-push_numbers : goal.returns-in_err-push_numbers
returns-in_err-push_numbers g c =
    broke c.from_residual-in_err-push_numbers.result c.from_residual-in_err-push_numbers.ensures.0 _ _ (step (codes " = ") _ (traversal _ (single_value _ _ (ap (λ es. flat_map (number_text c.args.item.now.decimals) (map (λ entry. (entry.0, extended g.F.ExactField.value entry.1)) es)) c.as_slice.ensures))) c.in_ok-push.ensures) c.in_err-push_numbers.ensures

pub returns : goal.returns
returns g c =
    last _ _ c.push-2.result (step _ _ (step (codes " = ") _ (traversal _ (single_value _ _ (ap (λ es. flat_map (number_text c.args.item.now.decimals) (map (λ entry. (entry.0, extended g.F.ExactField.value entry.1)) es)) c.as_slice.ensures))) c.in_ok-push.ensures) c.in_ok-push_numbers.ensures) c.push-2.ensures
