use Rattle.std.proofs.Common.{flat_map, map, drop}
use Rattle.gms_list.proofs.AppendedPieces.{Traversed}
use Rattle.gms_list.specs.ListingText.{compile_error_text, compile_errors_text}
use Rattle.gms_list.proofs.listing.Listing.errors.Given as goal

abbrev pub invariant-loop-error : goal.invariant-loop-error
invariant-loop-error l = Traversed l.fn.self (compile_errors_text l.e) l.self (flat_map compile_error_text (map (λ x. x) (drop l.error-index l.e)))
