use Rattle.std.proofs.Common.{arith}
use Rattle.gms_list.proofs.AppendedPieces.{traversal, broke}
use Rattle.gms_list.proofs.Pairs.{pairs_first}
use Rattle.gms_list.proofs.listing.Listing.push_pairs.Goals as goal

pub returns-in_err-push_pair-in-len1-up : goal.returns-in_err-push_pair-in-len1-up
returns-in_err-push_pair-in-len1-up g c =
    broke c.from_residual.result c.from_residual.ensures.0 _ _ (traversal _ (pairs_first c.args.p.now.names c.args.p.now.labels c.args.pairs.now _ (omega (arith, c.in-len1-up.len_at_least)))) c.in_err-push_pair-in-len1-up.ensures
