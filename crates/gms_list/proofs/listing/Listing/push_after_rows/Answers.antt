use Rattle.std.proofs.Common.{◌≡◌, ◌==◌, true, false, arith}
use Rattle.std.proofs.lemmas.Bool.Decides.{nat_tests}
use Rattle.gms_list.proofs.AppendedPieces.{reshaped, chosen, other}
use Rattle.gms_list.proofs.listing.Listing.push_after_rows.Goals as goal

pub returns-then-count-eq0 : goal.returns-then-count-eq0
returns-then-count-eq0 c = let none : (c.args.count == 0) ≡ true = grind (arith, nat_tests) in reshaped _ _ _ _ c.push.result (chosen (c.args.count == 0) _ _ none) c.push.ensures

pub returns-else-count-eq0 : goal.returns-else-count-eq0
returns-else-count-eq0 c = let some : (c.args.count == 0) ≡ false = grind (arith, nat_tests) in reshaped _ _ _ _ c.push_more.result (other (c.args.count == 0) _ _ some) c.push_more.ensures
