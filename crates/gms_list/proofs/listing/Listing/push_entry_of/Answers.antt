use Rattle.std.proofs.Common.{◌≡◌, ◌==◌, ◌∙◌, ◌++◌, true, false, arith, ap, sym}
use Rattle.std.proofs.lemmas.Bool.Decides.{nat_tests}
use Rattle.std.proofs.lemmas.List.{append-nil}
use Rattle.gms_list.proofs.AppendedPieces.{reshaped, chosen, other}
use Rattle.gms_list.proofs.listing.Listing.push_entry_of.Goals as goal

pub returns-then-column-j : goal.returns-then-column-j
returns-then-column-j g c = let same : (c.args.column == c.args.j) ≡ true = grind (arith, nat_tests) in reshaped _ _ _ _ c.push_coefficient.result (chosen (c.args.column == c.args.j) _ _ same) c.push_coefficient.ensures

pub returns-else-column-j : goal.returns-else-column-j
returns-else-column-j g c = let differs : (c.args.column == c.args.j) ≡ false = grind (arith, nat_tests) in sym (append-nil c.args.self.now) ∙ ap (λ t. c.args.self.now ++ t) (other (c.args.column == c.args.j) _ _ differs)
