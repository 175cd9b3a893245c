use Rattle.std.specs.Prelude.{nat_lt}
use Rattle.std.proofs.Common.{◌≡◌, ◌-◌, ◌∙◌, ◌++◌, true, false, arith, ap, sym}
use Rattle.std.proofs.lemmas.Bool.Decides.{nat_tests}
use Rattle.std.proofs.lemmas.List.{append-nil}
use Rattle.gms_list.proofs.Listed.{not_more, more}
use Rattle.gms_list.proofs.Shapes.{more_line}
use Rattle.gms_list.proofs.AppendedPieces.{untouched, reshaped}
use Rattle.gms_list.proofs.listing.Listing.push_more.Goals as goal

pub returns-then-count-most : goal.returns-then-count-most
returns-then-count-most c =
    let few : nat_lt c.args.most c.args.count ≡ false = grind (arith, nat_tests) in
    sym (append-nil c.args.self.now) ∙ ap (λ t. c.args.self.now ++ t) (not_more c.args.most c.args.count c.args.what.now few)

pub returns-in_err-text : goal.returns-in_err-text
returns-in_err-text c = untouched _ _ c.from_residual.result c.from_residual.ensures.0

pub returns : goal.returns
returns c =
    let many : nat_lt c.args.most c.args.count ≡ true = grind (arith, nat_tests) in
    reshaped _ _ c.as_str.result.now _ c.push.result (more_line _ c.args.what.now (c.args.count - c.args.most) (c.as_str.ensures.value ∙ c.in_ok-text.ensures.ok) ∙ more c.args.most c.args.count c.args.what.now many) c.push.ensures
