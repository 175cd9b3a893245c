use Rattle.std.proofs.Common.{◌≡◌, ◌+◌, ◌*◌, refl, sym, subst}
use Rattle.std.specs.Prelude.{IfSome}
use Rattle.lp_integer_dict.specs.Pairs.{rows_top}
use Rattle.lp_integer_dict.proofs.Pairing.{top_found}
use Rattle.lp_integer_dict.proofs.pairs.top_of_rows.Goals as goal

pub returns-in-Some : goal.returns-in-Some
returns-in-Some c =
    subst (λ o. IfSome c.sum_within.result (λ r. r ≡ rows_top o c.args.top)) (sym c.in-Some.is)
    (top_found c.sum_within.result (c.args.top * c.args.top + c.args.top * c.args.top) c.args.bound c.sum_within.ensures)

pub returns-in-None : goal.returns-in-None
returns-in-None c = subst (λ o. c.args.top ≡ rows_top o c.args.top) (sym c.in-None.is) refl
