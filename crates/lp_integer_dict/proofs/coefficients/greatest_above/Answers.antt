use Rattle.std.proofs.Common.{◌+◌, ◌-◌, Some, None, subst, arith}
use Rattle.lp_integers.specs.Words.{IsGreatestAbove as IsGreatestPlaceAbove}
use Rattle.lp_integer_rows.specs.Form.{wholes}
use Rattle.lp_integer_dict.proofs.Largest.{greatest_of_places}
use Rattle.lp_integer_dict.proofs.coefficients.greatest_above.Goals as goal

pub returns-in-Some : goal.returns-in-Some
returns-in-Some c =
    let known : IsGreatestPlaceAbove (wholes c.args.line.now) 2 (Some c.in-Some.column) = subst (IsGreatestPlaceAbove (wholes c.args.line.now) 2) c.in-Some.is c.greatest_above.ensures in
    let two = known.0 in
    greatest_of_places c.args.line.now c.in-Some.column (c.in-Some.column - 1) (omega arith) known

pub returns-in-None : goal.returns-in-None
returns-in-None c =
    let known : IsGreatestPlaceAbove (wholes c.args.line.now) 2 None = subst (IsGreatestPlaceAbove (wholes c.args.line.now) 2) c.in-None.is c.greatest_above.ensures in
    λ v one above. known (v + 1) (omega arith) above
