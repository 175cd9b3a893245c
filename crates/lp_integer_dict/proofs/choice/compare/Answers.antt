use Rattle.std.proofs.Common.{rules, ◌≡◌, ◌*ℤ◌, pos, FitsSigned, to_z, of_z, sym, ap, ap₂, ◌∙◌}
use Rattle.std.specs.Int.{w128}
use Rattle.std.specs.Ordering.{int_cmp}
use Rattle.std.proofs.lemmas.Int.{to_z-of_z}
use Rattle.lp_integer_dict.proofs.Choices.{compare_fractions}
use Rattle.lp_integer_dict.proofs.choice.compare.Goals as goal

pub returns : goal.returns
returns c =
    let fits_x : FitsSigned w128 c.args.x.numerator = search rules in
    let fits_y : FitsSigned w128 c.args.y.numerator = search rules in
    let x_is : to_z w128 (of_z w128 c.args.x.numerator) ≡ c.args.x.numerator = to_z-of_z w128 c.args.x.numerator fits_x in
    let y_is : to_z w128 (of_z w128 c.args.y.numerator) ≡ c.args.y.numerator = to_z-of_z w128 c.args.y.numerator fits_y in
    c.compare_ratios.ensures ∙ ap₂ int_cmp (ap (λ z. z *ℤ pos c.args.y.denominator) x_is) (ap (λ z. z *ℤ pos c.args.x.denominator) y_is)
    ∙ sym (compare_fractions c.args.x.numerator c.args.y.numerator c.args.x.denominator c.args.y.denominator c.requires.first.0 c.requires.second.0)
