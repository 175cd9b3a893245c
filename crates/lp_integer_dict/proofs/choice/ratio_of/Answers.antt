use Rattle.std.proofs.Common.{rules, ◌≡◌, ◌<◌, ◌^◌, ◌<ℤ◌, ℤ, pos, nat_abs, FitsSigned, to_z, of_z, sym, ap₂, ◌∙◌, subst, arith}
use Rattle.std.specs.Int.{w128}
use Rattle.std.proofs.lemmas.Int.{ints, to_z-of_z}
use Rattle.gq_number.specs.Number.{whole, ratio}
use Rattle.gq_number.specs.Order.{◌<ℚ◌}
use Rattle.lp_integer_rows.specs.Form.{lines_number, numbers_above}
use Rattle.lp_integer_dict.proofs.Reading.{number_above, above_number}
use Rattle.lp_integer_dict.proofs.Choices.{ratio_is_fraction}
use Rattle.lp_integer_dict.proofs.choice.ratio_of.Goals as goal

pub returns-then-number-le0 : goal.returns-then-number-le0
returns-then-number-le0 c = λ above.
    let fits : FitsSigned w128 c.read_below-number.result.numerator = search rules in
    let is = to_z-of_z w128 c.read_below-number.result.numerator fits in
    let told = c.if-number-le0.true in
    let high = number_above c.read_below-number.result.numerator c.read_below-number.result.denominator c.read_below-number.ensures.positive (subst (λ x. whole (pos 0) <ℚ x) (sym c.read_below-number.ensures.number) above) in
    omega (arith, ints)

pub returns : goal.returns
returns c =
    let n : ℤ = c.read_below-number.result.numerator in
    let r : ℤ = c.read-constant.result.numerator in
    let fits : FitsSigned w128 c.read_below-number.result.numerator = search rules in
    let fits_r : FitsSigned w128 c.read-constant.result.numerator = search rules in
    let is : to_z w128 (of_z w128 n) ≡ n = to_z-of_z w128 c.read_below-number.result.numerator fits in
    let r_is : to_z w128 (of_z w128 r) ≡ r = to_z-of_z w128 c.read-constant.result.numerator fits_r in
    let told = c.if-number-le0.false in
    let above : pos 0 <ℤ n = omega (arith, ints) in
    let w = c.requires.lines.2 in
    let small = w.small in
    let within = (c.read_below-number.ensures.within c.requires.lines.1 w.within_bound).0 in
    let some : 0 < nat_abs n = omega (arith, ints) in
    let low : nat_abs n < 2 ^ 127 = omega arith in (
      (subst (λ z. 0 < nat_abs z) (sym is) some, subst (λ z. nat_abs z < 2 ^ 127) (sym is) low),
      subst (λ x. whole (pos 0) <ℚ x) c.read_below-number.ensures.number (above_number n c.read_below-number.result.denominator c.read_below-number.ensures.positive above),
      ap₂ (λ s t. ratio s (nat_abs t)) r_is is
          ∙ ratio_is_fraction (numbers_above c.args.deferred (lines_number c.args.lines.now)) c.args.place c.args.column n r c.read_below-number.result.denominator c.read-constant.result.denominator c.read_below-number.ensures.positive (c.read_below-number.ensures.shared ∙ sym c.read-constant.ensures.shared) above c.read_below-number.ensures.number c.read-constant.ensures.number,
    )
