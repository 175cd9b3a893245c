use Rattle.std.proofs.Common.{refl, FitsSigned, rules}
use Rattle.std.specs.Int.{w128}
use Rattle.std.proofs.lemmas.Int.{to_z-of_z}
use Rattle.lp_dict.proofs.Numbers.{small_fits, never}
use Rattle.lp_dict.proofs.number.number_at.Goals as goal

pub unreachable-requires : goal.unreachable-requires
unreachable-requires g c =
    let top = c.number-fraction.result.numerator in
    let low = c.number-fraction.result.denominator in
    let fits : FitsSigned w128 top = search rules in
    never g.F.ExactField.limit top _ low low (to_z-of_z w128 top fits) refl
    (small_fits c.args.whole.now.bound g.F.ExactField.limit top low c.requires.bounded c.number-fraction.ensures.positive c.number-fraction.ensures.within.0 c.number-fraction.ensures.within.1) c.in-Err.ensures
