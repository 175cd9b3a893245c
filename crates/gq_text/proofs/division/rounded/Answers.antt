-- The remainder decides which of two is nearest.
use Rattle.std.proofs.Common.{◌≡◌, ◌+◌, ◌^◌, arith}
use Rattle.gq_text.proofs.Divisions.{nearest_low, nearest_high}
use Rattle.gq_text.proofs.division.rounded.Goals as goal

pub returns-then-left-below-clause-units : goal.returns-then-left-below-clause-units
returns-then-left-below-clause-units c =
    nearest_low c.args.above c.args.below (10 ^ c.args.decimals) c.decimals_of-fraction.result.0 c.decimals_of-fraction.result.1 c.requires.some c.decimals_of-fraction.ensures.quotient c.if-left-below.true

pub returns-then-fraction-pow-clause-units : goal.returns-then-fraction-pow-clause-units
returns-then-fraction-pow-clause-units c =
    nearest_high c.args.above c.args.below (10 ^ c.args.decimals) c.decimals_of-fraction.result.0 c.decimals_of-fraction.result.1 c.requires.some c.decimals_of-fraction.ensures.quotient c.decimals_of-fraction.ensures.left c.if-left-below.false

pub returns-else-fraction-pow-clause-units : goal.returns-else-fraction-pow-clause-units
returns-else-fraction-pow-clause-units c =
    let high = nearest_high c.args.above c.args.below (10 ^ c.args.decimals) c.decimals_of-fraction.result.0 c.decimals_of-fraction.result.1 c.requires.some c.decimals_of-fraction.ensures.quotient c.decimals_of-fraction.ensures.left c.if-left-below.false in
    let full : c.decimals_of-fraction.result.0 + 1 ≡ 10 ^ c.args.decimals = omega (arith, c.pow.ensures, c.if-fraction-pow.false, c.decimals_of-fraction.ensures.fraction) in
    omega arith
