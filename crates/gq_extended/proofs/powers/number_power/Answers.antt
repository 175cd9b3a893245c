-- A power is a product of equal factors, and below 0 that of the reciprocal.
use Rattle.std.proofs.Common.{◌∙◌, arith}
use Rattle.gq_extended.proofs.Tables.{limit_told, number_told}
use Rattle.gq_extended.proofs.Raised.{raised_up, zero_down, raised_down, reciprocal_found}
use Rattle.gq_extended.proofs.powers.number_power.Goals as goal

pub returns-in_err-times_itself : goal.returns-in_err-times_itself
returns-in_err-times_itself g c =
    limit_told _ _ _ c.from_residual.result c.from_residual.ensures.1 c.in_err-times_itself.ensures ∙ raised_up _ _ c.args.exponent _ (omega (arith, g.met.F.ExactField.limit_range.0)) c.ranges.exponent c.if-exponent-ge0.true c.unsigned_abs.ensures.value

pub returns-then-exponent-ge0 : goal.returns-then-exponent-ge0
returns-then-exponent-ge0 g c =
    number_told _ _ _ c.in_ok-times_itself.ensures.0 c.in_ok-times_itself.ensures.1 ∙ raised_up _ _ c.args.exponent _ (omega (arith, g.met.F.ExactField.limit_range.0)) c.ranges.exponent c.if-exponent-ge0.true c.unsigned_abs.ensures.value

pub returns-then-is_zero : goal.returns-then-is_zero
returns-then-is_zero g c =
    zero_down _ _ c.args.exponent c.is_zero.result c.ranges.exponent c.if-exponent-ge0.false c.is_zero.ensures c.if-is_zero.true

pub returns-in_err-reciprocal : goal.returns-in_err-reciprocal
returns-in_err-reciprocal g c =
    absurd (reciprocal_found _ _ _ c.is_zero.result c.is_zero.ensures c.if-is_zero.false c.one.ensures (g.met.F.ExactField.within c.args.base) c.in_err-reciprocal.ensures)

pub returns-in_err-times_itself-2 : goal.returns-in_err-times_itself-2
returns-in_err-times_itself-2 g c =
    limit_told _ _ _ c.from_residual-in_err-times_itself-2.result c.from_residual-in_err-times_itself-2.ensures.1 c.in_err-times_itself-2.ensures ∙ raised_down _ _ _ _ c.args.exponent _ c.is_zero.result c.ranges.exponent c.if-exponent-ge0.false c.is_zero.ensures c.if-is_zero.false c.one.ensures c.in_ok-reciprocal.ensures.1 c.unsigned_abs-2.ensures.value

pub returns : goal.returns
returns g c =
    number_told _ _ _ c.in_ok-times_itself-2.ensures.0 c.in_ok-times_itself-2.ensures.1 ∙ raised_down _ _ _ _ c.args.exponent _ c.is_zero.result c.ranges.exponent c.if-exponent-ge0.false c.is_zero.ensures c.if-is_zero.false c.one.ensures c.in_ok-reciprocal.ensures.1 c.unsigned_abs-2.ensures.value
