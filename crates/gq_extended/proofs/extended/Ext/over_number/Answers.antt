-- The divisor is told to be 0 or not, and then the table's row is known.
use Rattle.std.proofs.Common.{sym, ◌∙◌}
use Rattle.gq_extended.specs.Extended.{number}
use Rattle.gq_extended.specs.Meaning.{extended}
use Rattle.gq_extended.proofs.Tables.{limit_told, number_told, over_zero, over_other, by_signs, infinity_over}
use Rattle.gq_extended.proofs.extended.Ext.over_number.Goals as goal

pub returns-then-is_zero : goal.returns-then-is_zero
returns-then-is_zero g c = sym (over_zero _ _ _ c.is_zero.result c.is_zero.ensures c.if-is_zero.true)

pub returns-in_err-div-in-Number : goal.returns-in_err-div-in-Number
returns-in_err-div-in-Number g c =
    rw c.in-Number.is
    (limit_told _ _ _ c.from_residual.result c.from_residual.ensures.1 c.in_err-div-in-Number.ensures ∙ sym (over_other _ _ _ c.is_zero.result c.is_zero.ensures c.if-is_zero.false))

pub returns-in_ok-div-in-Number : goal.returns-in_ok-div-in-Number
returns-in_ok-div-in-Number g c =
    rw c.in-Number.is
    (number_told _ _ _ c.in_ok-div-in-Number.ensures.0 c.in_ok-div-in-Number.ensures.1 ∙ sym (over_other _ _ _ c.is_zero.result c.is_zero.ensures c.if-is_zero.false))

pub returns-in-Na : goal.returns-in-Na
returns-in-Na g c =
    rw c.in-Na.is (sym (over_other _ _ _ c.is_zero.result c.is_zero.ensures c.if-is_zero.false))

pub returns-in_default : goal.returns-in_default
returns-in_default g c =
    by_signs (extended g.F.ExactField.value c.args.self) (number (g.F.ExactField.value c.args.divisor)) _ _ _ c.infinity.ensures c.direction.ensures c.sign.ensures ∙ sym (infinity_over _ _ c.args.self _ c.in_default.not-Number c.in_default.not-Na) ∙ sym (over_other _ _ _ c.is_zero.result c.is_zero.ensures c.if-is_zero.false)
