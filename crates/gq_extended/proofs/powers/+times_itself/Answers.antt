-- A power is the square of the power to half the exponent, times the base if the exponent is odd.
use Rattle.std.proofs.Common.{sym, ap, ◌∙◌, arith}
use Rattle.gq_extended.proofs.PowerParts.{one_where_none, square_is, even_power, odd_power, err_answers, same_answers}
use Rattle.gq_field.specs.Fits.{fits}
use Rattle.gq_extended.proofs.powers.+times_itself.Goals as goal

pub returns-then-exponent-eq0 : goal.returns-then-exponent-eq0
returns-then-exponent-eq0 g t c =
    one_where_none _ _ _ _ c.if-exponent-eq0.true (omega (arith, g.met.F.ExactField.limit_range.0)) c.one.ensures

pub returns-in_err-root : goal.returns-in_err-root
returns-in_err-root g t c =
    err_answers _ _ _ _ _ c.from_residual.result c.from_residual.ensures.0 (omega arith) (omega (arith, g.met.F.ExactField.limit_range.0)) c.in_err-root.ensures

pub returns-in_err-square : goal.returns-in_err-square
returns-in_err-square g t c =
    let x = g.F.ExactField.value c.args.base in
    err_answers _ _ _ _ x c.from_residual-in_err-square.result c.from_residual-in_err-square.ensures.0 (omega arith) (omega (arith, g.met.F.ExactField.limit_range.0)) (sym (ap (fits _) (square_is c.args.exponent x _ c.in_ok-root.ensures.1)) ∙ c.in_err-square.ensures)

pub returns-then-exponent-eq0-2 : goal.returns-then-exponent-eq0-2
returns-then-exponent-eq0-2 g t c =
    let x = g.F.ExactField.value c.args.base in
    let e = even_power c.args.exponent x _ c.if-exponent-eq0-2.true c.in_ok-root.ensures.1 in
    (sym (ap (fits _) e) ∙ c.in_ok-square.ensures.0, c.in_ok-square.ensures.1 ∙ e)

pub returns-else-exponent-eq0-2 : goal.returns-else-exponent-eq0-2
returns-else-exponent-eq0-2 g t c =
    let x = g.F.ExactField.value c.args.base in
    same_answers _ _ _ _ c.mul-else-exponent-eq0-2.result (odd_power c.args.exponent x _ _ c.if-exponent-eq0-2.false c.in_ok-root.ensures.1 c.in_ok-square.ensures.1) c.mul-else-exponent-eq0-2.ensures
