-- The digits without zeros, times one power of ten over another.
use Rattle.std.proofs.Common.{◌*◌, ◌^◌, ◌-◌, ◌+◌, ◌++◌, not, length, pos, sym, ap, ap₂, ◌∙◌, subst, arith}
use Rattle.gq_number.specs.Number.{ratio}
use Rattle.gq_text.specs.Numeral.{spelled}
use Rattle.gq_text.specs.Literal.{FitsLiteral, AnswersLiteral}
use Rattle.gq_text.specs.InnerShortest.{added}
use Rattle.gq_text.proofs.Combined.{number_is, none_fits, far_digits, far_up, far_down}
use Rattle.gq_text.proofs.literal.literal.Goals as goal

pub returns-in_default : goal.returns-in_default
returns-in_default g c f =
    let s = c.shortest.ensures in
    let x = number_is c.args.before.now c.args.following.now c.shortest.result.0.now c.shortest.result.1.now c.args.exponent.digits.now c.args.exponent.negative s in
    far_digits g.F.ExactField.limit _ _ _ g.met.F.ExactField.limit_range.1 s.shortest c.in_default.ensures (subst (FitsLiteral g.F.ExactField.limit) x f)

pub returns-then-digits-eq0 : goal.returns-then-digits-eq0
returns-then-digits-eq0 g c =
    let s = c.shortest.ensures in
    let x = number_is c.args.before.now c.args.following.now c.shortest.result.0.now c.shortest.result.1.now c.args.exponent.digits.now c.args.exponent.negative s in
    let digits = c.in-Some.ensures in
    let fit = none_fits g.F.ExactField.limit (spelled (c.shortest.result.0.now ++ c.shortest.result.1.now)) ((length c.args.before.now - length c.shortest.result.0.now) + added (not c.args.exponent.negative) (spelled c.args.exponent.digits.now)) (length c.shortest.result.1.now + added c.args.exponent.negative (spelled c.args.exponent.digits.now)) (omega (arith, c.if-digits-eq0.true)) in
    (subst (FitsLiteral g.F.ExactField.limit) (sym x) fit.0, c.zero.ensures ∙ sym (x ∙ fit.1))

pub returns-in_default-raised : goal.returns-in_default-raised
returns-in_default-raised g c f =
    let s = c.shortest.ensures in
    let x = number_is c.args.before.now c.args.following.now c.shortest.result.0.now c.shortest.result.1.now c.args.exponent.digits.now c.args.exponent.negative s in
    let digits = c.in-Some.ensures in
    far_up g.F.ExactField.limit (spelled (c.shortest.result.0.now ++ c.shortest.result.1.now)) (spelled c.args.exponent.digits.now) (length c.args.before.now - length c.shortest.result.0.now) (length c.shortest.result.1.now) c.args.exponent.negative g.met.F.ExactField.limit_range.1 (omega (arith, c.if-digits-eq0.false)) s.shortest c.tens-raised.ensures.count_small c.tens-lowered.ensures.count_small c.in_default-raised.ensures.value (subst (FitsLiteral g.F.ExactField.limit) x f)

pub returns-in_default-lowered : goal.returns-in_default-lowered
returns-in_default-lowered g c f =
    let s = c.shortest.ensures in
    let x = number_is c.args.before.now c.args.following.now c.shortest.result.0.now c.shortest.result.1.now c.args.exponent.digits.now c.args.exponent.negative s in
    let digits = c.in-Some.ensures in
    far_down g.F.ExactField.limit (spelled (c.shortest.result.0.now ++ c.shortest.result.1.now)) (spelled c.args.exponent.digits.now) (length c.args.before.now - length c.shortest.result.0.now) (length c.shortest.result.1.now) c.args.exponent.negative g.met.F.ExactField.limit_range.1 (omega (arith, c.if-digits-eq0.false)) s.shortest c.tens-raised.ensures.count_small c.tens-lowered.ensures.count_small c.in_default-lowered.ensures.value (subst (FitsLiteral g.F.ExactField.limit) x f)

pub returns : goal.returns
returns g c =
    let s = c.shortest.ensures in
    let x = number_is c.args.before.now c.args.following.now c.shortest.result.0.now c.shortest.result.1.now c.args.exponent.digits.now c.args.exponent.negative s in
    let digits = c.in-Some.ensures in let up = c.in-Some-raised.ensures.value in let down = c.in-Some-lowered.ensures.value in
    subst (λ y. AnswersLiteral g.F.ExactField.limit g.F.ExactField.value y c.scaled.result)
    (ap₂ (λ d w. ratio (pos (d * 10 ^ c.in-Some-raised.up)) (10 ^ w)) digits.1 down.1 ∙ ap (λ u. ratio (pos (spelled (c.shortest.result.0.now ++ c.shortest.result.1.now) * 10 ^ u)) (10 ^ (length c.shortest.result.1.now + added c.args.exponent.negative (spelled c.args.exponent.digits.now)))) up.1 ∙ sym x)
    c.scaled.ensures
