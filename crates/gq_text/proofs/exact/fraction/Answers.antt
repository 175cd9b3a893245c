use Rattle.std.proofs.Common.{◌≡◌, ◌<◌, ◌^◌, sym, subst, ◌∙◌, arith}
use Rattle.std.specs.Prelude.{IsSomeAnd}
use mir.Val.{to_z}
use mir.Syntax.{w128}
use Rattle.gq_text.proofs.ReadingBack.{parts_make, signed_true, signed_false}
use Rattle.gq_text.proofs.exact.fraction.Goals as goal
use Rattle.gq_text.proofs.exact.fraction.Goals.{then-negative, else-negative}
use Rattle.gq_field.specs.Values.{signed}

pub returns : goal.returns
returns g c x f n d =
    let value = g.F.ExactField.value in
    let l = g.met.F.ExactField.limit_range.1 in
    let most = c.limit.ensures in
    let small : c.args.above < 2 ^ 127 = omega (arith, l, most) in
    let number : to_z w128 c.if-negative.numerator-bits ≡ signed c.args.negative c.args.above = elim c.if-negative.branch [
      | then-negative w ↦ signed_true c.if-negative.numerator-bits c.args.above c.args.negative small w.numerator-is w.if-negative.true
      | else-negative w ↦ signed_false c.if-negative.numerator-bits c.args.above c.args.negative small w.numerator-is w.if-negative.false
    ] in
    subst (λ o. IsSomeAnd o (λ y. value y ≡ x)) (sym c.ok.ensures.value)
    (parts_make g.F.ExactField.limit value c.from_parts.result x _ c.args.below (number ∙ sym n) (sym d) f c.from_parts.ensures)
