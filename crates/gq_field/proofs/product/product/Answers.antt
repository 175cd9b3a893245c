-- The factors change places, and with 0 there is nothing to divide.
use Rattle.std.proofs.Common.{◌∙◌, inl, inr}
use Rattle.gq_number.proofs.Field.{*ℚ_comm}
use Rattle.gq_field.specs.Values.{fraction_value}
use Rattle.gq_field.proofs.Products.{product_with_zero, zero_answers}
use Rattle.gq_field.proofs.product.product.Goals as goal

pub returns-then-y-eq1-3 : goal.returns-then-y-eq1-3
returns-then-y-eq1-3 c = rw (*ℚ_comm (fraction_value c.args.x) (fraction_value c.args.y)) c.unit_product-then-y-eq1-3.ensures

pub returns-then-y-eq0 : goal.returns-then-y-eq0
returns-then-y-eq0 c =
    let x = c.args.x in
    let y = c.args.y in
    elim c.if-y-eq0.either [
      | inl none ↦ zero_answers c.args.limit c.whole.result _ c.requires.least (product_with_zero x y none) c.whole.ensures
      | inr none ↦ zero_answers c.args.limit c.whole.result _ c.requires.least (*ℚ_comm (fraction_value x) (fraction_value y) ∙ product_with_zero y x none.1) c.whole.ensures
    ]
