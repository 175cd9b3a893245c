-- The magnitude with its sign.
use Rattle.std.proofs.Common.{◌≡◌, ◌∙◌, ap, sym, arith, ◌-ℤ◌, pos, neg_ℤ, to_z, of_z}
use Rattle.std.specs.Int.{w128}
use Rattle.std.proofs.lemmas.Int.{ints}
use Rattle.gq_field.specs.Values.{fraction_value, signed}
use Rattle.gq_field.proofs.fraction.Fraction.numerator.Goals as goal

pub returns-then-self : goal.returns-then-self
unfolding fraction_value
returns-then-self c =
    let turned : to_z w128 (of_z w128 (pos 0 -ℤ to_z w128 c.args.self.magnitude)) ≡ neg_ℤ (pos c.args.self.magnitude) = omega (arith, ints) in
    turned ∙ ap (λ s. signed s c.args.self.magnitude) (sym c.if-self.true)

pub returns-else-self : goal.returns-else-self
unfolding fraction_value
returns-else-self c =
    let same : to_z w128 c.args.self.magnitude ≡ pos c.args.self.magnitude = omega (arith, ints) in
    same ∙ ap (λ s. signed s c.args.self.magnitude) (sym c.if-self.false)
