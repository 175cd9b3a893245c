-- With 1 every number has only 1 in common.
use Rattle.std.proofs.Common.{◌≡◌, ◌<◌, ℕ, ◌∙◌, sym, subst, ap}
use Rattle.gq_number.specs.Gcd.{gcd}
use Rattle.gq_number.proofs.Gcd.{gcd_pos}
use Rattle.gq_field.proofs.Binary.{gcd-one_left, gcd-one_right}
use Rattle.gq_field.proofs.divisor.gcd.Goals as goal
use Rattle.gq_field.proofs.divisor.gcd.Goals.{then-a-eq1-via-then-a-eq1, then-a-eq1-via-else-a-eq1+then-b-eq1}

pub returns-then-a-eq1-clause-value : goal.returns-then-a-eq1-clause-value
returns-then-a-eq1-clause-value c =
    elim c.then-a-eq1.branch [
      | then-a-eq1-via-then-a-eq1 w ↦ sym (ap (λ n. gcd n c.args.b) w.if-a-eq1.true ∙ gcd-one_left c.args.b)
      | then-a-eq1-via-else-a-eq1+then-b-eq1 w ↦ sym (ap (gcd c.args.a) w.if-b-eq1.true ∙ gcd-one_right c.args.a)
    ]

positive : (a b g : ℕ) → g ≡ gcd a b → 0 < b → 0 < g
positive a b g e some = subst (λ n. 0 < n) (sym e) (gcd_pos a b some)

pub returns-clause-positive : goal.returns-clause-positive
returns-clause-positive c = positive c.args.a c.args.b _ c.gcd_of_any.ensures
