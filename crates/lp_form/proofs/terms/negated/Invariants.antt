use Rattle.std.proofs.Common.{◌≡◌, take, map}
use Rattle.gq_number.specs.Number.{neg_ℚ}
use Rattle.lp_form.proofs.terms.negated.Given as goal

abbrev pub invariant-loop-number : goal.invariant-loop-number
invariant-loop-number g l = map g.F.ExactField.value l.negated.items ≡ map (λ x. neg_ℚ (g.F.ExactField.value x)) (take l.number-index l.numbers)
