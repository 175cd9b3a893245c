use Rattle.std.proofs.Common.{refl, sym, ap, ◌∙◌, arith}
use Rattle.gq_number.specs.Number.{neg_ℚ}
use Rattle.lp_fraction_dict.proofs.Lists.{negated_goes, negated_ends}
use Rattle.lp_fraction_dict.proofs.last.negate.Goals as goal

pub loop-number-preserved : goal.loop-number-preserved
loop-number-preserved g c =
    negated_goes g.F.ExactField.value c.args.list.now c.loop-number.list _ c.loop-number.number-index c.number-item.result c.neg.result c.loop-number.invariant (omega arith) c.number-item.is (c.neg.ensures ∙ ap (λ x. neg_ℚ (g.F.ExactField.value x)) (sym c.number-item.is)) refl

pub returns : goal.returns
returns g c = negated_ends g.F.ExactField.value c.args.list.now c.loop-number.list c.loop-number.number-index c.loop-number.invariant (omega arith)
