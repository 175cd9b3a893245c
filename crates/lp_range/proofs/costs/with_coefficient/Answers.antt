use Rattle.std.proofs.Common.{◌+◌, true, ap, ◌∙◌, subst}
use Rattle.gq_number.specs.Number.{neg_ℚ}
use Rattle.lp_dict.specs.Tableau.{dictionary}
use Rattle.lp_range.specs.InnerSteps.{EndsWith}
use Rattle.lp_range.proofs.Loops.{no_end}
use Rattle.lp_range.proofs.costs.with_coefficient.Goals as goal

pub returns-in_default : goal.returns-in_default
returns-in_default g c =
    let d = dictionary g.F.ExactField.value c.args.dict.now in
    let amount = c.neg-amount.ensures ∙ ap neg_ℚ (c.number.ensures ∙ ap (λ k. d.numbers k (c.args.other + 1)) c.len.ensures) in
    subst (λ a. EndsWith g.F.ExactField.value g.F.ExactField.limit c.args.moves (record { amount = a; each = g.F.ExactField.value c.args.each; fits = true }) c.with_amount.result) amount c.with_amount.ensures

pub returns-in-Equal : goal.returns-in-Equal
returns-in-Equal g c = no_end g.F.ExactField.value g.F.ExactField.limit c.args.moves _ (g.F.ExactField.value c.args.each) (g.F.ExactField.value c.zero.result) c.cmp_value.result c.zero.ensures c.cmp_value.ensures c.in-Equal.is
