use Rattle.std.proofs.Common.{ap, subst, ◌∙◌}
use Rattle.lp_fraction_dict.specs.Pivots.{IsLeaving}
use Rattle.lp_dict.specs.Tableau.{dictionary}
use Rattle.lp_any.specs.Measures.{LengthAt, length_of}
use Rattle.lp_any.proofs.Measured.{by_row}
use Rattle.lp_any.proofs.measures.ShortestCosting.cost.Goals as goal

pub returns-in-Ok-Some : goal.returns-in-Ok-Some
returns-in-Ok-Some g c =
    by_row g.F.ExactField.limit (dictionary g.F.ExactField.value c.args.dict.now) c.args.variable LengthAt c.in-Ok-Some.leave c.length_of.result (subst (IsLeaving (dictionary g.F.ExactField.value c.args.dict.now) c.args.variable) c.in-Ok-Some.field-0-is c.in-Ok-Some.ensures.choice)
    (λ k row. c.length_of.ensures ∙ ap length_of (c.entry.ensures.row k row c.requires.not_basic))
