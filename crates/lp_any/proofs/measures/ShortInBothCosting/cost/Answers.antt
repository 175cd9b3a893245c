use Rattle.std.proofs.Common.{subst, ◌∙◌}
use Rattle.lp_fraction_dict.proofs.Improving.{priced_there}
use Rattle.lp_fraction_dict.specs.Pivots.{IsLeaving}
use Rattle.lp_dict.specs.Tableau.{dictionary}
use Rattle.lp_any.specs.Measures.{BothAt}
use Rattle.lp_any.proofs.Measured.{by_row, same_in_both}
use Rattle.lp_any.proofs.measures.ShortInBothCosting.cost.Goals as goal

pub returns-in-Ok-Some : goal.returns-in-Ok-Some
returns-in-Ok-Some g c =
    let d = dictionary g.F.ExactField.value c.args.dict.now in
    let priced = priced_there d in
    by_row g.F.ExactField.limit d c.args.variable BothAt c.in-Ok-Some.leave c.cost_in_both.result (subst (IsLeaving d c.args.variable) c.in-Ok-Some.field-0-is c.in-Ok-Some.ensures.choice) (λ k row. (
      priced.0,
      priced.1,
      c.cost_in_both.ensures ∙ same_in_both _ _ _ _ _ _ _ _ _ _ (c.coefficient-coefficient.ensures.priced priced.0 priced.1 c.requires.not_basic) (c.amount.ensures.basic k row) (c.entry-number.ensures.row k row c.requires.not_basic) (c.denominator_of_row-in_row.ensures k row) c.denominator_of_column-in_column.ensures,
    ))
