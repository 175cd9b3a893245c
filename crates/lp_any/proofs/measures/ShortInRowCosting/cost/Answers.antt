use Rattle.std.proofs.Common.{subst, ◌∙◌}
use Rattle.lp_fraction_dict.proofs.Improving.{priced_there}
use Rattle.lp_fraction_dict.specs.Pivots.{IsLeaving}
use Rattle.lp_dict.specs.Tableau.{dictionary}
use Rattle.lp_any.specs.Measures.{RowAt}
use Rattle.lp_any.proofs.Measured.{by_row, same_in_row}
use Rattle.lp_any.proofs.measures.ShortInRowCosting.cost.Goals as goal

pub returns-in-Ok-Some : goal.returns-in-Ok-Some
returns-in-Ok-Some g c =
    let d = dictionary g.F.ExactField.value c.args.dict.now in
    let priced = priced_there d in
    by_row g.F.ExactField.limit d c.args.variable RowAt c.in-Ok-Some.leave c.cost_in_row.result (subst (IsLeaving d c.args.variable) c.in-Ok-Some.field-0-is c.in-Ok-Some.ensures.choice) (λ k row. (
      priced.0,
      priced.1,
      c.cost_in_row.ensures ∙ same_in_row _ _ _ _ _ _ _ _ (c.coefficient-coefficient.ensures.priced priced.0 priced.1 c.requires.not_basic) (c.amount.ensures.basic k row) (c.entry.ensures.row k row c.requires.not_basic) (c.denominator_of_row-in_row.ensures k row),
    ))
