use Rattle.std.proofs.Common.{subst, ◌∙◌}
use Rattle.lp_fraction_dict.proofs.Improving.{priced_there}
use Rattle.lp_fraction_dict.specs.Pivots.{IsLeaving}
use Rattle.lp_dict.specs.Tableau.{dictionary}
use Rattle.lp_any.specs.Shuffles.{ShuffledAt}
use Rattle.lp_any.proofs.Shuffled.{same_with_handicap}
use Rattle.lp_any.proofs.Measured.{by_row}
use Rattle.lp_any.proofs.shuffles.ShuffleCosting.cost.Goals as goal

pub returns-in-Ok-Some : goal.returns-in-Ok-Some
returns-in-Ok-Some g c =
    let d = dictionary g.F.ExactField.value c.args.dict.now in
    let priced = priced_there d in
    by_row g.F.ExactField.limit d c.args.variable (ShuffledAt c.args.self.now.number) c.in-Ok-Some.leave c.cost_with_handicap.result (subst (IsLeaving d c.args.variable) c.in-Ok-Some.field-0-is c.in-Ok-Some.ensures.choice) (λ k row. (
      priced.0,
      priced.1,
      c.cost_with_handicap.ensures ∙ same_with_handicap _ _ _ _ _ _ _ _ (c.coefficient-coefficient.ensures.priced priced.0 priced.1 c.requires.not_basic) (c.amount.ensures.basic k row) (c.entry-number.ensures.row k row c.requires.not_basic) c.handicap-handicap.ensures.value,
    ))
