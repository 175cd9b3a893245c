use Rattle.lp_fraction_dict.proofs.Greatest.{BestOf}
use Rattle.lp_fraction_dict.proofs.coefficients.greatest_above.Given as goal

abbrev pub invariant-loop-entry : goal.invariant-loop-entry
invariant-loop-entry g l = BestOf g.F.ExactField.value l.row l.entry-index l.best
