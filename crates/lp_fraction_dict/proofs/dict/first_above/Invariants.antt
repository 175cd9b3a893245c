use Rattle.lp_fraction_dict.proofs.Pricing.{NoneAbove}
use Rattle.lp_fraction_dict.proofs.dict.first_above.Given as goal

abbrev pub invariant-loop-entry : goal.invariant-loop-entry
invariant-loop-entry g l = NoneAbove g.F.ExactField.value l.row l.entry-index
