use Rattle.lp_fraction_dict.proofs.Lists.{NegatedTo}
use Rattle.lp_fraction_dict.proofs.last.negate.Given as goal

abbrev pub invariant-loop-number : goal.invariant-loop-number
invariant-loop-number g l = NegatedTo g.F.ExactField.value l.initial.list l.list l.number-index
