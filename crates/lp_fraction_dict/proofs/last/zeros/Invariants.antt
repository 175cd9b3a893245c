use Rattle.lp_fraction_dict.specs.Reading.{AreNumbers}
use Rattle.lp_fraction_dict.proofs.last.zeros.Given as goal

abbrev pub invariant-loop-place : goal.invariant-loop-place
invariant-loop-place g l = AreNumbers g.F.ExactField.value l._place l.list.items
