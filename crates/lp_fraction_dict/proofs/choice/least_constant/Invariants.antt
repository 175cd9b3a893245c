use Rattle.lp_fraction_dict.specs.Lines.{entries_of_rows}
use Rattle.lp_fraction_dict.specs.InnerChoice.{IsLeastConstant}
use Rattle.lp_fraction_dict.proofs.choice.least_constant.Given as goal

abbrev pub invariant-loop-place : goal.invariant-loop-place
invariant-loop-place g l = IsLeastConstant g.F.ExactField.value (entries_of_rows l.rows) l.basic l.place l.best
