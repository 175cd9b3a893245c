use Rattle.lp_integer_rows.specs.Form.{lines_number, numbers_above}
use Rattle.lp_integer_dict.specs.InnerChoice.{IsLeastConstant}
use Rattle.lp_integer_dict.proofs.choice.least_constant.Given as goal

abbrev pub invariant-loop-place : goal.invariant-loop-place
invariant-loop-place l = IsLeastConstant (numbers_above l.deferred (lines_number l.lines)) l.basic l.place l.best
