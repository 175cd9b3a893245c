use Rattle.lp_integer_rows.specs.Form.{lines_number, numbers_above}
use Rattle.lp_integer_dict.specs.InnerChoice.{IsLeastRatio}
use Rattle.lp_integer_dict.proofs.choice.least_ratio.Given as goal

abbrev pub invariant-loop-place : goal.invariant-loop-place
invariant-loop-place l = IsLeastRatio (numbers_above l.deferred (lines_number l.lines)) l.basic l.column l.place l.best
