use Rattle.lp_fraction_dict.specs.Lines.{entries_of_rows}
use Rattle.lp_fraction_dict.specs.Reading.{AreByVariable}
use Rattle.lp_fraction_dict.proofs.last.by_variable.Given as goal

abbrev pub invariant-loop-place : goal.invariant-loop-place
invariant-loop-place g l = AreByVariable g.F.ExactField.value (entries_of_rows l.rows) l.basic l.count l.column l.place l.list.items
