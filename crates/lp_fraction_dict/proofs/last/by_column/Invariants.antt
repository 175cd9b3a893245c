use Rattle.lp_fraction_dict.specs.Reading.{AreByColumn}
use Rattle.lp_fraction_dict.proofs.last.by_column.Given as goal

abbrev pub invariant-loop-entry : goal.invariant-loop-entry
invariant-loop-entry g l = AreByColumn g.F.ExactField.value l.row l.count l.entry-index l.list.items
