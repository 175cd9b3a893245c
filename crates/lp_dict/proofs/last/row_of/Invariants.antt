use Rattle.lp_integer_dict.specs.Whole.{integer_dictionary as dictionary_of}
use Rattle.lp_dict.specs.InnerReading.{AreOfRow}
use Rattle.lp_dict.proofs.last.row_of.Given as goal

abbrev pub invariant-loop-variable : goal.invariant-loop-variable
invariant-loop-variable g l = AreOfRow g.F.ExactField.value (dictionary_of l.rows) l.row l.variable l.list.items
