use Rattle.std.specs.Prelude.{◌+◌}
use Rattle.lp_integer_dict.specs.Whole.{integer_dictionary as dictionary_of}
use Rattle.lp_dict.specs.InnerReading.{AreByVariable}
use Rattle.lp_dict.proofs.last.by_variable.Given as goal

abbrev pub invariant-loop-place : goal.invariant-loop-place
invariant-loop-place g l = AreByVariable g.F.ExactField.value (dictionary_of l.rows) ((dictionary_of l.rows).variables + 1) l.column l.place l.list.items
