use Rattle.lp_fraction_dict.specs.Lines.{entries_of_rows}
use Rattle.lp_integer_dict.specs.Whole.{integer_dictionary as dictionary_of}
use Rattle.lp_dict.specs.InnerConversions.{AreFilled}
use Rattle.lp_dict.proofs.turning.exact_rows.Given as goal

abbrev pub invariant-loop-row : goal.invariant-loop-row
invariant-loop-row g l = AreFilled g.F.ExactField.value (dictionary_of l.rows) (entries_of_rows l.made.items) l.row
