use Rattle.lp_fraction_dict.specs.First.{IsFilled}
use Rattle.lp_integer_dict.specs.Whole.{integer_dictionary as dictionary_of}
use Rattle.lp_dict.proofs.turning.exact_row.Given as goal

abbrev pub invariant-loop-column : goal.invariant-loop-column
invariant-loop-column g l = IsFilled g.F.ExactField.value ((dictionary_of l.rows).numbers l.row) l.column l.made.items
