use Rattle.std.proofs.Common.{map}
use Rattle.lp_std.specs.Meaning.{row_value}
use Rattle.lp_fraction_dict.specs.Lines.{entries_of_rows}
use Rattle.lp_fraction_dict.specs.First.{AreFirst}
use Rattle.lp_fraction_dict.proofs.first.rows_with_slacks.Given as goal

abbrev pub invariant-loop-place : goal.invariant-loop-place
invariant-loop-place g l = AreFirst g.F.ExactField.value l.needed l.slack (map (row_value g.F.ExactField.value) l.rows) (entries_of_rows l.made.items) l.place
