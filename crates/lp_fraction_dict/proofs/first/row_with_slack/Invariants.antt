use Rattle.std.proofs.Common.{drop}
use Rattle.lp_std.specs.Meaning.{entries_value, row_value}
use Rattle.lp_fraction_dict.proofs.Filling.{RowSoFar}
use Rattle.lp_fraction_dict.proofs.first.row_with_slack.Given as goal

abbrev pub invariant-loop-variable : goal.invariant-loop-variable
invariant-loop-variable g l = RowSoFar l.needed l.slack (row_value g.F.ExactField.value l.row) g.F.ExactField.value (entries_value g.F.ExactField.value (drop l.variable-index l.variable-items)) l.made.items
