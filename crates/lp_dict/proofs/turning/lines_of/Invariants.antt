use Rattle.std.proofs.Common.{◌+◌, take}
use Rattle.lp_fraction_dict.specs.Lines.{entries_of_rows}
use Rattle.lp_dict.specs.InnerConversions.{AreLinesOf}
use Rattle.lp_dict.proofs.turning.lines_of.Given as goal

abbrev pub invariant-loop-row : goal.invariant-loop-row
invariant-loop-row g l = AreLinesOf g.F.ExactField.value (l.dict.variables + 2) (take l.row-index (entries_of_rows l.rows)) l.lines.items
