use Rattle.std.proofs.Common.{Ok}
use Rattle.lp_fraction_dict.specs.Lines.{entries_of_rows}
use Rattle.lp_fraction_dict.specs.InnerChoice.{IsLeastRatio}
use Rattle.lp_fraction_dict.proofs.choice.least_ratio.Given as goal

abbrev pub invariant-loop-place : goal.invariant-loop-place
invariant-loop-place g l = IsLeastRatio g.F.ExactField.value g.F.ExactField.limit (entries_of_rows l.rows) l.basic l.column l.place (Ok l.best)
