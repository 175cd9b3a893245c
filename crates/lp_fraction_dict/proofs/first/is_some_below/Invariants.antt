use Rattle.std.proofs.Common.{◌≡◌, drop}
use Rattle.lp_fraction_dict.proofs.Filling.{some_below_of}
use Rattle.lp_fraction_dict.proofs.first.is_some_below.Given as goal

abbrev pub invariant-loop-row : goal.invariant-loop-row
invariant-loop-row g l = some_below_of g.F.ExactField.value l.rows ≡ some_below_of g.F.ExactField.value (drop l.row-index l.rows)
