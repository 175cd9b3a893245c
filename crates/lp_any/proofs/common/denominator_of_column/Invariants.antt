use Rattle.std.proofs.Common.{◌≡◌, ◌+◌}
use Rattle.lp_dict.specs.Tableau.{dictionary}
use Rattle.lp_any.specs.Denominators.{column_denominator}
use Rattle.lp_any.proofs.common.denominator_of_column.Given as goal

abbrev pub invariant-loop-row : goal.invariant-loop-row
invariant-loop-row g l = l.common ≡ column_denominator (dictionary g.F.ExactField.value l.dict) (l.variable + 1) l.row
