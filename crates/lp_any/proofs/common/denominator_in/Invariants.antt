use Rattle.std.proofs.Common.{◌≡◌}
use Rattle.lp_dict.specs.Tableau.{dictionary}
use Rattle.lp_any.specs.Denominators.{row_denominator}
use Rattle.lp_any.proofs.common.denominator_in.Given as goal

abbrev pub invariant-loop-column : goal.invariant-loop-column
invariant-loop-column g l = l.common ≡ row_denominator (dictionary g.F.ExactField.value l.dict) l.row l.column
