use Rattle.std.proofs.Common.{◌≡◌, ◌+◌, ◌-◌, ◌++◌, not, filter}
use Rattle.std.specs.Prelude.{is_some}
use Rattle.std.specs.List.{range_with_len}
use Rattle.lp_core.specs.Pivots.{row_of_basic}
use Rattle.lp_dict.specs.Tableau.{dictionary}
use Rattle.lp_range.specs.Ranges.{nonbasic_variables}
use Rattle.lp_range.proofs.costs.others_of.Given as goal

abbrev pub invariant-loop-variable : goal.invariant-loop-variable
invariant-loop-variable g l =
    l.others.items ++ filter (λ v. not (is_some (row_of_basic (dictionary g.F.ExactField.value l.dict) v))) (range_with_len l.variable (l.dict.variables + 1 - l.variable))
    ≡ nonbasic_variables g.F.ExactField.limit (dictionary g.F.ExactField.value l.dict)
