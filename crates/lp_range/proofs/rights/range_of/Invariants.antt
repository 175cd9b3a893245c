use Rattle.std.proofs.Common.{◌≡◌, ◌-◌, map, length}
use Rattle.std.specs.List.{range_with_len}
use Rattle.lp_core.specs.Feasible.{bound_value}
use Rattle.lp_dict.specs.Tableau.{dictionary}
use Rattle.lp_range.specs.Spans.{span, span_from}
use Rattle.lp_range.specs.Ranges.{right_gain, right_gains}
use Rattle.lp_range.proofs.rights.range_of.Given as goal

abbrev pub invariant-loop-row : goal.invariant-loop-row
invariant-loop-row g l =
    span g.F.ExactField.limit (g.F.ExactField.value l.right) (right_gains g.F.ExactField.limit (dictionary g.F.ExactField.value l.dict) l.sense l.slack)
    ≡ span_from g.F.ExactField.limit (g.F.ExactField.value l.right) (bound_value g.F.ExactField.value l.moves.low) (bound_value g.F.ExactField.value l.moves.high) (map (right_gain g.F.ExactField.limit (dictionary g.F.ExactField.value l.dict) l.sense l.slack) (range_with_len l.row (length l.dict.basic - l.row)))
