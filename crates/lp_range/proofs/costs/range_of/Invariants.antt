use Rattle.std.proofs.Common.{◌≡◌, map, drop}
use Rattle.lp_core.specs.Feasible.{bound_value}
use Rattle.lp_std.specs.Meaning.{shift_value}
use Rattle.lp_dict.specs.Tableau.{dictionary}
use Rattle.lp_range.specs.Spans.{span, span_from}
use Rattle.lp_range.specs.Ranges.{cost_gain, cost_gains}
use Rattle.lp_range.proofs.costs.range_of.Given as goal

abbrev pub invariant-loop-other : goal.invariant-loop-other
invariant-loop-other g l =
    span g.F.ExactField.limit (g.F.ExactField.value l.cost) (cost_gains g.F.ExactField.limit (dictionary g.F.ExactField.value l.dict) l.maximize (l.column.first.variable, shift_value g.F.ExactField.value l.column.shift))
    ≡ span_from g.F.ExactField.limit (g.F.ExactField.value l.cost) (bound_value g.F.ExactField.value l.moves.low) (bound_value g.F.ExactField.value l.moves.high) (map (cost_gain g.F.ExactField.limit (dictionary g.F.ExactField.value l.dict) l.maximize (l.column.first.variable, shift_value g.F.ExactField.value l.column.shift)) (drop l.other-index l.others))
