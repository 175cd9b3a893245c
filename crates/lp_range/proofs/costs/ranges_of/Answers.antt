use Rattle.std.proofs.Common.{◌+◌, ◌++◌, map, drop, ap₂, ◌∙◌, arith}
use Rattle.lp_core.specs.StandardForm.{numbered}
use Rattle.lp_std.specs.Meaning.{shift_value}
use Rattle.lp_dict.specs.Tableau.{dictionary}
use Rattle.lp_range.specs.Spans.{span}
use Rattle.lp_range.specs.Ranges.{span_value, cost_gains, cost_spans}
use Rattle.lp_range.proofs.Loops.{widths_left, costs_go}
use Rattle.lp_range.proofs.costs.ranges_of.Goals as goal

pub loop-place-preserved : goal.loop-place-preserved
loop-place-preserved g c =
    let d = dictionary g.F.ExactField.value c.args.dict.now in
    let lp = c.args.lp.now in
    let shifts = c.args.shifts.now in
    let j = c.loop-place.place in
    let shift = c.index-shifts-place.result in
    let count = c.width_of-variable.ensures in
    let left = widths_left g.F.ExactField.value g.F.ExactField.limit d lp shifts j shift c.loop-place-test.true c.index-shifts-place.is in
    record {
      counted = omega (arith, left, count, c.loop-place.invariant.counted);
      made =
          ap₂ (λ items n. map (span_value g.F.ExactField.value) items ++ cost_spans g.F.ExactField.limit d lp (j + 1) (numbered (c.loop-place.variable + n) (map (shift_value g.F.ExactField.value) (drop (j + 1) shifts)))) c.in_ok-push.ensures.items count
          ∙ costs_go g.F.ExactField.value g.F.ExactField.limit d lp shifts j shift c.loop-place-test.true c.index-shifts-place.is c.loop-place.made.items c.range_of.result c.loop-place.variable
          (c.range_of.ensures ∙ ap₂ (λ x v. span g.F.ExactField.limit x (cost_gains g.F.ExactField.limit d lp.maximize (v, shift_value g.F.ExactField.value shift))) c.cost_of-cost.ensures c.place_of.ensures.variable)
          ∙ c.loop-place.invariant.made;
    }
