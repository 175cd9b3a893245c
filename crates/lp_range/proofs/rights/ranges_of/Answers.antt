use Rattle.std.proofs.Common.{◌+◌, ◌++◌, map, drop, ap₂, ◌∙◌, arith}
use Rattle.lp_dict.specs.Tableau.{dictionary}
use Rattle.lp_range.specs.Ranges.{span_value, right_spans}
use Rattle.lp_range.proofs.Loops.{rows_left, spans_go}
use Rattle.lp_range.proofs.rights.ranges_of.Goals as goal

pub loop-row-preserved : goal.loop-row-preserved
loop-row-preserved g c =
    let d = dictionary g.F.ExactField.value c.args.dict.now in
    let rows = c.args.rows.now in
    let i = c.loop-row.row-index in
    let row = c.row-item.result in
    let count = c.rows_by_sense-slack.ensures in
    let left = rows_left g.F.ExactField.value g.F.ExactField.limit d rows i row c.loop-row-test.true c.row-item.is in
    record {
      counted = omega (arith, left, count, c.loop-row.invariant.counted);
      made =
          ap₂ (λ items n. map (span_value g.F.ExactField.value) items ++ right_spans g.F.ExactField.limit d g.F.ExactField.value (c.loop-row.slack + n) (drop (i + 1) rows)) c.in_ok-push.ensures.items count
          ∙ spans_go g.F.ExactField.value g.F.ExactField.limit d rows i row c.loop-row-test.true c.row-item.is c.loop-row.made.items c.range_of.result c.loop-row.slack c.range_of.ensures
          ∙ c.loop-row.invariant.made;
    }
