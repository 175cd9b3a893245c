use Rattle.std.proofs.Common.{refl, drop, ◌+◌, arith}
use Rattle.lp_std.specs.Meaning.{entries_value, row_value}
use Rattle.lp_fraction_dict.proofs.Filling.{row_goes, row_ends, entries_drop, entries_end}
use Rattle.lp_fraction_dict.proofs.first.row_with_slack.Goals as goal

pub loop-variable-preserved : goal.loop-variable-preserved
loop-variable-preserved g c =
    let items = c.as_slice-variable-items.result.now in
    let item = c.loop-variable-item.result in
    row_goes c.args.needed c.args.slack (row_value g.F.ExactField.value c.args.row.now) g.F.ExactField.value (entries_value g.F.ExactField.value (drop c.loop-variable.variable-index items)) c.loop-variable.made.items c.loop-variable.invariant (item.0, g.F.ExactField.value item.1) (entries_value g.F.ExactField.value (drop (c.loop-variable.variable-index + 1) items)) item.1 c.push_unless_zero-in-loop-variable.new.row.items
    (entries_drop g.F.ExactField.value items c.loop-variable.variable-index item c.loop-variable-test.true c.loop-variable-item.is) refl c.in_ok-push_unless_zero-3.ensures

pub returns : goal.returns
returns g c =
    let items = c.as_slice-variable-items.result.now in
    row_ends c.args.needed c.args.slack (row_value g.F.ExactField.value c.args.row.now) g.F.ExactField.value (entries_value g.F.ExactField.value (drop c.loop-variable.variable-index items)) c.loop-variable.made.items c.loop-variable.invariant c.one.result c.push_unless_zero-3.new.row.items
    (entries_end g.F.ExactField.value items c.loop-variable.variable-index (omega arith)) c.one.ensures c.in_ok-push_unless_zero-4.ensures
