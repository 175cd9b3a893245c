use Rattle.std.proofs.Common.{◌∙◌, arith}
use Rattle.std.proofs.lemmas.Bool.{both_ways}
use Rattle.lp_core.proofs.ShapeSteps.{order_fails, order_holds, order_ends, low_stops, high_stops, zero_stops, order_goes}
use Rattle.lp_core.proofs.shape.are_entries.Goals as goal

pub returns-then-place-least : goal.returns-then-place-least
returns-then-place-least g c =
    order_fails g.F.ExactField.value c.args.columns c.args.entries.now (c.loop-column.invariant ∙ low_stops g.F.ExactField.value c.args.columns c.args.entries.now c.loop-column.column-index c.loop-column.least c.loop-column-item.result c.loop-column-test.true c.loop-column-item.is c.if-place-least.true)

pub returns-then-place-columns : goal.returns-then-place-columns
returns-then-place-columns g c =
    order_fails g.F.ExactField.value c.args.columns c.args.entries.now (c.loop-column.invariant ∙ high_stops g.F.ExactField.value c.args.columns c.args.entries.now c.loop-column.column-index c.loop-column.least c.loop-column-item.result c.loop-column-test.true c.loop-column-item.is c.if-place-least.false (omega arith))

pub returns-then-is_zero : goal.returns-then-is_zero
returns-then-is_zero g c =
    order_fails g.F.ExactField.value c.args.columns c.args.entries.now (c.loop-column.invariant ∙ zero_stops g.F.ExactField.value c.args.columns c.args.entries.now c.loop-column.column-index c.loop-column.least c.loop-column-item.result c.loop-column-test.true c.loop-column-item.is c.if-place-least.false (omega arith) (c.is_zero.ensures.0 c.if-is_zero.true))

pub loop-column-preserved : goal.loop-column-preserved
loop-column-preserved g c =
    c.loop-column.invariant ∙ order_goes g.F.ExactField.value c.args.columns c.args.entries.now c.loop-column.column-index c.loop-column.least c.loop-column-item.result c.loop-column-test.true c.loop-column-item.is c.if-place-least.false (omega arith) (λ none. both_ways c.is_zero.result c.if-is_zero.false (c.is_zero.ensures.1 none))

pub returns : goal.returns
returns g c =
    order_holds g.F.ExactField.value c.args.columns c.args.entries.now (c.loop-column.invariant ∙ order_ends g.F.ExactField.value c.args.columns c.args.entries.now c.loop-column.column-index c.loop-column.least (omega arith))
