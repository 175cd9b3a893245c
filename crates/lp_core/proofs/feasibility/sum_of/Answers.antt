use Rattle.std.proofs.Common.{◌<◌, le_of_lt, length, map, ap, sym, ◌∙◌, arith, subst}
use Rattle.std.proofs.lemmas.List.Elements.{All-get_or}
use Rattle.lp_core.specs.Steps.{checked_sum}
use Rattle.lp_core.proofs.Checks.{product_stops, sum_stops, sum_goes}
use Rattle.lp_core.proofs.feasibility.sum_of.Goals as goal

pub returns-in_default : goal.returns-in_default
returns-in_default g c =
    let there = subst (λ e. e.0 < length c.args.x.now) (sym c.loop-column-item.is) (All-get_or (λ e. e.0 < length c.args.x.now) c.args.entries.now c.loop-column.column-index c.loop-column-item.result c.loop-column-test.true c.requires.there) in
    sym (c.loop-column.invariant.so_far ∙ product_stops g.F.ExactField.value g.F.ExactField.limit c.args.x.now c.args.entries.now c.loop-column.column-index c.loop-column.step c.loop-column-item.result c.loop-column.sum c.index-x-column.result c.loop-column-test.true c.loop-column-item.is there c.index-x-column.is c.in_default.ensures)

pub loop-column-preserved : goal.loop-column-preserved
loop-column-preserved g c =
    let there = subst (λ e. e.0 < length c.args.x.now) (sym c.loop-column-item.is) (All-get_or (λ e. e.0 < length c.args.x.now) c.args.entries.now c.loop-column.column-index c.loop-column-item.result c.loop-column-test.true c.requires.there) in
    record {
      counted = omega arith;
      so_far = c.loop-column.invariant.so_far ∙ sum_goes g.F.ExactField.value g.F.ExactField.limit c.args.x.now c.args.entries.now c.loop-column.column-index c.loop-column.step c.loop-column-item.result c.loop-column.sum c.index-x-column.result c.loop-column-test.true c.loop-column-item.is there c.index-x-column.is c.in-Ok.product c.in-Ok-add.next c.in-Ok.ensures c.in-Ok-add.ensures;
    }

pub loop-column-init : goal.loop-column-init
loop-column-init g c = record { counted = omega arith; so_far = ap (λ n. checked_sum g.F.ExactField.value g.F.ExactField.limit (map g.F.ExactField.value c.args.x.now) c.args.first n c.args.entries.now) (sym c.zero-sum.ensures) }

pub offset_bounds-entries-column-index : goal.offset_bounds-entries-column-index
offset_bounds-entries-column-index g c = c.loop-column.auto.column-index-end

pub bounds-entries-column-index : goal.bounds-entries-column-index
bounds-entries-column-index g c = c.loop-column-test.true

pub offset_bounds-x-column : goal.offset_bounds-x-column
offset_bounds-x-column g c =
    let there : c.loop-column-item.result.0 < length c.args.x.now = subst (λ e. e.0 < length c.args.x.now) (sym c.loop-column-item.is) (c.requires.there c.loop-column.column-index c.loop-column-item.result c.loop-column-test.true) in
    le_of_lt there

pub bounds-x-column : goal.bounds-x-column
bounds-x-column g c =
    subst (λ e. e.0 < length c.args.x.now) (sym c.loop-column-item.is) (c.requires.there c.loop-column.column-index c.loop-column-item.result c.loop-column-test.true)

pub overflow_add-result : goal.overflow_add-result
overflow_add-result g c = record { fits = omega arith }

pub returns-in_default-add : goal.returns-in_default-add
returns-in_default-add g c =
    let there = subst (λ e. e.0 < length c.args.x.now) (sym c.loop-column-item.is) (c.requires.there c.loop-column.column-index c.loop-column-item.result c.loop-column-test.true) in
    sym (c.loop-column.invariant.so_far ∙ sum_stops g.F.ExactField.value g.F.ExactField.limit c.args.x.now c.args.entries.now c.loop-column.column-index c.loop-column.step c.loop-column-item.result c.loop-column.sum c.index-x-column.result c.loop-column-test.true c.loop-column-item.is there c.index-x-column.is c.in-Ok.product c.in-Ok.ensures c.in_default-add.ensures)

pub overflow_add-step : goal.overflow_add-step
overflow_add-step g c = record { fits = omega arith }

pub loop-column-smaller : goal.loop-column-smaller
loop-column-smaller g c = omega arith
