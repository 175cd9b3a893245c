use Rattle.std.proofs.Common.{◌≡◌, ◌+◌, ◌*◌, length, drop, map, pos, Ok, sym, ap, ◌∙◌, refl, arith, subst, ◌<◌}
use Rattle.std.specs.List.{All}
use Rattle.lp_core.specs.declared.program.Row.{Row}
use Rattle.gq_number.specs.Number.{whole}
use Rattle.lp_core.specs.Steps.{checked_rows, checked_sum}
use Rattle.lp_core.proofs.Checks.{passed_over, steps_go, row_fails, row_goes}
use Rattle.lp_core.proofs.feasibility.keep_rows.Goals as goal

pub sum_of-requires-clause-within_bound : goal.sum_of-requires-clause-within_bound
sum_of-requires-clause-within_bound g c =
    let left = steps_go g.F.ExactField.value g.F.ExactField.limit (map g.F.ExactField.value c.args.x.now) c.args.rows.now c.loop-row.row-index c.loop-row.step c.row-item.result c.loop-row-test.true c.row-item.is (sym c.if-asks_nothing_of.ensures) in
    let same = ap length c.as_slice.ensures in
    omega (arith, left, same, c.loop-row.invariant.counted, c.requires.within_bound)

pub overflow_add-step : goal.overflow_add-step
overflow_add-step g c =
    let left = steps_go g.F.ExactField.value g.F.ExactField.limit (map g.F.ExactField.value c.args.x.now) c.args.rows.now c.loop-row.row-index c.loop-row.step c.row-item.result c.loop-row-test.true c.row-item.is (sym c.if-asks_nothing_of.ensures) in
    omega (arith, left, c.len.ensures, c.loop-row.invariant.counted, c.requires.within_bound)

pub loop-row-preserved : goal.loop-row-preserved
loop-row-preserved g c =
    let asks = sym c.if-asks_nothing_of.ensures in
    let left = steps_go g.F.ExactField.value g.F.ExactField.limit (map g.F.ExactField.value c.args.x.now) c.args.rows.now c.loop-row.row-index c.loop-row.step c.row-item.result c.loop-row-test.true c.row-item.is asks in
    let summed = subst (λ entries. Ok (g.F.ExactField.value c.in_ok-sum.sum) ≡ checked_sum g.F.ExactField.value g.F.ExactField.limit (map g.F.ExactField.value c.args.x.now) c.loop-row.step (whole (pos 0)) entries) c.as_slice.ensures c.in_ok-sum.ensures in
    record {
      counted = omega (arith, left, c.len.ensures, c.loop-row.invariant.counted);
      so_far = c.loop-row.invariant.so_far ∙ row_goes g.F.ExactField.value g.F.ExactField.limit (map g.F.ExactField.value c.args.x.now) c.args.rows.now c.loop-row.row-index c.loop-row.step c.row-item.result c.loop-row-test.true c.row-item.is asks (g.F.ExactField.value c.in_ok-sum.sum) (sym summed) (sym c.if-not-keeps_sense_of.ensures) ∙ ap (λ n. checked_rows g.F.ExactField.value g.F.ExactField.limit (map g.F.ExactField.value c.args.x.now) (c.loop-row.step + 2 * n) (drop (c.loop-row.row-index + 1) c.args.rows.now)) (sym c.len.ensures);
    }

pub loop-row-init : goal.loop-row-init
loop-row-init g c = record { counted = omega arith; so_far = refl }

pub offset_bounds-rows-row-index : goal.offset_bounds-rows-row-index
offset_bounds-rows-row-index g c = c.loop-row.auto.row-index-end

pub bounds-rows-row-index : goal.bounds-rows-row-index
bounds-rows-row-index g c = c.loop-row-test.true

pub asks_nothing_of-requires : goal.asks_nothing_of-requires
asks_nothing_of-requires g c = tt

pub loop-row-smaller-then-asks_nothing_of : goal.loop-row-smaller-then-asks_nothing_of
loop-row-smaller-then-asks_nothing_of g c = omega arith

pub loop-row-preserved-then-asks_nothing_of : goal.loop-row-preserved-then-asks_nothing_of
loop-row-preserved-then-asks_nothing_of g c =
    let passed = passed_over g.F.ExactField.value g.F.ExactField.limit (map g.F.ExactField.value c.args.x.now) c.args.rows.now c.loop-row.row-index c.loop-row.step c.row-item.result c.loop-row-test.true c.row-item.is (sym c.if-asks_nothing_of.ensures) in
    record { counted = ap (λ n. c.loop-row.step + n) (sym passed.1) ∙ c.loop-row.invariant.counted; so_far = c.loop-row.invariant.so_far ∙ passed.0 }

pub sum_of-requires-clause-there : goal.sum_of-requires-clause-there
sum_of-requires-clause-there g c =
    subst (All (λ e. e.0 < length c.args.x.now)) (sym c.as_slice.ensures) (subst (λ (row : Row _). All (λ e. e.0 < length c.args.x.now) row.entries) (sym c.row-item.is) (c.requires.there c.loop-row.row-index c.row-item.result c.loop-row-test.true))

pub returns-then-not-keeps_sense_of : goal.returns-then-not-keeps_sense_of
returns-then-not-keeps_sense_of g c =
    let summed = subst (λ entries. Ok (g.F.ExactField.value c.in_ok-sum.sum) ≡ checked_sum g.F.ExactField.value g.F.ExactField.limit (map g.F.ExactField.value c.args.x.now) c.loop-row.step (whole (pos 0)) entries) c.as_slice.ensures c.in_ok-sum.ensures in
    sym (c.loop-row.invariant.so_far ∙ row_fails g.F.ExactField.value g.F.ExactField.limit (map g.F.ExactField.value c.args.x.now) c.args.rows.now c.loop-row.row-index c.loop-row.step c.row-item.result c.loop-row-test.true c.row-item.is (sym c.if-asks_nothing_of.ensures) (g.F.ExactField.value c.in_ok-sum.sum) (sym summed) (sym c.if-not-keeps_sense_of.ensures))

pub loop-row-smaller : goal.loop-row-smaller
loop-row-smaller g c = omega arith
