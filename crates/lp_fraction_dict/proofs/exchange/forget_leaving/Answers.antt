use Rattle.std.proofs.Common.{[], ◌∙◌, arith}
use Rattle.lp_fraction_dict.specs.Lines.{entries_of_rows}
use Rattle.lp_fraction_dict.proofs.Kept.{length-rows}
use Rattle.lp_fraction_dict.proofs.Exchanging.{row_at_place, rows-put, length-put, forgotten_goes, forgotten_all, all_stay}
use Rattle.lp_fraction_dict.proofs.exchange.forget_leaving.Goals as goal

pub returns-then-leave-ne0-clause-rows : goal.returns-then-leave-ne0-clause-rows
returns-then-leave-ne0-clause-rows g c = all_stay c.args.leave c.if-leave-ne0.true (entries_of_rows c.args.rows.now.items)

pub loop-place-preserved : goal.loop-place-preserved
loop-place-preserved g c = (
  length-put c.loop-place.rows.items c.loop-place.place c.forget_zero.new.row ∙ c.loop-place.invariant.0,
  forgotten_goes (entries_of_rows c.args.rows.now.items) (entries_of_rows c.loop-place.rows.items) _ c.loop-place.place c.index_mut-row.result.now.items c.forget_zero.new.row.items c.loop-place.invariant.1 (omega (arith, length-rows c.args.rows.now.items)) (row_at_place c.loop-place.rows.items c.loop-place.place c.index_mut-row.result.now (omega arith) c.index_mut-row.ensures.value []) c.forget_zero.ensures (rows-put c.loop-place.rows.items c.loop-place.place c.forget_zero.new.row),
)

pub returns-clause-rows : goal.returns-clause-rows
returns-clause-rows g c =
    forgotten_all (entries_of_rows c.args.rows.now.items) c.args.leave (entries_of_rows c.loop-place.rows.items) c.loop-place.place c.if-leave-ne0.false c.loop-place.invariant.1 (omega (arith, length-rows c.args.rows.now.items, c.args.rows.now.ok.0))
