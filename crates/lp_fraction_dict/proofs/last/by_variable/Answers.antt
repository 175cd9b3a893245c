use Rattle.std.proofs.Common.{refl, arith}
use Rattle.std.specs.Prelude.{slice_index_or}
use Rattle.lp_fraction_dict.specs.Lines.{entries_of_rows}
use Rattle.lp_fraction_dict.proofs.Kept.{index_get}
use Rattle.lp_fraction_dict.proofs.Lists.{variables_more}
use Rattle.lp_fraction_dict.proofs.last.by_variable.Goals as goal

pub loop-place-preserved : goal.loop-place-preserved
loop-place-preserved g c =
    let variable = slice_index_or c.args.basic.now c.loop-place.place 0 in
    let at = index_get c.args.basic.now c.loop-place.place variable 0 (omega arith) refl in
    variables_more g.F.ExactField.value (entries_of_rows c.args.rows.now) c.args.basic.now c.args.count c.args.column c.loop-place.list.items _ c.loop-place.place variable c.number_of_row.result c.loop-place.invariant c.requires.distinct at (c.requires.there c.loop-place.place variable at) c.number_of_row.ensures refl
