use Rattle.std.proofs.Common.{Ok, refl, subst, arith}
use Rattle.std.specs.Prelude.{slice_index_or}
use Rattle.std.proofs.lemmas.Bool.{both_ways}
use Rattle.lp_fraction_dict.specs.Lines.{entries_of_rows}
use Rattle.lp_fraction_dict.specs.InnerChoice.{IsLeastRatio}
use Rattle.lp_fraction_dict.proofs.Kept.{length-rows}
use Rattle.lp_fraction_dict.proofs.Choices.{ratio_skips, ratio_takes, ratio_stops}
use Rattle.lp_fraction_dict.proofs.choice.least_ratio.Goals as goal

pub loop-place-preserved-then-not-is_above_zero : goal.loop-place-preserved-then-not-is_above_zero
loop-place-preserved-then-not-is_above_zero g c =
    ratio_skips g.F.ExactField.value g.F.ExactField.limit (entries_of_rows c.args.rows.now) c.args.basic.now c.args.column c.loop-place.place (omega (arith, length-rows c.args.rows.now)) c.number_of_row-number.result c.number_of_row-number.ensures c.loop-place.best c.loop-place.invariant (λ above. both_ways c.is_above_zero.result c.if-not-is_above_zero.true (c.is_above_zero.ensures.1 above))

pub returns-in_default : goal.returns-in_default
returns-in_default g c =
    ratio_stops g.F.ExactField.value g.F.ExactField.limit (entries_of_rows c.args.rows.now) c.args.basic.now c.args.column c.loop-place.place (omega (arith, length-rows c.args.rows.now)) c.number_of_row.result c.number_of_row-number.result c.number_of_row.ensures c.number_of_row-number.ensures c.loop-place.best c.loop-place.invariant (omega arith) (c.is_above_zero.ensures.0 c.if-not-is_above_zero.false) c.in_default.ensures

pub loop-place-preserved : goal.loop-place-preserved
loop-place-preserved g c =
    ratio_takes g.F.ExactField.value g.F.ExactField.limit (entries_of_rows c.args.rows.now) c.args.basic.now c.args.column c.loop-place.place (omega (arith, length-rows c.args.rows.now)) c.number_of_row.result c.number_of_row-number.result c.number_of_row.ensures c.number_of_row-number.ensures c.loop-place.best (record { measure = c.in-Ok.ratio; variable = slice_index_or c.args.basic.now c.loop-place.place 0 }) c.lesser.result c.loop-place.invariant (c.is_above_zero.ensures.0 c.if-not-is_above_zero.false) c.in-Ok.ensures.0 c.in-Ok.ensures.1 refl c.lesser.ensures

pub returns : goal.returns
returns g c =
    subst (λ n. IsLeastRatio g.F.ExactField.value g.F.ExactField.limit (entries_of_rows c.args.rows.now) c.args.basic.now c.args.column n (Ok c.loop-place.best)) (omega arith) c.loop-place.invariant
