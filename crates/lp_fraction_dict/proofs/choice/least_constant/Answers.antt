use Rattle.std.proofs.Common.{refl, subst, arith}
use Rattle.std.specs.Prelude.{slice_index_or}
use Rattle.std.proofs.lemmas.Bool.{both_ways}
use Rattle.lp_fraction_dict.specs.Lines.{entries_of_rows}
use Rattle.lp_fraction_dict.specs.InnerChoice.{IsLeastConstant}
use Rattle.lp_fraction_dict.proofs.Kept.{length-rows}
use Rattle.lp_fraction_dict.proofs.Choices.{constant_skips, constant_takes}
use Rattle.lp_fraction_dict.proofs.choice.least_constant.Goals as goal

pub loop-place-preserved-then-not-is_below_zero : goal.loop-place-preserved-then-not-is_below_zero
loop-place-preserved-then-not-is_below_zero g c =
    constant_skips g.F.ExactField.value (entries_of_rows c.args.rows.now) c.args.basic.now c.loop-place.place (omega (arith, length-rows c.args.rows.now)) c.number_of_row-constant.result c.number_of_row-constant.ensures c.loop-place.best c.loop-place.invariant (λ below. both_ways c.is_below_zero.result c.if-not-is_below_zero.true (c.is_below_zero.ensures.1 below))

pub loop-place-preserved : goal.loop-place-preserved
loop-place-preserved g c =
    constant_takes g.F.ExactField.value (entries_of_rows c.args.rows.now) c.args.basic.now c.loop-place.place (omega (arith, length-rows c.args.rows.now)) c.number_of_row-constant.result c.number_of_row-constant.ensures c.loop-place.best (record { measure = c.number_of_row-constant.result; variable = slice_index_or c.args.basic.now c.loop-place.place 0 }) c.lesser.result c.loop-place.invariant (c.is_below_zero.ensures.0 c.if-not-is_below_zero.false) refl refl c.lesser.ensures

pub returns : goal.returns
returns g c =
    subst (λ n. IsLeastConstant g.F.ExactField.value (entries_of_rows c.args.rows.now) c.args.basic.now n c.loop-place.best) (omega arith) c.loop-place.invariant
