use Rattle.std.proofs.Common.{◌≡◌, ◌<◌, ◌∙◌, [], ◌∷◌, None, Some, length, map, sym, ap, subst, arith, refl}
use Rattle.std.proofs.lemmas.List.{drop_all, take_all}
use Rattle.std.proofs.lemmas.List.Elements.{All-get_or}
use Rattle.std.proofs.lemmas.Result.{err_from_is_err_and}
use Rattle.gq_number.specs.Number.{◌*ℚ◌}
use Rattle.gq_number.proofs.Sums.{sum_by_ℚ-nil}
use Rattle.gq_field.specs.Fits.{sum_fits}
use Rattle.lp_core.specs.declared.answer.StepName.TheVariants.{Recover}
use Rattle.lp_core.specs.Sums.{row_sum}
use Rattle.lp_core.specs.Steps.{product_fits, row_level_steps}
use Rattle.lp_std.specs.InnerSteps.{first_stop}
use Rattle.lp_std.proofs.EntrySums.{entry_goes, entry_stops, sum_more}
use Rattle.lp_std.proofs.levels.row_level_of.Goals as goal

pub loop-column-init : goal.loop-column-init
loop-column-init g c =
    record {
      counted = refl;
      steps = ap (λ n. first_stop (row_level_steps g.F.ExactField.value g.F.ExactField.limit c.args.i 0 n c.args.entries.now (map g.F.ExactField.value c.args.levels.now))) (sym c.zero-sum.ensures);
      summed = c.zero-sum.ensures ∙ sym (sum_by_ℚ-nil _);
    }

pub loop-column-preserved : goal.loop-column-preserved
loop-column-preserved g c =
    let there = subst (λ d. d.0 < length c.args.levels.now) (sym c.loop-column-item.is) (All-get_or (λ d. d.0 < length c.args.levels.now) c.args.entries.now c.loop-column.column-index c.loop-column-item.result c.loop-column-test.true c.requires.there) in
    let fit = subst (λ n. first_stop ((Recover 1 c.args.i n 0, product_fits g.F.ExactField.limit (g.F.ExactField.value c.loop-column-item.result.1) (g.F.ExactField.value c.index-levels-column.result)) ∷ (Recover 1 c.args.i n 1, sum_fits g.F.ExactField.limit (g.F.ExactField.value c.loop-column.sum) (g.F.ExactField.value c.loop-column-item.result.1 *ℚ g.F.ExactField.value c.index-levels-column.result)) ∷ []) ≡ None) c.loop-column.invariant.counted c.in_ok-sum.ensures.0 in
    record {
      counted = omega (arith, c.loop-column.invariant.counted);
      steps = c.loop-column.invariant.steps ∙ entry_goes g.F.ExactField.value g.F.ExactField.limit c.args.i c.args.entries.now c.args.levels.now c.loop-column.column-index c.loop-column-item.result c.index-levels-column.result c.loop-column-test.true c.loop-column-item.is there c.index-levels-column.is (g.F.ExactField.value c.loop-column.sum) (g.F.ExactField.value c.in_ok-sum.sum) fit c.in_ok-sum.ensures.1;
      summed = sum_more g.F.ExactField.value g.F.ExactField.limit c.args.i c.args.entries.now c.args.levels.now c.loop-column.column-index c.loop-column-item.result c.index-levels-column.result c.loop-column-test.true c.loop-column-item.is there c.index-levels-column.is (g.F.ExactField.value c.loop-column.sum) (g.F.ExactField.value c.in_ok-sum.sum) c.loop-column.invariant.summed c.in_ok-sum.ensures.1;
    }

pub returns-in_err-sum : goal.returns-in_err-sum
returns-in_err-sum g c =
    let p = err_from_is_err_and c.from_residual.result c.from_residual.ensures.1 in
    let there = subst (λ d. d.0 < length c.args.levels.now) (sym c.loop-column-item.is) (All-get_or (λ d. d.0 < length c.args.levels.now) c.args.entries.now c.loop-column.column-index c.loop-column-item.result c.loop-column-test.true c.requires.there) in
    let stop = subst (λ n. first_stop ((Recover 1 c.args.i n 0, product_fits g.F.ExactField.limit (g.F.ExactField.value c.loop-column-item.result.1) (g.F.ExactField.value c.index-levels-column.result)) ∷ (Recover 1 c.args.i n 1, sum_fits g.F.ExactField.limit (g.F.ExactField.value c.loop-column.sum) (g.F.ExactField.value c.loop-column-item.result.1 *ℚ g.F.ExactField.value c.index-levels-column.result)) ∷ []) ≡ Some c.in_err-sum.field-0.0) c.loop-column.invariant.counted c.in_err-sum.ensures in
    rw (p.1, p.2) (c.loop-column.invariant.steps ∙ entry_stops g.F.ExactField.value g.F.ExactField.limit c.args.i c.args.entries.now c.args.levels.now c.loop-column.column-index c.loop-column-item.result c.index-levels-column.result c.loop-column-test.true c.loop-column-item.is there c.index-levels-column.is (g.F.ExactField.value c.loop-column.sum) c.in_err-sum.field-0.0 stop)

pub returns : goal.returns
returns g c = (
  c.loop-column.invariant.steps ∙ ap (λ es. first_stop (row_level_steps g.F.ExactField.value g.F.ExactField.limit c.args.i c.loop-column.column-index (g.F.ExactField.value c.loop-column.sum) es (map g.F.ExactField.value c.args.levels.now))) (drop_all c.loop-column.column-index c.args.entries.now (omega arith)),
  c.loop-column.invariant.summed ∙ ap (λ es. row_sum g.F.ExactField.value es (map g.F.ExactField.value c.args.levels.now)) (take_all c.loop-column.column-index c.args.entries.now (omega arith)),
)
