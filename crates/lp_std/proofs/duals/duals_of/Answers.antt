use Rattle.std.proofs.Common.{◌+◌, ◌++◌, ◌∙◌, map, drop, ap, refl, sym, arith}
use Rattle.std.proofs.lemmas.Result.{err_from_is_err_and}
use Rattle.lp_core.specs.StandardForm as form
use Rattle.lp_core.specs.Steps.{dual_steps}
use Rattle.lp_std.specs.InnerSteps.{first_stop, slack_multiplier}
use Rattle.lp_std.proofs.EntrySums.{dual_goes, dual_stops, dual_made, count_here, duals_end, dual_steps_end}
use Rattle.lp_std.proofs.duals.duals_of.Goals as goal

pub dual_of-requires : goal.dual_of-requires
dual_of-requires g c =
    omega (arith, c.requires.within_bound, c.loop-i.invariant.counted, count_here g.F.ExactField.value g.F.ExactField.limit (slack_multiplier g.F.ExactField.value c.args.slacks.now) c.args.maximize c.args.rows.now c.loop-i.i c.index-rows-i.result (omega arith) c.index-rows-i.is)

pub overflow_add-place : goal.overflow_add-place
overflow_add-place g c =
    omega (arith, c.requires.few, c.loop-i.invariant.counted, c.rows_by_sense-place.ensures, count_here g.F.ExactField.value g.F.ExactField.limit (slack_multiplier g.F.ExactField.value c.args.slacks.now) c.args.maximize c.args.rows.now c.loop-i.i c.index-rows-i.result (omega arith) c.index-rows-i.is)

pub loop-i-init : goal.loop-i-init
loop-i-init g c =
    record {
      counted = omega arith;
      steps = refl;
      made = ap (λ items. map g.F.ExactField.value items ++ map (form.directed c.args.maximize) (form.duals_from (slack_multiplier g.F.ExactField.value c.args.slacks.now) 0 c.args.rows.now)) c.new-duals.ensures.items;
    }

pub loop-i-preserved : goal.loop-i-preserved
loop-i-preserved g c =
    record {
      counted = omega (arith, c.loop-i.invariant.counted, c.rows_by_sense-place.ensures, count_here g.F.ExactField.value g.F.ExactField.limit (slack_multiplier g.F.ExactField.value c.args.slacks.now) c.args.maximize c.args.rows.now c.loop-i.i c.index-rows-i.result (omega arith) c.index-rows-i.is);
      steps = c.loop-i.invariant.steps ∙ dual_goes g.F.ExactField.value g.F.ExactField.limit (slack_multiplier g.F.ExactField.value c.args.slacks.now) c.args.maximize c.args.rows.now c.loop-i.i c.index-rows-i.result (omega arith) c.index-rows-i.is c.loop-i.place c.in_ok-dual.ensures.0 ∙ ap (λ n. first_stop (dual_steps g.F.ExactField.limit (slack_multiplier g.F.ExactField.value c.args.slacks.now) (c.loop-i.i + 1) (c.loop-i.place + n) (drop (c.loop-i.i + 1) c.args.rows.now))) (sym c.rows_by_sense-place.ensures);
      made = rw (c.in_ok-push.ensures.items, c.rows_by_sense-place.ensures) (dual_made g.F.ExactField.value g.F.ExactField.limit (slack_multiplier g.F.ExactField.value c.args.slacks.now) c.args.maximize c.args.rows.now c.loop-i.i c.index-rows-i.result (omega arith) c.index-rows-i.is c.loop-i.duals.items c.directed.result c.loop-i.place (c.directed.ensures ∙ ap (form.directed c.args.maximize) c.in_ok-dual.ensures.1) ∙ c.loop-i.invariant.made);
    }

pub returns-in_err-dual : goal.returns-in_err-dual
returns-in_err-dual g c =
    let p = err_from_is_err_and c.from_residual.result c.from_residual.ensures.1 in
    rw (p.1, p.2) (c.loop-i.invariant.steps ∙ dual_stops g.F.ExactField.value g.F.ExactField.limit (slack_multiplier g.F.ExactField.value c.args.slacks.now) c.args.maximize c.args.rows.now c.loop-i.i c.index-rows-i.result (omega arith) c.index-rows-i.is c.loop-i.place c.in_err-dual.field-0.0 c.in_err-dual.ensures)

pub returns : goal.returns
returns g c = (
  c.loop-i.invariant.steps ∙ dual_steps_end g.F.ExactField.limit (slack_multiplier g.F.ExactField.value c.args.slacks.now) c.args.rows.now c.loop-i.i c.loop-i.place (omega arith),
  duals_end g.F.ExactField.value (slack_multiplier g.F.ExactField.value c.args.slacks.now) c.args.maximize c.args.rows.now c.loop-i.i c.loop-i.place c.loop-i.duals.items (omega arith) ∙ c.loop-i.invariant.made,
)
