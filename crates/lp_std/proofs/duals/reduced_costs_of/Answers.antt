use Rattle.std.proofs.Common.{◌<◌, ◌+◌, ◌++◌, ◌∙◌, length, map, drop, ap, refl, sym, subst, arith}
use Rattle.std.proofs.lemmas.List.Elements.{All-get_or}
use Rattle.std.proofs.lemmas.Result.{err_from_is_err_and}
use Rattle.lp_core.specs.StandardForm as form
use Rattle.lp_core.specs.Steps.{reduced_steps}
use Rattle.lp_std.specs.InnerSteps.{first_stop, placed_value, slack_multiplier}
use Rattle.lp_std.proofs.EntrySums.{reduced_goes, reduced_stops, reduced_made, own_count, reduced_steps_end, reduced_end}
use Rattle.lp_std.proofs.duals.reduced_costs_of.Goals as goal

pub reduced_of-requires-clause-there : goal.reduced_of-requires-clause-there
reduced_of-requires-clause-there g c =
    subst (λ p. p.0 < length c.args.costs.now) (sym c.index-columns-j.is) (All-get_or (λ p. p.0 < length c.args.costs.now) c.args.columns.now c.loop-j.j c.index-columns-j.result (omega (arith, c.requires.sized)) c.requires.there)

pub reduced_of-requires-clause-within_bound : goal.reduced_of-requires-clause-within_bound
reduced_of-requires-clause-within_bound g c =
    omega (arith, c.requires.within_bound, c.loop-j.invariant.counted, own_count g.F.ExactField.value g.F.ExactField.limit (map g.F.ExactField.value c.args.costs.now) (slack_multiplier g.F.ExactField.value c.args.slacks.now) c.args.maximize c.args.columns.now c.args.bounded.now c.loop-j.j c.index-bounded-j.result c.index-columns-j.result (omega arith) c.index-bounded-j.is (omega (arith, c.requires.sized)) c.index-columns-j.is)

pub overflow_add-place : goal.overflow_add-place
overflow_add-place g c =
    omega (arith, c.requires.few, c.loop-j.invariant.counted, c.rows_by_bounds-place.ensures, own_count g.F.ExactField.value g.F.ExactField.limit (map g.F.ExactField.value c.args.costs.now) (slack_multiplier g.F.ExactField.value c.args.slacks.now) c.args.maximize c.args.columns.now c.args.bounded.now c.loop-j.j c.index-bounded-j.result c.index-columns-j.result (omega arith) c.index-bounded-j.is (omega (arith, c.requires.sized)) c.index-columns-j.is)

pub loop-j-init : goal.loop-j-init
loop-j-init g c =
    record {
      counted = refl;
      steps = refl;
      made = ap (λ items. map g.F.ExactField.value items ++ map (form.directed c.args.maximize) (form.reduced_from (map g.F.ExactField.value c.args.costs.now) (slack_multiplier g.F.ExactField.value c.args.slacks.now) c.args.first (placed_value g.F.ExactField.value c.args.columns.now) c.args.bounded.now)) c.new-reduced.ensures.items;
    }

pub loop-j-preserved : goal.loop-j-preserved
loop-j-preserved g c =
    record {
      counted = omega (arith, c.loop-j.invariant.counted, c.rows_by_bounds-place.ensures, own_count g.F.ExactField.value g.F.ExactField.limit (map g.F.ExactField.value c.args.costs.now) (slack_multiplier g.F.ExactField.value c.args.slacks.now) c.args.maximize c.args.columns.now c.args.bounded.now c.loop-j.j c.index-bounded-j.result c.index-columns-j.result (omega arith) c.index-bounded-j.is (omega (arith, c.requires.sized)) c.index-columns-j.is);
      steps = c.loop-j.invariant.steps ∙ reduced_goes g.F.ExactField.value g.F.ExactField.limit (map g.F.ExactField.value c.args.costs.now) (slack_multiplier g.F.ExactField.value c.args.slacks.now) c.args.maximize c.args.columns.now c.args.bounded.now c.loop-j.j c.index-bounded-j.result c.index-columns-j.result (omega arith) c.index-bounded-j.is (omega (arith, c.requires.sized)) c.index-columns-j.is c.loop-j.place c.in_ok-cost.ensures.0 ∙ ap (λ n. first_stop (reduced_steps g.F.ExactField.limit (map g.F.ExactField.value c.args.costs.now) (slack_multiplier g.F.ExactField.value c.args.slacks.now) (c.loop-j.j + 1) (c.loop-j.place + n) (placed_value g.F.ExactField.value (drop (c.loop-j.j + 1) c.args.columns.now)) (drop (c.loop-j.j + 1) c.args.bounded.now))) (sym c.rows_by_bounds-place.ensures);
      made = rw (c.in_ok-push.ensures.items, c.rows_by_bounds-place.ensures) (reduced_made g.F.ExactField.value g.F.ExactField.limit (map g.F.ExactField.value c.args.costs.now) (slack_multiplier g.F.ExactField.value c.args.slacks.now) c.args.maximize c.args.columns.now c.args.bounded.now c.loop-j.j c.index-bounded-j.result c.index-columns-j.result (omega arith) c.index-bounded-j.is (omega (arith, c.requires.sized)) c.index-columns-j.is c.loop-j.reduced.items c.directed.result c.loop-j.place (c.directed.ensures ∙ ap (form.directed c.args.maximize) c.in_ok-cost.ensures.1) ∙ c.loop-j.invariant.made);
    }

pub returns-in_err-cost : goal.returns-in_err-cost
returns-in_err-cost g c =
    let p = err_from_is_err_and c.from_residual.result c.from_residual.ensures.1 in
    rw (p.1, p.2) (c.loop-j.invariant.steps ∙ reduced_stops g.F.ExactField.value g.F.ExactField.limit (map g.F.ExactField.value c.args.costs.now) (slack_multiplier g.F.ExactField.value c.args.slacks.now) c.args.maximize c.args.columns.now c.args.bounded.now c.loop-j.j c.index-bounded-j.result c.index-columns-j.result (omega arith) c.index-bounded-j.is (omega (arith, c.requires.sized)) c.index-columns-j.is c.loop-j.place c.in_err-cost.field-0.0 c.in_err-cost.ensures)

pub returns : goal.returns
returns g c = (
  c.loop-j.invariant.steps ∙ reduced_steps_end g.F.ExactField.value g.F.ExactField.limit (map g.F.ExactField.value c.args.costs.now) (slack_multiplier g.F.ExactField.value c.args.slacks.now) c.args.maximize c.args.columns.now c.args.bounded.now c.loop-j.j c.loop-j.place (omega arith) (omega (arith, c.requires.sized)),
  reduced_end g.F.ExactField.value g.F.ExactField.limit (map g.F.ExactField.value c.args.costs.now) (slack_multiplier g.F.ExactField.value c.args.slacks.now) c.args.maximize c.args.columns.now c.args.bounded.now c.loop-j.j c.loop-j.place (omega arith) (omega (arith, c.requires.sized)) c.loop-j.reduced.items ∙ c.loop-j.invariant.made,
)
