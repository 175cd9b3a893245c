use Rattle.std.proofs.Common.{◌∙◌, ◌<◌, length, map, sym, ap, subst}
use Rattle.std.specs.List.{All, AllPairs}
use Rattle.std.proofs.lemmas.Result.{err_from_is_err_and}
use Rattle.lp_check.proofs.Bounded.{ordered, places, objective_there, few_steps, same_steps, bounds, bounds_stop, bounds_at_once, value_is, value_at_once, least_is, greatest_is, at_most_zero}
use Rattle.lp_check.proofs.Lengths.{few_columns}
use Rattle.lp_check.proofs.bound.dual_bound.Goals as goal

pub bound_over-requires-clause-sized : goal.bound_over-requires-clause-sized
bound_over-requires-clause-sized g c =
    c.requires.sized ∙ ap length (sym c.as_slice-rows.ensures)

pub bound_over-requires-clause-ordered : goal.bound_over-requires-clause-ordered
bound_over-requires-clause-ordered g c =
    subst (λ rows. All (λ row. AllPairs (λ a b. a.0 < b.0) row.entries) rows) (sym c.as_slice-rows.ensures) (ordered g.F.ExactField.value c.args.lp.now c.requires.formed)

pub bound_over-requires-clause-few : goal.bound_over-requires-clause-few
bound_over-requires-clause-few g c =
    rw c.as_slice-columns.ensures (few_columns g.F.ExactField.value g.F.ExactField.limit c.args.lp.now c.requires.formed)

pub bound_over-requires-clause-within_bound : goal.bound_over-requires-clause-within_bound
bound_over-requires-clause-within_bound g c =
    rw (same_steps g.F.ExactField.value g.F.ExactField.limit c.args.lp.now (map g.F.ExactField.value c.args.duals.now) c.args.with_objective c.requires.formed c.requires.there c.as_slice-rows.result.now c.as_slice-columns.result.now c.then_some-objective.result c.is_above-above.result c.as_slice-rows.ensures c.as_slice-columns.ensures c.then_some-objective.ensures c.is_above-above.ensures) (few_steps g.F.ExactField.value g.F.ExactField.limit c.args.lp.now (map g.F.ExactField.value c.args.duals.now) c.args.with_objective c.requires.formed c.requires.there)

pub returns-in_err-bound-clause-value : goal.returns-in_err-bound-clause-value
returns-in_err-bound-clause-value g c =
    let p = err_from_is_err_and c.from_residual.result c.from_residual.ensures.1 in
    rw (p.1, p.2) (bounds_stop g.F.ExactField.value g.F.ExactField.limit c.args.lp.now (map g.F.ExactField.value c.args.duals.now) c.args.with_objective c.requires.formed c.requires.there c.as_slice-rows.result.now c.as_slice-columns.result.now c.then_some-objective.result c.is_above-above.result c.as_slice-rows.ensures c.as_slice-columns.ensures c.then_some-objective.ensures c.is_above-above.ensures c.in_err-bound.field-0.0 c.in_err-bound.ensures)

pub returns-clause-value : goal.returns-clause-value
returns-clause-value g c =
    bounds g.F.ExactField.value g.F.ExactField.limit c.args.lp.now (map g.F.ExactField.value c.args.duals.now) c.args.with_objective c.requires.formed c.requires.there c.as_slice-rows.result.now c.as_slice-columns.result.now c.then_some-objective.result c.is_above-above.result c.as_slice-rows.ensures c.as_slice-columns.ensures c.then_some-objective.ensures c.is_above-above.ensures c.in_ok-bound.bound c.in_ok-bound.ensures

pub returns-clause-least : goal.returns-clause-least
returns-clause-least g c =
    λ x feasible with_it least. least_is g.F.ExactField.value g.F.ExactField.limit c.args.lp.now (map g.F.ExactField.value c.args.duals.now) (g.F.ExactField.value c.in_ok-bound.bound.sum) x c.args.with_objective c.requires.formed (value_is g.F.ExactField.value g.F.ExactField.limit c.args.lp.now (map g.F.ExactField.value c.args.duals.now) c.args.with_objective c.requires.formed c.requires.there c.as_slice-rows.result.now c.as_slice-columns.result.now c.then_some-objective.result c.is_above-above.result c.as_slice-rows.ensures c.as_slice-columns.ensures c.then_some-objective.ensures c.is_above-above.ensures c.in_ok-bound.bound c.in_ok-bound.ensures) feasible with_it least

pub returns-clause-greatest : goal.returns-clause-greatest
returns-clause-greatest g c =
    λ x feasible with_it greatest. greatest_is g.F.ExactField.value g.F.ExactField.limit c.args.lp.now (map g.F.ExactField.value c.args.duals.now) (g.F.ExactField.value c.in_ok-bound.bound.sum) x c.args.with_objective c.requires.formed (value_is g.F.ExactField.value g.F.ExactField.limit c.args.lp.now (map g.F.ExactField.value c.args.duals.now) c.args.with_objective c.requires.formed c.requires.there c.as_slice-rows.result.now c.as_slice-columns.result.now c.then_some-objective.result c.is_above-above.result c.as_slice-rows.ensures c.as_slice-columns.ensures c.then_some-objective.ensures c.is_above-above.ensures c.in_ok-bound.bound c.in_ok-bound.ensures) feasible with_it greatest

pub returns-clause-none : goal.returns-clause-none
returns-clause-none g c =
    λ x feasible without. at_most_zero g.F.ExactField.value g.F.ExactField.limit c.args.lp.now (map g.F.ExactField.value c.args.duals.now) (g.F.ExactField.value c.in_ok-bound.bound.sum) x c.args.with_objective c.requires.formed (value_is g.F.ExactField.value g.F.ExactField.limit c.args.lp.now (map g.F.ExactField.value c.args.duals.now) c.args.with_objective c.requires.formed c.requires.there c.as_slice-rows.result.now c.as_slice-columns.result.now c.then_some-objective.result c.is_above-above.result c.as_slice-rows.ensures c.as_slice-columns.ensures c.then_some-objective.ensures c.is_above-above.ensures c.in_ok-bound.bound c.in_ok-bound.ensures) feasible without

-- ---- where the bound is taken at once

pub bound_at_once-requires-clause-sized : goal.bound_at_once-requires-clause-sized
bound_at_once-requires-clause-sized g c =
    c.requires.sized ∙ ap length (sym c.as_slice-rows.ensures)

pub bound_at_once-requires-clause-ordered : goal.bound_at_once-requires-clause-ordered
bound_at_once-requires-clause-ordered g c =
    subst (λ rows. All (λ row. AllPairs (λ a b. a.0 < b.0) row.entries) rows) (sym c.as_slice-rows.ensures) (ordered g.F.ExactField.value c.args.lp.now c.requires.formed)

pub bound_at_once-requires-clause-there : goal.bound_at_once-requires-clause-there
bound_at_once-requires-clause-there g c =
    rw (c.as_slice-rows.ensures, c.as_slice-columns.ensures) (places g.F.ExactField.value c.args.lp.now c.requires.formed)

pub bound_at_once-requires-clause-objective : goal.bound_at_once-requires-clause-objective
bound_at_once-requires-clause-objective g c =
    rw (c.then_some-objective.ensures, c.as_slice-columns.ensures) (objective_there g.F.ExactField.value c.args.lp.now c.args.with_objective c.requires.formed)

pub bound_at_once-requires-clause-within_bound : goal.bound_at_once-requires-clause-within_bound
bound_at_once-requires-clause-within_bound g c =
    rw (same_steps g.F.ExactField.value g.F.ExactField.limit c.args.lp.now (map g.F.ExactField.value c.args.duals.now) c.args.with_objective c.requires.formed c.requires.there c.as_slice-rows.result.now c.as_slice-columns.result.now c.then_some-objective.result c.is_above-above.result c.as_slice-rows.ensures c.as_slice-columns.ensures c.then_some-objective.ensures c.is_above-above.ensures) (few_steps g.F.ExactField.value g.F.ExactField.limit c.args.lp.now (map g.F.ExactField.value c.args.duals.now) c.args.with_objective c.requires.formed c.requires.there)

pub returns-in-Some-clause-value : goal.returns-in-Some-clause-value
returns-in-Some-clause-value g c = bounds_at_once g.F.ExactField.value g.F.ExactField.limit c.args.lp.now (map g.F.ExactField.value c.args.duals.now) c.args.with_objective c.requires.formed c.requires.there c.as_slice-rows.result.now c.as_slice-columns.result.now c.then_some-objective.result c.is_above-above.result c.as_slice-rows.ensures c.as_slice-columns.ensures c.then_some-objective.ensures c.is_above-above.ensures c.in-Some.bound c.in-Some.ensures.fit c.in-Some.ensures.value

pub returns-in-Some-clause-least : goal.returns-in-Some-clause-least
returns-in-Some-clause-least g c =
    λ x feasible with_it least. least_is g.F.ExactField.value g.F.ExactField.limit c.args.lp.now (map g.F.ExactField.value c.args.duals.now) (g.F.ExactField.value c.in-Some.bound) x c.args.with_objective c.requires.formed (value_at_once g.F.ExactField.value g.F.ExactField.limit c.args.lp.now (map g.F.ExactField.value c.args.duals.now) c.args.with_objective c.requires.formed c.requires.there c.as_slice-rows.result.now c.as_slice-columns.result.now c.then_some-objective.result c.is_above-above.result c.as_slice-rows.ensures c.as_slice-columns.ensures c.then_some-objective.ensures c.is_above-above.ensures c.in-Some.bound c.in-Some.ensures.fit c.in-Some.ensures.value) feasible with_it least

pub returns-in-Some-clause-greatest : goal.returns-in-Some-clause-greatest
returns-in-Some-clause-greatest g c =
    λ x feasible with_it greatest. greatest_is g.F.ExactField.value g.F.ExactField.limit c.args.lp.now (map g.F.ExactField.value c.args.duals.now) (g.F.ExactField.value c.in-Some.bound) x c.args.with_objective c.requires.formed (value_at_once g.F.ExactField.value g.F.ExactField.limit c.args.lp.now (map g.F.ExactField.value c.args.duals.now) c.args.with_objective c.requires.formed c.requires.there c.as_slice-rows.result.now c.as_slice-columns.result.now c.then_some-objective.result c.is_above-above.result c.as_slice-rows.ensures c.as_slice-columns.ensures c.then_some-objective.ensures c.is_above-above.ensures c.in-Some.bound c.in-Some.ensures.fit c.in-Some.ensures.value) feasible with_it greatest

pub returns-in-Some-clause-none : goal.returns-in-Some-clause-none
returns-in-Some-clause-none g c =
    λ x feasible without. at_most_zero g.F.ExactField.value g.F.ExactField.limit c.args.lp.now (map g.F.ExactField.value c.args.duals.now) (g.F.ExactField.value c.in-Some.bound) x c.args.with_objective c.requires.formed (value_at_once g.F.ExactField.value g.F.ExactField.limit c.args.lp.now (map g.F.ExactField.value c.args.duals.now) c.args.with_objective c.requires.formed c.requires.there c.as_slice-rows.result.now c.as_slice-columns.result.now c.then_some-objective.result c.is_above-above.result c.as_slice-rows.ensures c.as_slice-columns.ensures c.then_some-objective.ensures c.is_above-above.ensures c.in-Some.bound c.in-Some.ensures.fit c.in-Some.ensures.value) feasible without
