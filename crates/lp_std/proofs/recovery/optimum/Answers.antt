use Rattle.std.proofs.Common.{◌++◌, ◌∙◌, map, ap}
use Rattle.std.proofs.lemmas.Result.{err_from_is_err_and}
use Rattle.lp_core.specs.StandardForm as form
use Rattle.lp_core.specs.Steps.{levels_steps, row_levels_steps, duals_steps, reduced_costs_steps}
use Rattle.lp_std.specs.Last.{last_value}
use Rattle.lp_std.proofs.Stops.{stop_after}
use Rattle.lp_std.proofs.RowSteps.{stops_on, stops_in_prefix}
use Rattle.lp_std.proofs.recovery.optimum.Goals as goal

pub returns-in_err-point : goal.returns-in_err-point
returns-in_err-point g c =
    let p = err_from_is_err_and c.from_residual.result c.from_residual.ensures.1 in
    rw (p.1, p.2) (stops_in_prefix (((levels_steps g.F.ExactField.value g.F.ExactField.limit c.args.lp.now (last_value g.F.ExactField.value c.args.dict.now)) ++ (row_levels_steps g.F.ExactField.value g.F.ExactField.limit c.args.lp.now (last_value g.F.ExactField.value c.args.dict.now))) ++ (duals_steps g.F.ExactField.value g.F.ExactField.limit c.args.lp.now (last_value g.F.ExactField.value c.args.dict.now))) (reduced_costs_steps g.F.ExactField.value g.F.ExactField.limit c.args.lp.now (last_value g.F.ExactField.value c.args.dict.now)) c.in_err-point.field-0.0 (stops_in_prefix ((levels_steps g.F.ExactField.value g.F.ExactField.limit c.args.lp.now (last_value g.F.ExactField.value c.args.dict.now)) ++ (row_levels_steps g.F.ExactField.value g.F.ExactField.limit c.args.lp.now (last_value g.F.ExactField.value c.args.dict.now))) (duals_steps g.F.ExactField.value g.F.ExactField.limit c.args.lp.now (last_value g.F.ExactField.value c.args.dict.now)) c.in_err-point.field-0.0 c.in_err-point.ensures.err))

pub returns-in_err-duals : goal.returns-in_err-duals
returns-in_err-duals g c =
    let p = err_from_is_err_and c.from_residual-in_err-duals.result c.from_residual-in_err-duals.ensures.1 in
    rw (p.1, p.2) (stops_in_prefix (((levels_steps g.F.ExactField.value g.F.ExactField.limit c.args.lp.now (last_value g.F.ExactField.value c.args.dict.now)) ++ (row_levels_steps g.F.ExactField.value g.F.ExactField.limit c.args.lp.now (last_value g.F.ExactField.value c.args.dict.now))) ++ (duals_steps g.F.ExactField.value g.F.ExactField.limit c.args.lp.now (last_value g.F.ExactField.value c.args.dict.now))) (reduced_costs_steps g.F.ExactField.value g.F.ExactField.limit c.args.lp.now (last_value g.F.ExactField.value c.args.dict.now)) c.in_err-duals.field-0.0 (stops_on (((levels_steps g.F.ExactField.value g.F.ExactField.limit c.args.lp.now (last_value g.F.ExactField.value c.args.dict.now)) ++ (row_levels_steps g.F.ExactField.value g.F.ExactField.limit c.args.lp.now (last_value g.F.ExactField.value c.args.dict.now))) ++ (duals_steps g.F.ExactField.value g.F.ExactField.limit c.args.lp.now (last_value g.F.ExactField.value c.args.dict.now))) (duals_steps g.F.ExactField.value g.F.ExactField.limit c.args.lp.now (last_value g.F.ExactField.value c.args.dict.now)) c.in_err-duals.field-0.0 (stop_after ((levels_steps g.F.ExactField.value g.F.ExactField.limit c.args.lp.now (last_value g.F.ExactField.value c.args.dict.now)) ++ (row_levels_steps g.F.ExactField.value g.F.ExactField.limit c.args.lp.now (last_value g.F.ExactField.value c.args.dict.now))) (duals_steps g.F.ExactField.value g.F.ExactField.limit c.args.lp.now (last_value g.F.ExactField.value c.args.dict.now)) c.in_ok-point.ensures.all_fit) c.in_err-duals.ensures))

pub returns-in_err-reduced : goal.returns-in_err-reduced
returns-in_err-reduced g c =
    let p = err_from_is_err_and c.from_residual-in_err-reduced.result c.from_residual-in_err-reduced.ensures.1 in
    rw (p.1, p.2) (stops_on (((levels_steps g.F.ExactField.value g.F.ExactField.limit c.args.lp.now (last_value g.F.ExactField.value c.args.dict.now)) ++ (row_levels_steps g.F.ExactField.value g.F.ExactField.limit c.args.lp.now (last_value g.F.ExactField.value c.args.dict.now))) ++ (duals_steps g.F.ExactField.value g.F.ExactField.limit c.args.lp.now (last_value g.F.ExactField.value c.args.dict.now)) ++ (reduced_costs_steps g.F.ExactField.value g.F.ExactField.limit c.args.lp.now (last_value g.F.ExactField.value c.args.dict.now))) (reduced_costs_steps g.F.ExactField.value g.F.ExactField.limit c.args.lp.now (last_value g.F.ExactField.value c.args.dict.now)) c.in_err-reduced.field-0.0 (stop_after (((levels_steps g.F.ExactField.value g.F.ExactField.limit c.args.lp.now (last_value g.F.ExactField.value c.args.dict.now)) ++ (row_levels_steps g.F.ExactField.value g.F.ExactField.limit c.args.lp.now (last_value g.F.ExactField.value c.args.dict.now))) ++ (duals_steps g.F.ExactField.value g.F.ExactField.limit c.args.lp.now (last_value g.F.ExactField.value c.args.dict.now))) (reduced_costs_steps g.F.ExactField.value g.F.ExactField.limit c.args.lp.now (last_value g.F.ExactField.value c.args.dict.now)) (stop_after ((levels_steps g.F.ExactField.value g.F.ExactField.limit c.args.lp.now (last_value g.F.ExactField.value c.args.dict.now)) ++ (row_levels_steps g.F.ExactField.value g.F.ExactField.limit c.args.lp.now (last_value g.F.ExactField.value c.args.dict.now))) (duals_steps g.F.ExactField.value g.F.ExactField.limit c.args.lp.now (last_value g.F.ExactField.value c.args.dict.now)) c.in_ok-point.ensures.all_fit ∙ c.in_ok-duals.ensures.0)) c.in_err-reduced.ensures)

pub returns : goal.returns
returns g c = (
  stop_after (((levels_steps g.F.ExactField.value g.F.ExactField.limit c.args.lp.now (last_value g.F.ExactField.value c.args.dict.now)) ++ (row_levels_steps g.F.ExactField.value g.F.ExactField.limit c.args.lp.now (last_value g.F.ExactField.value c.args.dict.now))) ++ (duals_steps g.F.ExactField.value g.F.ExactField.limit c.args.lp.now (last_value g.F.ExactField.value c.args.dict.now))) (reduced_costs_steps g.F.ExactField.value g.F.ExactField.limit c.args.lp.now (last_value g.F.ExactField.value c.args.dict.now)) (stop_after ((levels_steps g.F.ExactField.value g.F.ExactField.limit c.args.lp.now (last_value g.F.ExactField.value c.args.dict.now)) ++ (row_levels_steps g.F.ExactField.value g.F.ExactField.limit c.args.lp.now (last_value g.F.ExactField.value c.args.dict.now))) (duals_steps g.F.ExactField.value g.F.ExactField.limit c.args.lp.now (last_value g.F.ExactField.value c.args.dict.now)) c.in_ok-point.ensures.all_fit ∙ c.in_ok-duals.ensures.0) ∙ c.in_ok-reduced.ensures.0,
  (ap (map g.F.ExactField.value) c.new.ensures ∙ c.in_ok-point.ensures.levels, ap (map g.F.ExactField.value) c.new-2.ensures ∙ c.in_ok-point.ensures.row_levels, ap (map g.F.ExactField.value) c.new-3.ensures ∙ c.in_ok-duals.ensures.1 ∙ ap (λ n. map (form.directed c.args.lp.now.maximize) (form.duals_from (form.multiplier n (map g.F.ExactField.value c.args.dict.now.costs)) 0 c.args.lp.now.rows)) c.requires.variables, ap (map g.F.ExactField.value) c.new-4.ensures ∙ c.in_ok-reduced.ensures.1),
)
