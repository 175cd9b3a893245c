use Rattle.std.proofs.Common.{◌+◌, ◌-◌, length, take, drop, ap, arith}
use Rattle.std.proofs.lemmas.List.{length-drop, take_rest}
use Rattle.lp_core.specs.StandardForm as form
use Rattle.lp_core.specs.Steps.{count_of_rows}
use Rattle.lp_std.proofs.Shapes.{rows_few}
use Rattle.lp_std.proofs.Recovers.{duals_are}
use Rattle.lp_std.proofs.recovery.rows_back.Goals as goal

pub duals_of-requires-clause-few : goal.duals_of-requires-clause-few
duals_of-requires-clause-few g c =
    omega (arith, ap count_of_rows c.as_slice.ensures, rows_few g.F.ExactField.value c.args.lp.now c.requires.well_formed)

pub duals_of-requires-clause-within_bound : goal.duals_of-requires-clause-within_bound
duals_of-requires-clause-within_bound g c =
    omega (arith, ap length (take_rest c.as_slice-costs.result.now (c.args.variables + 1)), length-drop (c.args.variables + 1) c.as_slice-costs.result.now, ap length c.as_slice-costs.ensures, c.requires.sized, c.requires.variables, ap count_of_rows c.as_slice.ensures)

pub returns : goal.returns
returns g c =
    duals_are g.F.ExactField.value g.F.ExactField.limit c.args.maximize c.args.variables (form.variables_of g.F.ExactField.value c.args.lp.now) c.as_slice.result.now c.args.lp.now.rows c.args.dict.now.costs c.as_slice-costs.result.now (take (length c.as_slice-costs.result.now - (c.args.variables + 1)) (drop (c.args.variables + 1) c.as_slice-costs.result.now)) c.duals_of.result c.as_slice.ensures c.as_slice-costs.ensures (take_rest c.as_slice-costs.result.now (c.args.variables + 1)) c.requires.variables c.duals_of.ensures
