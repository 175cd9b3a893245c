use Rattle.std.proofs.Common.{◌∙◌, arith, get_or, ap, flat_map}
use Rattle.lp_core.specs.Numbers.{lp_numbers}
use Rattle.gms_list.specs.InnerSolves.{solution_in}
use Rattle.gms_list.specs.SolveText.{variable_points}
use Rattle.gms_list.proofs.Counts.{variables_are}
use Rattle.gms_list.proofs.AppendedPieces.{traversal, loop_step, loop_broke, loop_done, map_same, same_at, untouched}
use Rattle.gms_list.proofs.listing.Listing.push_all_columns.Goals as goal

pub returns-in_err-variables : goal.returns-in_err-variables
returns-in_err-variables g c = untouched _ _ c.from_residual.result c.from_residual.ensures.0

pub loop-variable-init : goal.loop-variable-init
loop-variable-init g c = traversal _ (ap (λ ns. flat_map (variable_points c.args.p.now.names c.args.p.now.labels g.F.ExactField.limit (lp_numbers g.F.ExactField.value c.args.lp.now) (solution_in g.F.ExactField.value c.args.solution)) ns) (map_same c.as_slice-each.result.now ∙ (c.as_slice-each.ensures.value ∙ variables_are c.args.p.now.names c.args.p.now.labels g.F.ExactField.limit g.F.ExactField.value c.args.lp.now _ _ c.as_slice.ensures c.in_ok-variables.ensures)))

pub loop-variable-preserved : goal.loop-variable-preserved
loop-variable-preserved g c =
    loop_step (variable_points c.args.p.now.names c.args.p.now.labels g.F.ExactField.limit (lp_numbers g.F.ExactField.value c.args.lp.now) (solution_in g.F.ExactField.value c.args.solution)) (λ n. n) c.as_slice-each.result.now c.loop-variable.variable-index (get_or c.as_slice-each.result.now c.loop-variable.variable-index 0) (omega arith) (same_at c.as_slice-each.result.now c.loop-variable.variable-index 0 _ (omega arith)) c.loop-variable.invariant c.in_ok-push_variable_points.ensures

pub returns-in_err-push_variable_points : goal.returns-in_err-push_variable_points
returns-in_err-push_variable_points g c =
    loop_broke (variable_points c.args.p.now.names c.args.p.now.labels g.F.ExactField.limit (lp_numbers g.F.ExactField.value c.args.lp.now) (solution_in g.F.ExactField.value c.args.solution)) (λ n. n) c.as_slice-each.result.now c.loop-variable.variable-index (get_or c.as_slice-each.result.now c.loop-variable.variable-index 0) (omega arith) (same_at c.as_slice-each.result.now c.loop-variable.variable-index 0 _ (omega arith)) c.loop-variable.invariant c.from_residual-in_err-push_variable_points.result c.from_residual-in_err-push_variable_points.ensures.0 c.in_err-push_variable_points.ensures

pub returns : goal.returns
returns g c =
    loop_done (variable_points c.args.p.now.names c.args.p.now.labels g.F.ExactField.limit (lp_numbers g.F.ExactField.value c.args.lp.now) (solution_in g.F.ExactField.value c.args.solution)) (λ n. n) c.as_slice-each.result.now c.loop-variable.variable-index (omega arith) c.loop-variable.invariant
