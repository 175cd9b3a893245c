use Rattle.std.proofs.Common.{arith, get_or, ap, flat_map}
use Rattle.lp_core.specs.Numbers.{lp_numbers}
use Rattle.gms_list.specs.InnerSolves.{solution_in}
use Rattle.gms_list.proofs.AppendedPieces.{traversal, loop_step, loop_broke, loop_done, map_same, same_at}
use Rattle.gms_list.specs.SolveText.{equation_points}
use Rattle.gms_list.proofs.listing.Listing.push_all_rows.Goals as goal

pub loop-equation-init : goal.loop-equation-init
loop-equation-init g c = traversal _ (ap (λ ns. flat_map (equation_points c.args.p.now.names c.args.p.now.labels g.F.ExactField.limit (lp_numbers g.F.ExactField.value c.args.lp.now) (solution_in g.F.ExactField.value c.args.solution)) ns) (map_same c.args.equations.now))

pub loop-equation-preserved : goal.loop-equation-preserved
loop-equation-preserved g c =
    loop_step (equation_points c.args.p.now.names c.args.p.now.labels g.F.ExactField.limit (lp_numbers g.F.ExactField.value c.args.lp.now) (solution_in g.F.ExactField.value c.args.solution)) (λ n. n) c.args.equations.now c.loop-equation.equation-index (get_or c.args.equations.now c.loop-equation.equation-index 0) (omega arith) (same_at c.args.equations.now c.loop-equation.equation-index 0 _ (omega arith)) c.loop-equation.invariant c.in_ok-push_equation_points.ensures

pub returns-in_err-push_equation_points : goal.returns-in_err-push_equation_points
returns-in_err-push_equation_points g c =
    loop_broke (equation_points c.args.p.now.names c.args.p.now.labels g.F.ExactField.limit (lp_numbers g.F.ExactField.value c.args.lp.now) (solution_in g.F.ExactField.value c.args.solution)) (λ n. n) c.args.equations.now c.loop-equation.equation-index (get_or c.args.equations.now c.loop-equation.equation-index 0) (omega arith) (same_at c.args.equations.now c.loop-equation.equation-index 0 _ (omega arith)) c.loop-equation.invariant c.from_residual.result c.from_residual.ensures.0 c.in_err-push_equation_points.ensures

pub returns : goal.returns
returns g c = loop_done (equation_points c.args.p.now.names c.args.p.now.labels g.F.ExactField.limit (lp_numbers g.F.ExactField.value c.args.lp.now) (solution_in g.F.ExactField.value c.args.solution)) (λ n. n) c.args.equations.now c.loop-equation.equation-index (omega arith) c.loop-equation.invariant
