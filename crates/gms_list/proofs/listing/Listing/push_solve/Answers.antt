use Rattle.std.proofs.Common.{ap}
use Rattle.lp_core.specs.Numbers.{lp_numbers, end_numbers}
use Rattle.gms_list.specs.SolveText.{proof_text}
use Rattle.gms_list.proofs.AppendedPieces.{step, broke, last, reshaped}
use Rattle.gms_list.proofs.SolveLines.{solve_begun}
use Rattle.gms_list.proofs.listing.Listing.push_solve.Goals as goal

pub returns-in_err-push_solve_head : goal.returns-in_err-push_solve_head
returns-in_err-push_solve_head g c = λ place.
    broke c.from_residual.result c.from_residual.ensures.0 _ _ (solve_begun c.args.p.now.names c.args.p.now.labels g.F.ExactField.limit g.F.ExactField.value place c.args.s.now c.args.answer.now _) (c.in_err-push_solve_head.ensures place)

pub returns-in_err-push_equations : goal.returns-in_err-push_equations
returns-in_err-push_equations g c = λ place.
    broke c.from_residual-in_err-push_equations.result c.from_residual-in_err-push_equations.ensures.0 _ _
    (step _ _ (solve_begun c.args.p.now.names c.args.p.now.labels g.F.ExactField.limit g.F.ExactField.value place c.args.s.now c.args.answer.now _) (c.in_ok-push_solve_head.ensures place)) c.in_err-push_equations.ensures

pub returns-in_err-push_variables : goal.returns-in_err-push_variables
returns-in_err-push_variables g c = λ place.
    broke c.from_residual-in_err-push_variables.result c.from_residual-in_err-push_variables.ensures.0 _ _
    (step _ _ (step _ _ (solve_begun c.args.p.now.names c.args.p.now.labels g.F.ExactField.limit g.F.ExactField.value place c.args.s.now c.args.answer.now _) (c.in_ok-push_solve_head.ensures place)) c.in_ok-push_equations.ensures) c.in_err-push_variables.ensures

pub returns-in_err-push_summary : goal.returns-in_err-push_summary
returns-in_err-push_summary g c = λ place.
    broke c.from_residual-in_err-push_summary.result c.from_residual-in_err-push_summary.ensures.0 _ _
    (step _ _ (step _ _ (step _ _ (solve_begun c.args.p.now.names c.args.p.now.labels g.F.ExactField.limit g.F.ExactField.value place c.args.s.now c.args.answer.now _) (c.in_ok-push_solve_head.ensures place)) c.in_ok-push_equations.ensures) c.in_ok-push_variables.ensures) (c.in_err-push_summary.ensures place)

pub returns-in_err-push_levels : goal.returns-in_err-push_levels
returns-in_err-push_levels g c = λ place.
    broke c.from_residual-in_err-push_levels.result c.from_residual-in_err-push_levels.ensures.0 _ _
    (step _ _ (step _ _ (step _ _ (step _ _ (solve_begun c.args.p.now.names c.args.p.now.labels g.F.ExactField.limit g.F.ExactField.value place c.args.s.now c.args.answer.now _) (c.in_ok-push_solve_head.ensures place)) c.in_ok-push_equations.ensures) c.in_ok-push_variables.ensures) (c.in_ok-push_summary.ensures place)) c.in_err-push_levels.ensures

pub returns : goal.returns
returns g c = λ place.
    last _ _ c.push_proof.result
    (step _ _ (step _ _ (step _ _ (step _ _ (step _ _ (solve_begun c.args.p.now.names c.args.p.now.labels g.F.ExactField.limit g.F.ExactField.value place c.args.s.now c.args.answer.now _) (c.in_ok-push_solve_head.ensures place)) c.in_ok-push_equations.ensures) c.in_ok-push_variables.ensures) (c.in_ok-push_summary.ensures place)) c.in_ok-push_levels.ensures)
    (reshaped _ _ _ _ c.push_proof.result (ap (λ pivots. proof_text c.args.p.now.names c.args.p.now.labels g.F.ExactField.limit (lp_numbers g.F.ExactField.value c.args.s.now.lp.now) pivots (end_numbers g.F.ExactField.value c.args.answer.now.end)) c.len-pivots.ensures) c.push_proof.ensures)
