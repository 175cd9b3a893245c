use Rattle.std.proofs.Common.{◌≡◌, string_bytes}
use Rattle.std.proofs.lemmas.Result.{IfOk-weaker}
use Rattle.lp_core.specs.Numbers.{answer_numbers}
use Rattle.gms_list.specs.InnerSolves.{status_lines}
use Rattle.gms_list.proofs.SolveLines.{statuses_of, solver_line_of, model_line_of}
use Rattle.gms_list.proofs.solves.status_lines.Goals as goal

pub returns : goal.returns
returns g c =
    let value = g.F.ExactField.value in
    let status = c.solve_status-status.result in
    let is = c.solve_status-status.ensures in
    IfOk-weaker c.format.result _ (λ text. string_bytes text ≡ status_lines c.args.s.now.settings.iterlim (value c.args.s.now.objective_level) (answer_numbers value c.args.answer.now))
    (λ text e. statuses_of value c.args.answer.now _ _ _ _ (value c.args.s.now.objective_level) c.len-pivots.result c.args.s.now.settings.iterlim e
    (solver_line_of value c.args.answer.now.end _ status is c.in_ok-solver.ensures) (model_line_of value c.args.answer.now.end _ status is c.in_ok-model.ensures) c.amount-level.ensures c.len-pivots.ensures) c.format.ensures.ok
