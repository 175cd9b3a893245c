use Rattle.std.proofs.Common.{◌≡◌, ◌++◌, string_bytes, codes, decimal}
use Rattle.std.proofs.lemmas.Result.{IfOk-weaker}
use Rattle.gms_store.specs.Statuses.{solver_number, solver_text}
use Rattle.gms_list.specs.Amounts.{line_of}
use Rattle.gms_list.proofs.Shapes.{status_line}
use Rattle.gms_list.proofs.solves.solver_line.Goals as goal

pub returns : goal.returns
returns c =
    IfOk-weaker c.format.result _ (λ text. string_bytes text ≡ line_of (codes "SOLVER STATUS " ++ decimal (solver_number c.args.status) ++ codes " " ++ solver_text c.args.status))
    (λ text e. status_line _ (codes "SOLVER STATUS ") _ _ _ _ e c.solver_number-number.ensures c.solver_text-name.ensures) c.format.ensures.ok
