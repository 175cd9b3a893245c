use Rattle.std.proofs.Common.{◌≡◌, ◌++◌, string_bytes, codes, decimal}
use Rattle.std.proofs.lemmas.Result.{IfOk-weaker}
use Rattle.gms_store.specs.Statuses.{model_number, model_text}
use Rattle.gms_list.specs.Amounts.{line_of}
use Rattle.gms_list.proofs.Shapes.{status_line}
use Rattle.gms_list.proofs.solves.model_line.Goals as goal

pub returns : goal.returns
returns c =
    IfOk-weaker c.format.result _ (λ text. string_bytes text ≡ line_of (codes "MODEL STATUS " ++ decimal (model_number c.args.status) ++ codes " " ++ model_text c.args.status))
    (λ text e. status_line _ (codes "MODEL STATUS ") _ _ _ _ e c.model_number-number.ensures c.model_text-name.ensures) c.format.ensures.ok
