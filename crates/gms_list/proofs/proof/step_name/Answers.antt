use Rattle.std.proofs.Common.{◌≡◌, ◌∙◌, ap, sym, string_bytes}
use Rattle.std.proofs.lemmas.Result.{IfOk-weaker}
use Rattle.gms_list.specs.SolveText.{step_text}
use Rattle.gms_list.proofs.StepLines.{standard_name, ratio_name, exchange_name, recover_name}
use Rattle.gms_list.proofs.proof.step_name.Goals as goal

pub returns-in-Standard : goal.returns-in-Standard
returns-in-Standard c =
    IfOk-weaker c.format.result _ (λ text. string_bytes text ≡ step_text c.args.step) (λ text e. standard_name (string_bytes text) c.in-Standard.row c.in-Standard.column c.in-Standard.part e ∙ ap step_text (sym c.in-Standard.is)) c.format.ensures.ok

pub returns-in-Ratio : goal.returns-in-Ratio
returns-in-Ratio c =
    IfOk-weaker c.format-in-Ratio.result _ (λ text. string_bytes text ≡ step_text c.args.step) (λ text e. ratio_name (string_bytes text) c.in-Ratio.pivot c.in-Ratio.row e ∙ ap step_text (sym c.in-Ratio.is)) c.format-in-Ratio.ensures.ok

pub returns-in-Exchange : goal.returns-in-Exchange
returns-in-Exchange c =
    IfOk-weaker c.format-in-Exchange.result _ (λ text. string_bytes text ≡ step_text c.args.step) (λ text e. exchange_name (string_bytes text) c.in-Exchange.pivot c.in-Exchange.row c.in-Exchange.column c.in-Exchange.part e ∙ ap step_text (sym c.in-Exchange.is)) c.format-in-Exchange.ensures.ok

pub returns-in-Recover : goal.returns-in-Recover
returns-in-Recover c =
    IfOk-weaker c.format-in-Recover.result _ (λ text. string_bytes text ≡ step_text c.args.step) (λ text e. recover_name (string_bytes text) c.in-Recover.what c.in-Recover.index c.in-Recover.entry c.in-Recover.part e ∙ ap step_text (sym c.in-Recover.is)) c.format-in-Recover.ensures.ok

pub returns-in-Check : goal.returns-in-Check
returns-in-Check c =
    IfOk-weaker c.format-in-Check.result _ (λ text. string_bytes text ≡ step_text c.args.step) (λ text e. e ∙ ap step_text (sym c.in-Check.is)) c.format-in-Check.ensures.ok
