use Rattle.std.proofs.Common.{◌≡◌, ◌++◌, codes, string_bytes}
use Rattle.std.proofs.lemmas.Result.{IfOk-weaker}
use Rattle.gms_list.specs.Amounts.{line_of}
use Rattle.gms_list.specs.SolveText.{step_text}
use Rattle.gms_list.proofs.Shapes.{word_line}
use Rattle.gms_list.proofs.proof.step_line.Goals as goal

pub returns : goal.returns
returns c =
    IfOk-weaker c.format.result _ (λ text. string_bytes text ≡ line_of (codes "  step " ++ step_text c.args.step)) (λ text e. word_line (string_bytes text) (codes "  step ") _ _ e c.in_ok-name.ensures) c.format.ensures.ok
