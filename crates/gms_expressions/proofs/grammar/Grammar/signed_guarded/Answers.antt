use Rattle.std.proofs.Common.{refl}
use Rattle.gms_expressions.specs.ExpressionTrees.{signed_guarded}
use Rattle.gms_expressions.proofs.Signs.{handed_on, signed_got}
use Rattle.gms_expressions.proofs.Steps.{refuses_second, refuses_memory}
use Rattle.gms_expressions.proofs.Extending.{went_by}
use Rattle.gms_expressions.proofs.grammar.Grammar.signed_guarded.Goals as goal

pub returns-in_err-operand : goal.returns-in_err-operand
returns-in_err-operand g c = handed_on _ _ c.from_residual.result _ c.from_residual.ensures.1 (refuses_second (c.sign-minus.ensures.gives _ _) c.in_err-operand.ensures)

pub returns-in_err-signed : goal.returns-in_err-signed
returns-in_err-signed g c = handed_on _ _ c.from_residual-in_err-signed.result _ c.from_residual-in_err-signed.ensures.1 (refuses_memory (went_by c.in_ok-operand.ensures.gives) c.in_err-signed.ensures)

pub returns : goal.returns
returns g c = signed_got {whole = signed_guarded} c.sign-minus.ensures c.in_ok-operand.ensures c.in_ok-signed.ensures (λ sense. refl)
