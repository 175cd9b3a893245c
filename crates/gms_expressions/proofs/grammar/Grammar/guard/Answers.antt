use Rattle.std.proofs.Common.{refl}
use Rattle.gms_expressions.specs.ExpressionTrees.{negated_primary}
use Rattle.gms_expressions.proofs.Signs.{handed_on, negated_got}
use Rattle.gms_expressions.proofs.Steps.{refuses_second, refuses_memory}
use Rattle.gms_expressions.proofs.Extending.{went_by}
use Rattle.gms_expressions.proofs.grammar.Grammar.guard.Goals as goal

pub returns-in_err-operand : goal.returns-in_err-operand
returns-in_err-operand g c = handed_on _ _ c.from_residual.result _ c.from_residual.ensures.1 (refuses_second (c.not-is_negated.ensures.gives _ _) c.in_err-operand.ensures)

pub returns-in_err-negated : goal.returns-in_err-negated
returns-in_err-negated g c = handed_on _ _ c.from_residual-in_err-negated.result _ c.from_residual-in_err-negated.ensures.1 (refuses_memory (went_by c.in_ok-operand.ensures.gives) c.in_err-negated.ensures)

pub returns : goal.returns
returns g c = negated_got {whole = negated_primary} c.not-is_negated.ensures c.in_ok-operand.ensures c.in_ok-negated.ensures (λ sense. refl)
