use Rattle.gms_expressions.proofs.Signs.{handed_on}
use Rattle.gms_expressions.proofs.Operands.{scalar_got}
use Rattle.gms_expressions.proofs.grammar.Grammar.scalar.Goals as goal

pub returns-in_err-name : goal.returns-in_err-name
returns-in_err-name g c = handed_on _ _ c.from_residual.result _ c.from_residual.ensures.1 (c.in_err-name.ensures g.F.ExactField.limit)

pub returns : goal.returns
returns g c = scalar_got c.new.result (c.in_ok-name.ensures g.F.ExactField.limit) c.new.ensures.items
