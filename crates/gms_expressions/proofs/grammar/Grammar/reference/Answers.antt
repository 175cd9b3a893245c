use Rattle.gms_expressions.proofs.Signs.{handed_on}
use Rattle.gms_expressions.proofs.Operands.{reference_got}
use Rattle.gms_expressions.proofs.grammar.Grammar.reference.Goals as goal

pub returns-in_err-target : goal.returns-in_err-target
returns-in_err-target g c = handed_on _ _ c.from_residual.result _ c.from_residual.ensures.1 c.in_err-target.ensures

pub returns : goal.returns
returns g c = reference_got c.in_ok-target.target c.into_vec.result c.in_ok-target.ensures c.into_vec.ensures
