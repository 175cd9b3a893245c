use Rattle.gms_grammar.specs.Grammar.{the}
use Rattle.gms_grammar.specs.GamsGrammar.{Expression}
use Rattle.gms_expressions.proofs.Signs.{handed_on}
use Rattle.gms_expressions.proofs.Nexts.{refuses_unopened, refuses_inside}
use Rattle.gms_expressions.proofs.Nesting.{callable_inside, reads_inside}
use Rattle.gms_expressions.proofs.Closings.{closing_answer}
use Rattle.gms_expressions.proofs.grammar.Grammar.bracketed.Goals as goal

pub nested-requires : goal.nested-requires
nested-requires g c = callable_inside c.requires c.in_ok-inner.ensures _ _ _ _

pub returns-in_err-inner : goal.returns-in_err-inner
returns-in_err-inner g c = handed_on _ _ c.from_residual.result _ c.from_residual.ensures.1 (refuses_unopened (the Expression) c.args.tables.now c.in_err-inner.ensures)

pub returns-in_err-expression : goal.returns-in_err-expression
returns-in_err-expression g c = handed_on _ _ c.from_residual-in_err-expression.result _ c.from_residual-in_err-expression.ensures.1 (refuses_inside c.in_ok-inner.ensures (reads_inside c.requires c.in_ok-inner.ensures c.in_err-expression.ensures))

pub returns : goal.returns
returns g c = closing_answer c.before-2.result c.in_ok-inner.ensures (reads_inside c.requires c.in_ok-inner.ensures c.in_ok-expression.ensures) c.before-2.ensures _ (λ sense tree l m k. record { is = k.is })
