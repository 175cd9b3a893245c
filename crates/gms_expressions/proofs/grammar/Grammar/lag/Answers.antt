use Rattle.std.proofs.Common.{refl, sym, ◌∙◌}
use Rattle.gms_grammar.specs.Grammar.{the}
use Rattle.gms_grammar.specs.GamsGrammar.{Lag, LagAmount}
use Rattle.gms_expressions.proofs.Signs.{handed_on}
use Rattle.gms_expressions.proofs.Steps.{refuses_the, refuses_first, refuses_second, refuses_memory}
use Rattle.gms_expressions.proofs.Nexts.{gives_next, refuses_lacking}
use Rattle.gms_expressions.proofs.Chains.{place_read}
use Rattle.gms_expressions.proofs.Lagging.{lag_got}
use Rattle.gms_expressions.proofs.Extending.{went_by}
use Rattle.gms_expressions.proofs.grammar.Grammar.lag.Goals as goal

pub returns-in_err-operator : goal.returns-in_err-operator
returns-in_err-operator g c = handed_on _ _ c.from_residual.result _ c.from_residual.ensures.1 (refuses_the Lag (refuses_first (refuses_lacking c.in_err-operator.ensures)))

pub returns-in_err-amount : goal.returns-in_err-amount
returns-in_err-amount g c = handed_on _ _ c.from_residual-in_err-amount.result _ c.from_residual-in_err-amount.ensures.1 (refuses_the Lag (refuses_second (gives_next _ c.in_ok-operator.ensures refl) c.in_err-amount.ensures))

pub returns-in_err-amount-2 : goal.returns-in_err-amount-2
returns-in_err-amount-2 g c = handed_on _ _ c.from_residual-in_err-amount-2.result _ c.from_residual-in_err-amount-2.ensures.1 (refuses_memory (went_by c.in_ok-amount.ensures.gives) refl)

pub returns : goal.returns
returns g c = lag_got g.F.ExactField.value c.lag_op_of.result c.place.result c.in_ok-amount-2.amount c.in_ok-operator.ensures c.in_ok-amount.ensures c.lag_op_of.ensures (c.place.ensures ∙ sym (place_read (the LagAmount) refl c.in_ok-amount.ensures.gives)) c.in_ok-amount-2.ensures.ok
