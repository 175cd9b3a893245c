use Rattle.std.proofs.Common.{sym, ◌∙◌}
use Rattle.gms_grammar.specs.GamsGrammar.{Index}
use Rattle.gms_expressions.proofs.Signs.{handed_on}
use Rattle.gms_expressions.proofs.Steps.{refuses_the, refuses_left, refuses_or}
use Rattle.gms_expressions.proofs.Grows.{none_led}
use Rattle.gms_expressions.proofs.Indexing.{label_got, set_got, lagged_got, lag_refuses}
use Rattle.gms_expressions.proofs.grammar.Grammar.index.Goals as goal

pub returns-in_err-label : goal.returns-in_err-label
returns-in_err-label g c = handed_on _ _ c.from_residual.result _ c.from_residual.ensures.1 (refuses_the Index (refuses_left (sym c.is_next.ensures ∙ c.if-is_next.true) (c.in_err-label.ensures g.F.ExactField.limit)))

pub returns-then-is_next : goal.returns-then-is_next
returns-then-is_next g c = label_got g.F.ExactField.value (c.in_ok-label.ensures g.F.ExactField.limit)

pub returns-in_err-name : goal.returns-in_err-name
returns-in_err-name g c = handed_on _ _ c.from_residual-in_err-name.result _ c.from_residual-in_err-name.ensures.1 (refuses_the Index (refuses_or (none_led c.is_next.ensures c.if-is_next.false) (c.in_err-name.ensures g.F.ExactField.limit)))

pub returns-then-not-is_any_next : goal.returns-then-not-is_any_next
returns-then-not-is_any_next g c = set_got g.F.ExactField.value (none_led c.is_next.ensures c.if-is_next.false) (c.in_ok-name.ensures g.F.ExactField.limit) (none_led c.is_any_next.ensures c.if-not-is_any_next.true)

pub returns-in_err-lag : goal.returns-in_err-lag
returns-in_err-lag g c = handed_on _ _ c.from_residual-in_err-lag.result _ c.from_residual-in_err-lag.ensures.1
    (lag_refuses g.F.ExactField.value (none_led c.is_next.ensures c.if-is_next.false) (c.in_ok-name.ensures g.F.ExactField.limit) (sym c.is_any_next.ensures ∙ c.if-not-is_any_next.false) c.in_err-lag.ensures)

pub returns : goal.returns
returns g c = lagged_got g.F.ExactField.value (none_led c.is_next.ensures c.if-is_next.false) (c.in_ok-name.ensures g.F.ExactField.limit) (sym c.is_any_next.ensures ∙ c.if-not-is_any_next.false) c.in_ok-lag.ensures
