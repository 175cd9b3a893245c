use Rattle.std.proofs.Common.{ap}
use Rattle.gms_grammar.specs.GamsGrammar.{Target}
use Rattle.gms_expressions.proofs.Signs.{handed_on}
use Rattle.gms_expressions.proofs.Steps.{refuses_the, refuses_first, refuses_second}
use Rattle.gms_expressions.proofs.Operands.{target_got}
use Rattle.gms_expressions.proofs.grammar.Grammar.target.Goals as goal

pub returns-in_err-name : goal.returns-in_err-name
returns-in_err-name g c = handed_on _ _ c.from_residual.result _ c.from_residual.ensures.1 (refuses_the Target (refuses_first (c.in_err-name.ensures g.F.ExactField.limit)))

pub returns-in_err-suffix : goal.returns-in_err-suffix
returns-in_err-suffix g c = handed_on _ _ c.from_residual-in_err-suffix.result _ c.from_residual-in_err-suffix.ensures.1
    (refuses_the Target (refuses_second (c.in_ok-name.ensures g.F.ExactField.limit).gives (refuses_first (c.in_err-suffix.ensures g.F.ExactField.limit _))))

pub returns-in_err-indices : goal.returns-in_err-indices
returns-in_err-indices g c = handed_on _ _ c.from_residual-in_err-indices.result _ c.from_residual-in_err-indices.ensures.1
    (refuses_the Target (refuses_second (c.in_ok-name.ensures g.F.ExactField.limit).gives (refuses_second (c.in_ok-suffix.ensures g.F.ExactField.limit _).gives c.in_err-indices.ensures)))

pub returns : goal.returns
returns g c = target_got c.in_ok-indices.indices _ (c.in_ok-name.ensures g.F.ExactField.limit) (c.in_ok-suffix.ensures g.F.ExactField.limit _) c.in_ok-indices.ensures (ap (λ is. record { at = c.in_ok-name.place; name = c.in_ok-name.name; suffix = c.in_ok-suffix.suffix; indices = is }) c.new.ensures)
