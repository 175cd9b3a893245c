use Rattle.std.proofs.Common.{refl}
use Rattle.gms_grammar.specs.GamsGrammar.{Condition}
use Rattle.gms_expressions.specs.ExpressionTrees.{condition}
use Rattle.gms_expressions.proofs.Parts.{in_node}
use Rattle.gms_expressions.proofs.Signs.{handed_on, answered, got_the, got_after}
use Rattle.gms_expressions.proofs.Steps.{refuses_the, refuses_first, refuses_second}
use Rattle.gms_expressions.proofs.Nexts.{gives_next, refuses_lacking}
use Rattle.gms_expressions.proofs.grammar.Grammar.condition.Goals as goal

pub returns-in_err-following : goal.returns-in_err-following
returns-in_err-following g c = handed_on _ _ c.from_residual.result _ c.from_residual.ensures.1 (refuses_the Condition (refuses_first (refuses_lacking c.in_err-following.ensures)))

pub returns : goal.returns
returns g c = answered c.guard.result c.guard.ensures
    (λ b got. got_the Condition (got_after {whole = in_node condition} c.in_ok-following.ensures refl got (λ sense. refl)) (λ sense. refl))
    (λ e r. refuses_the Condition (refuses_second (gives_next _ c.in_ok-following.ensures refl) r))
