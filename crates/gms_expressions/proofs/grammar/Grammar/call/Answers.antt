use Rattle.std.proofs.Common.{refl, ap, ◌∙◌}
use Rattle.gms_expressions.specs.ExpressionTrees.{function_of}
use Rattle.gms_expressions.proofs.Signs.{handed_on}
use Rattle.gms_expressions.proofs.Steps.{refuses_first, refuses_second}
use Rattle.gms_expressions.proofs.Nexts.{gives_next, refuses_lacking}
use Rattle.gms_expressions.proofs.Operands.{call_got}
use Rattle.gms_expressions.proofs.grammar.Grammar.call.Goals as goal

pub returns-in_err-word : goal.returns-in_err-word
returns-in_err-word g c = handed_on _ _ c.from_residual.result _ c.from_residual.ensures.1 (refuses_first (refuses_lacking c.in_err-word.ensures))

pub returns-in_err-args : goal.returns-in_err-args
returns-in_err-args g c = handed_on _ _ c.from_residual-in_err-args.result _ c.from_residual-in_err-args.ensures.1 (refuses_second (gives_next _ c.in_ok-word.ensures refl) c.in_err-args.ensures)

pub returns : goal.returns
returns g c = call_got c.in_ok-args.args c.function_of-function.result c.in_ok-word.ensures c.in_ok-args.ensures (c.function_of-function.ensures ∙ ap function_of c.text.ensures)
