use Rattle.std.proofs.Common.{◌+◌, [], ◌∷◌, refl, ap}
use Rattle.std.proofs.lemmas.Slice.{pushed}
use Rattle.gms_grammar.specs.Grammar.{the}
use Rattle.gms_grammar.specs.GamsGrammar.{ExpressionList}
use Rattle.gms_ast.specs.Trees.{plain}
use Rattle.gms_expressions.specs.InnerNodes.{view, plain_views}
use Rattle.gms_expressions.proofs.Signs.{handed_on}
use Rattle.gms_expressions.proofs.Steps.{refuses_the, refuses_first, refuses_memory}
use Rattle.gms_expressions.proofs.Nexts.{refuses_unopened, refuses_inside, falls}
use Rattle.gms_expressions.proofs.Nesting.{callable_inside, reads_inside}
use Rattle.gms_expressions.proofs.Closings.{next_inside, closing_answer, arguments_got, arguments_refuses}
use Rattle.gms_expressions.proofs.Lists.{arguments_start, arguments_on}
use Rattle.gms_expressions.proofs.Made.{views_push}
use Rattle.gms_expressions.proofs.Extending.{went_by}
use Rattle.gms_expressions.proofs.Loops.{loop_memory}
use Rattle.gms_expressions.proofs.grammar.Grammar.arguments.Goals as goal

pub nested-requires : goal.nested-requires
nested-requires g c = callable_inside c.requires c.in_ok-inner.ensures _ _ _ _

pub nested-requires-in-Some : goal.nested-requires-in-Some
nested-requires-in-Some g c = callable_inside c.requires c.in_ok-inner.ensures _ _ _ _

pub returns-in_err-inner : goal.returns-in_err-inner
returns-in_err-inner g c = handed_on _ _ c.from_residual.result _ c.from_residual.ensures.1 (refuses_unopened (the ExpressionList) c.args.tables.now c.in_err-inner.ensures)

pub returns-in_err-first : goal.returns-in_err-first
returns-in_err-first g c = handed_on _ _ c.from_residual-in_err-first.result _ c.from_residual-in_err-first.ensures.1 (refuses_inside c.in_ok-inner.ensures (refuses_the ExpressionList (refuses_first (reads_inside c.requires c.in_ok-inner.ensures c.in_err-first.ensures))))

pub returns-in_err-push : goal.returns-in_err-push
returns-in_err-push g c = handed_on _ _ c.from_residual-in_err-push.result _ c.from_residual-in_err-push.ensures.1 (refuses_memory (went_by (reads_inside c.requires c.in_ok-inner.ensures c.in_ok-first.ensures).gives) refl)

pub loop-following-init : goal.loop-following-init
loop-following-init g c = arguments_start (reads_inside c.requires c.in_ok-inner.ensures c.in_ok-first.ensures) _ (ap (plain_views g.F.ExactField.value) (pushed (c.in_ok-first.first ∷ []) c.new-args.ensures.items c.in_ok-push.was c.push.ensures.items))

pub returns-in_err-argument : goal.returns-in_err-argument
returns-in_err-argument g c = handed_on _ _ c.from_residual-in_err-argument.result _ c.from_residual-in_err-argument.ensures.1 (refuses_inside c.in_ok-inner.ensures (arguments_refuses c.loop-following.invariant (next_inside (c.args.self.now.reader.unclosed + 1) c.in-Some.ensures) (reads_inside c.requires c.in_ok-inner.ensures c.in_err-argument.ensures)))

pub returns-in_err-push-2 : goal.returns-in_err-push-2
returns-in_err-push-2 g c = handed_on _ _ c.from_residual-in_err-push-2.result _ c.from_residual-in_err-push-2.ensures.1 (refuses_inside c.in_ok-inner.ensures (loop_memory c.loop-following.invariant.looping (reads_inside c.requires c.in_ok-inner.ensures c.in_ok-argument.ensures).gives refl))

pub loop-following-smaller : goal.loop-following-smaller
loop-following-smaller g c = falls c.in-Some.ensures _ (reads_inside c.requires c.in_ok-inner.ensures c.in_ok-argument.ensures).further

pub loop-following-preserved : goal.loop-following-preserved
loop-following-preserved g c = arguments_on c.loop-following.invariant (next_inside (c.args.self.now.reader.unclosed + 1) c.in-Some.ensures) (reads_inside c.requires c.in_ok-inner.ensures c.in_ok-argument.ensures) _ (views_push (λ e. (plain, view g.F.ExactField.value e)) _ _ c.in_ok-push-2.ensures.items)

pub returns : goal.returns
returns g c = closing_answer c.before-2.result c.in_ok-inner.ensures (arguments_got g.F.ExactField.value c.loop-following.args c.loop-following.invariant c.in_default.ensures) c.before-2.ensures _ (λ sense tree l m k. k)
