use Rattle.std.proofs.Common.{refl, sym, ap, ◌∙◌}
use Rattle.gms_grammar.specs.GamsGrammar.{Guarded, Condition}
use Rattle.gms_ast.specs.Trees.{plain, guarded}
use Rattle.gms_expressions.specs.InnerNodes.{view}
use Rattle.gms_expressions.specs.ExpressionTrees.{condition}
use Rattle.gms_expressions.proofs.Parts.{in_node}
use Rattle.gms_expressions.proofs.Signs.{handed_on, got_the, got_after}
use Rattle.gms_expressions.proofs.Steps.{refuses_the, refuses_first, refuses_second, refuses_memory}
use Rattle.gms_expressions.proofs.Nexts.{gives_next, led_next, falls}
use Rattle.gms_expressions.proofs.Made.{views_push, numbers_in_parts}
use Rattle.gms_expressions.proofs.Grows.{none_led}
use Rattle.gms_expressions.proofs.Loops.{loop_memory}
use Rattle.gms_expressions.proofs.Sums.{guards_none, guards_alone, guards_on, guards_got, guards_refuses}
use Rattle.gms_expressions.proofs.Guarding.{guards_begin, not_begun, some_begun}
use Rattle.gms_ast.proofs.TreeEquations.{tree_of-Guard}
use Rattle.gms_ast.specs.TreeView.{tree_of}
use Rattle.gms_ast.specs.Numbers.{in_numbers}
use Rattle.gms_expressions.proofs.Extending.{went_by}
use Rattle.gms_expressions.proofs.grammar.Grammar.guarded.Goals as goal

pub returns-in_err-first : goal.returns-in_err-first
returns-in_err-first g c = handed_on _ _ c.from_residual.result _ c.from_residual.ensures.1 (refuses_the Guarded (refuses_first c.in_err-first.ensures))

pub returns-then-not-is_next : goal.returns-then-not-is_next
returns-then-not-is_next g c = guards_alone (guards_none c.in_ok-first.ensures) (none_led c.is_next.ensures c.if-not-is_next.true)

pub returns-in_err-operand : goal.returns-in_err-operand
returns-in_err-operand g c = handed_on _ _ c.from_residual-in_err-operand.result _ c.from_residual-in_err-operand.ensures.1 (refuses_memory (went_by c.in_ok-first.ensures.gives) refl)

pub loop-following-init : goal.loop-following-init
loop-following-init g c = guards_begin g.F.ExactField.value (guards_none c.in_ok-first.ensures) c.in_ok-operand.ensures.ok c.new-guards.ensures.items (sym c.is_next.ensures ∙ c.if-not-is_next.false)

pub returns-in_err-guard : goal.returns-in_err-guard
returns-in_err-guard g c = handed_on _ _ c.from_residual-in_err-guard.result _ c.from_residual-in_err-guard.ensures.1
    (guards_refuses c.loop-following.invariant.0 (led_next c.in-Some.ensures) (refuses_the Condition (refuses_second (gives_next _ c.in-Some.ensures refl) c.in_err-guard.ensures)))

pub returns-in_err-push : goal.returns-in_err-push
returns-in_err-push g c = handed_on _ _ c.from_residual-in_err-push.result _ c.from_residual-in_err-push.ensures.1 (loop_memory c.loop-following.invariant.0.looping c.in_ok-guard.ensures.gives refl)

pub loop-following-smaller : goal.loop-following-smaller
loop-following-smaller g c = falls c.in-Some.ensures _ c.in_ok-guard.ensures.further

pub loop-following-preserved : goal.loop-following-preserved
loop-following-preserved g c = (guards_on c.loop-following.invariant.0 (led_next c.in-Some.ensures) (got_the Condition (got_after {whole = in_node condition} c.in-Some.ensures refl c.in_ok-guard.ensures (λ sense. refl)) (λ sense. refl)) _ (views_push (λ e. (plain, view g.F.ExactField.value e)) _ _ c.in_ok-push.ensures.items), λ none. absurd (not_begun c.loop-following.guards.items _ (sym c.in_ok-push.ensures.items ∙ none)))

pub returns : goal.returns
returns g c = guards_got c.loop-following.invariant.0 c.in_default.ensures (some_begun (λ e. (plain, view g.F.ExactField.value e)) c.loop-following.guards.items c.loop-following.invariant.1 c.in_default.ensures)
    (ap (in_numbers g.F.ExactField.value) (tree_of-Guard c.in_ok-operand.operand c.loop-following.guards) ∙ ap (guarded (view g.F.ExactField.value c.in_ok-operand.operand.value)) (numbers_in_parts g.F.ExactField.value (λ e. plain) tree_of c.loop-following.guards.items))
