use Rattle.std.proofs.Common.{◌∷◌, [], refl, ap, ◌∙◌}
use Rattle.std.proofs.lemmas.Slice.{pushed}
use Rattle.gms_expressions.specs.ExpressionTrees.{conjuncts}
use Rattle.gms_ast.specs.Trees.{plain, all_of}
use Rattle.gms_ast.specs.TreeView.{tree_of}
use Rattle.gms_ast.proofs.TreeEquations.{tree_of-And}
use Rattle.gms_grammar.specs.Grammar.{the}
use Rattle.gms_grammar.specs.GamsGrammar.{Conjunction, Negation}
use Rattle.gms_grammar.specs.declared.terminal.Terminal.TheVariants.{And}
use Rattle.gms_ast.specs.Numbers.{in_numbers}
use Rattle.gms_expressions.specs.InnerNodes.{plain_views, view}
use Rattle.gms_expressions.proofs.Made.{numbers_in_parts, views_push}
use Rattle.gms_expressions.proofs.Signs.{handed_on}
use Rattle.gms_expressions.proofs.Steps.{refuses_the, refuses_first, refuses_memory}
use Rattle.gms_expressions.proofs.Nexts.{unled_next, falls}
use Rattle.gms_expressions.proofs.Loops.{loop_memory}
use Rattle.gms_expressions.proofs.Chains.{chain_first, chain_alone, chain_start, chain_on, chain_got, chain_refuses}
use Rattle.gms_grammar.specs.Terminals.{is}
use Rattle.gms_expressions.specs.InnerReadings.{seen_from}
use Rattle.gms_expressions.proofs.Grows.{some_led, none_led}
use Rattle.gms_expressions.proofs.Extending.{went_by}
use Rattle.gms_expressions.proofs.grammar.Grammar.conjunction.Goals as goal

pub returns-in_err-first : goal.returns-in_err-first
returns-in_err-first g c = handed_on _ _ c.from_residual.result _ c.from_residual.ensures.1 (refuses_the Conjunction (refuses_first c.in_err-first.ensures))

pub returns-then-not-is_next : goal.returns-then-not-is_next
returns-then-not-is_next g c = chain_alone {others = conjuncts} {make = all_of} (chain_first Conjunction plain refl c.in_ok-first.ensures (λ sense b. refl)) (unled_next (is And) (the Negation) (seen_from c.args.self.now.reader c.in_ok-first.next) (none_led c.is_next.ensures c.if-not-is_next.true)) (λ sense. refl)

pub returns-in_err-push : goal.returns-in_err-push
returns-in_err-push g c = handed_on _ _ c.from_residual-in_err-push.result _ c.from_residual-in_err-push.ensures.1 (refuses_memory (went_by c.in_ok-first.ensures.gives) refl)

pub loop-following-init : goal.loop-following-init
loop-following-init g c = chain_start (chain_first Conjunction plain refl c.in_ok-first.ensures (λ sense b. refl)) (some_led (is And) (the Negation) (seen_from c.args.self.now.reader c.in_ok-first.next) c.is_next.ensures c.if-not-is_next.false) _ (ap (plain_views g.F.ExactField.value) (pushed (c.in_ok-first.first ∷ []) c.new-parts.ensures.items c.in_ok-push.was c.push.ensures.items))

pub returns-in_err-part : goal.returns-in_err-part
returns-in_err-part g c = handed_on _ _ c.from_residual-in_err-part.result _ c.from_residual-in_err-part.ensures.1 (chain_refuses c.loop-following.invariant c.in-Some.ensures refl c.in_err-part.ensures)

pub returns-in_err-push-2 : goal.returns-in_err-push-2
returns-in_err-push-2 g c = handed_on _ _ c.from_residual-in_err-push-2.result _ c.from_residual-in_err-push-2.ensures.1 (loop_memory c.loop-following.invariant.looping c.in_ok-part.ensures.gives refl)

pub loop-following-smaller : goal.loop-following-smaller
loop-following-smaller g c = falls c.in-Some.ensures _ c.in_ok-part.ensures.further

pub loop-following-preserved : goal.loop-following-preserved
loop-following-preserved g c = chain_on c.loop-following.invariant c.in-Some.ensures refl c.in_ok-part.ensures plain (λ sense b. refl) _ (views_push (λ e. (plain, view g.F.ExactField.value e)) _ _ c.in_ok-push-2.ensures.items)

pub returns : goal.returns
returns g c = chain_got c.loop-following.invariant c.in_default.ensures (λ sense. refl) (ap (in_numbers g.F.ExactField.value) (tree_of-And c.loop-following.parts) ∙ ap all_of (numbers_in_parts g.F.ExactField.value (λ p. plain) tree_of c.loop-following.parts.items))
