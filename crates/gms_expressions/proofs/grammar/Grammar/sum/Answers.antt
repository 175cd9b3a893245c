use Rattle.std.proofs.Common.{◌∷◌, [], false, refl, sym, ap, ap₂, ◌∙◌}
use Rattle.std.proofs.lemmas.Slice.{pushed}
use Rattle.gms_expressions.specs.ExpressionTrees.{product_tree, terms}
use Rattle.gms_ast.specs.Trees.{signed, part, sum}
use Rattle.gms_ast.specs.TreeView.{tree_of}
use Rattle.gms_ast.proofs.TreeEquations.{tree_of-Plus}
use Rattle.gms_grammar.specs.Grammar.{the}
use Rattle.gms_grammar.specs.GamsGrammar.{Sum, Product}
use Rattle.gms_grammar.specs.declared.terminal.Terminal.TheVariants.{Sign}
use Rattle.gms_ast.specs.Numbers.{in_numbers}
use Rattle.gms_expressions.specs.InnerNodes.{signed_views, view}
use Rattle.gms_expressions.proofs.Made.{numbers_in_parts, views_push}
use Rattle.gms_expressions.proofs.Signs.{handed_on}
use Rattle.gms_expressions.proofs.Steps.{refuses_the, refuses_first, refuses_second, refuses_memory}
use Rattle.gms_expressions.proofs.Sums.{sum_first}
use Rattle.gms_expressions.proofs.Nexts.{unled_next, falls}
use Rattle.gms_expressions.proofs.Loops.{loop_memory}
use Rattle.gms_expressions.proofs.Chains.{chain_alone, chain_start, chain_on, chain_got, chain_refuses, place_read, in_sense}
use Rattle.gms_grammar.specs.Terminals.{is}
use Rattle.gms_expressions.specs.InnerReadings.{seen_from}
use Rattle.gms_expressions.proofs.Grows.{some_led, none_led}
use Rattle.gms_expressions.proofs.Extending.{went_by}
use Rattle.gms_expressions.proofs.grammar.Grammar.sum.Goals as goal

pub returns-in_err-operand : goal.returns-in_err-operand
returns-in_err-operand g c = handed_on _ _ c.from_residual.result _ c.from_residual.ensures.1 (refuses_the Sum (refuses_second (c.sign-minus.ensures.gives _ _) (refuses_first c.in_err-operand.ensures)))

pub returns-in_err-first : goal.returns-in_err-first
returns-in_err-first g c = handed_on _ _ c.from_residual-in_err-first.result _ c.from_residual-in_err-first.ensures.1 (refuses_memory (went_by c.in_ok-operand.ensures.gives) c.in_err-first.ensures)

pub returns-then-not-is_next : goal.returns-then-not-is_next
returns-then-not-is_next g c = chain_alone {others = terms} {make = sum} (sum_first c.in_ok-first.first c.sign-minus.ensures c.in_ok-operand.ensures c.in_ok-first.ensures refl) (unled_next (is Sign) (the Product) (seen_from c.args.self.now.reader c.in_ok-operand.next) (none_led c.is_next.ensures c.if-not-is_next.true)) (λ sense. refl)

pub returns-in_err-push : goal.returns-in_err-push
returns-in_err-push g c = handed_on _ _ c.from_residual-in_err-push.result _ c.from_residual-in_err-push.ensures.1 (refuses_memory (went_by c.in_ok-operand.ensures.gives) refl)

pub loop-sign-init : goal.loop-sign-init
loop-sign-init g c = chain_start (sum_first c.in_ok-first.first c.sign-minus.ensures c.in_ok-operand.ensures c.in_ok-first.ensures c.place.ensures) (some_led (is Sign) (the Product) (seen_from c.args.self.now.reader c.in_ok-operand.next) c.is_next.ensures c.if-not-is_next.false) _ (ap (signed_views g.F.ExactField.value) (pushed ((c.place.result, false, c.in_ok-first.first) ∷ []) c.new-parts.ensures.items c.in_ok-push.was c.push.ensures.items))

pub returns-in_err-part : goal.returns-in_err-part
returns-in_err-part g c = handed_on _ _ c.from_residual-in_err-part.result _ c.from_residual-in_err-part.ensures.1 (chain_refuses c.loop-sign.invariant c.in-Some.ensures refl c.in_err-part.ensures)

pub returns-in_err-push-2 : goal.returns-in_err-push-2
returns-in_err-push-2 g c = handed_on _ _ c.from_residual-in_err-push-2.result _ c.from_residual-in_err-push-2.ensures.1 (loop_memory c.loop-sign.invariant.looping c.in_ok-part.ensures.gives refl)

pub loop-sign-smaller : goal.loop-sign-smaller
loop-sign-smaller g c = falls c.in-Some.ensures _ c.in_ok-part.ensures.further

pub loop-sign-preserved : goal.loop-sign-preserved
loop-sign-preserved g c = chain_on c.loop-sign.invariant c.in-Some.ensures refl c.in_ok-part.ensures (signed c.place-in-Some.result c.is_minus.result) (λ sense b. ap₂ (λ p m. part (signed p m) (in_sense c.args.self.now.reader.source.now product_tree sense c.in_ok-part.ensures.tree) (in_sense c.args.self.now.reader.source.now terms sense b)) (place_read (the Product) refl c.in_ok-part.ensures.gives ∙ sym c.place-in-Some.ensures) (sym c.is_minus.ensures)) _ (views_push (λ p. (signed p.0 p.1, view g.F.ExactField.value p.2)) _ _ c.in_ok-push-2.ensures.items)

pub returns : goal.returns
returns g c = chain_got c.loop-sign.invariant c.in_default.ensures (λ sense. refl) (ap (in_numbers g.F.ExactField.value) (tree_of-Plus c.loop-sign.parts) ∙ ap sum (numbers_in_parts g.F.ExactField.value (λ p. signed p.0 p.1) (λ p. tree_of p.2) c.loop-sign.parts.items))
