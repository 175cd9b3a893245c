use Rattle.std.proofs.Common.{◌∷◌, [], false, refl, sym, ap, ap₂, ◌∙◌}
use Rattle.std.proofs.lemmas.Slice.{pushed}
use Rattle.gms_expressions.specs.ExpressionTrees.{place_in, signed_power, factors}
use Rattle.gms_ast.specs.Trees.{signed, part, product}
use Rattle.gms_ast.specs.TreeView.{tree_of}
use Rattle.gms_ast.proofs.TreeEquations.{tree_of-Times}
use Rattle.gms_grammar.specs.Grammar.{the, ◌·◌, opt}
use Rattle.gms_grammar.specs.GamsGrammar.{Product, PowerTerm, token}
use Rattle.gms_grammar.specs.declared.terminal.Terminal.TheVariants.{Star, Slash, Sign}
use Rattle.gms_ast.specs.Numbers.{in_numbers}
use Rattle.gms_expressions.specs.InnerNodes.{signed_views, view}
use Rattle.gms_expressions.proofs.Made.{numbers_in_parts, views_push}
use Rattle.gms_expressions.proofs.Signs.{handed_on}
use Rattle.gms_expressions.proofs.Steps.{refuses_the, refuses_first, refuses_memory}
use Rattle.gms_expressions.proofs.Nexts.{unled_next, falls}
use Rattle.gms_expressions.proofs.Loops.{loop_memory}
use Rattle.gms_expressions.proofs.Chains.{chain_first, chain_alone, chain_start, chain_on, chain_got, chain_refuses, place_read, in_sense}
use Rattle.gms_grammar.specs.Terminals.{is_terminal_among}
use Rattle.gms_expressions.specs.InnerReadings.{seen_from}
use Rattle.gms_expressions.proofs.Grows.{some_led, none_led}
use Rattle.gms_expressions.proofs.Extending.{went_by}
use Rattle.gms_expressions.proofs.grammar.Grammar.product.Goals as goal

pub returns-in_err-first : goal.returns-in_err-first
returns-in_err-first g c = handed_on _ _ c.from_residual.result _ c.from_residual.ensures.1 (refuses_the Product (refuses_first c.in_err-first.ensures))

pub returns-then-not-is_any_next : goal.returns-then-not-is_any_next
returns-then-not-is_any_next g c = chain_alone {others = factors} {make = product} (chain_first Product (signed (place_in c.in_ok-first.ensures.tree) false) refl c.in_ok-first.ensures (λ sense b. refl)) (unled_next (is_terminal_among (Star ∷ Slash ∷ [])) (opt (token Sign) · the PowerTerm) (seen_from c.args.self.now.reader c.in_ok-first.next) (none_led c.is_any_next.ensures c.if-not-is_any_next.true)) (λ sense. refl)

pub returns-in_err-push : goal.returns-in_err-push
returns-in_err-push g c = handed_on _ _ c.from_residual-in_err-push.result _ c.from_residual-in_err-push.ensures.1 (refuses_memory (went_by c.in_ok-first.ensures.gives) refl)

pub loop-operator-init : goal.loop-operator-init
loop-operator-init g c = chain_start (chain_first Product (signed (place_in c.in_ok-first.ensures.tree) false) refl c.in_ok-first.ensures (λ sense b. refl)) (some_led (is_terminal_among (Star ∷ Slash ∷ [])) (opt (token Sign) · the PowerTerm) (seen_from c.args.self.now.reader c.in_ok-first.next) c.is_any_next.ensures c.if-not-is_any_next.false) _ (ap (signed_views g.F.ExactField.value) (pushed ((c.place.result, false, c.in_ok-first.first) ∷ []) c.new-parts.ensures.items c.in_ok-push.was c.push.ensures.items) ∙ ap (λ p. (signed p false, view g.F.ExactField.value c.in_ok-first.first) ∷ []) (c.place.ensures ∙ sym (place_read (the PowerTerm) refl c.in_ok-first.ensures.gives)))

pub returns-in_err-part : goal.returns-in_err-part
returns-in_err-part g c = handed_on _ _ c.from_residual-in_err-part.result _ c.from_residual-in_err-part.ensures.1 (chain_refuses c.loop-operator.invariant c.in-Some.ensures refl c.in_err-part.ensures)

pub returns-in_err-push-2 : goal.returns-in_err-push-2
returns-in_err-push-2 g c = handed_on _ _ c.from_residual-in_err-push-2.result _ c.from_residual-in_err-push-2.ensures.1 (loop_memory c.loop-operator.invariant.looping c.in_ok-part.ensures.gives refl)

pub loop-operator-smaller : goal.loop-operator-smaller
loop-operator-smaller g c = falls c.in-Some.ensures _ c.in_ok-part.ensures.further

pub loop-operator-preserved : goal.loop-operator-preserved
loop-operator-preserved g c = chain_on c.loop-operator.invariant c.in-Some.ensures refl c.in_ok-part.ensures (signed c.place-in-Some.result c.is_slash.result) (λ sense b. ap₂ (λ p m. part (signed p m) (in_sense c.args.self.now.reader.source.now signed_power sense c.in_ok-part.ensures.tree) (in_sense c.args.self.now.reader.source.now factors sense b)) (place_read (opt (token Sign) · the PowerTerm) refl c.in_ok-part.ensures.gives ∙ sym c.place-in-Some.ensures) (sym c.is_slash.ensures)) _ (views_push (λ p. (signed p.0 p.1, view g.F.ExactField.value p.2)) _ _ c.in_ok-push-2.ensures.items)

pub returns : goal.returns
returns g c = chain_got c.loop-operator.invariant c.in_default.ensures (λ sense. refl) (ap (in_numbers g.F.ExactField.value) (tree_of-Times c.loop-operator.parts) ∙ ap product (numbers_in_parts g.F.ExactField.value (λ p. signed p.0 p.1) (λ p. tree_of p.2) c.loop-operator.parts.items))
