use Rattle.std.proofs.Common.{codes, if◌then◌else◌, refl, sym, ap, ◌∙◌}
use Rattle.gms_ast.specs.Trees.{place_in_set, size_of_set}
use Rattle.gms_grammar.specs.GamsGrammar.{name}
use Rattle.gms_expressions.specs.ExpressionTrees.{is_word}
use Rattle.gms_ast.specs.Numbers.{in_numbers}
use Rattle.gms_expressions.specs.InnerReadings.{IsName}
use Rattle.gms_expressions.proofs.Leaves.{tree_of-Ord, tree_of-Card}
use Rattle.gms_expressions.proofs.Signs.{handed_on}
use Rattle.gms_expressions.proofs.Steps.{refuses_first, refuses_second}
use Rattle.gms_expressions.proofs.Nexts.{gives_next, refuses_lacking, refuses_unopened, refuses_inside, refuses_unclosed}
use Rattle.gms_expressions.proofs.Nesting.{ready_opened}
use Rattle.gms_expressions.proofs.Operands.{set_call_got, at_inside, refused_inside}
use Rattle.gms_expressions.proofs.grammar.Grammar.set_call.Goals as goal

pub name-requires : goal.name-requires
name-requires g c = ready_opened c.requires c.in_ok-inner.ensures

pub returns-in_err-word : goal.returns-in_err-word
returns-in_err-word g c = handed_on _ _ c.from_residual.result _ c.from_residual.ensures.1 (refuses_first (refuses_lacking c.in_err-word.ensures))

pub returns-in_err-inner : goal.returns-in_err-inner
returns-in_err-inner g c = handed_on _ _ c.from_residual-in_err-inner.result _ c.from_residual-in_err-inner.ensures.1 (refuses_second (gives_next _ c.in_ok-word.ensures refl) (refuses_unopened name c.args.tables.now c.in_err-inner.ensures))

pub returns-in_err-set : goal.returns-in_err-set
returns-in_err-set g c = handed_on _ _ c.from_residual-in_err-set.result _ c.from_residual-in_err-set.ensures.1 (refuses_second (gives_next _ c.in_ok-word.ensures refl) (refuses_inside c.in_ok-inner.ensures (refused_inside c.in_ok-inner.ensures c.in_ok-inner.start (c.in_err-set.ensures g.F.ExactField.limit))))

pub returns-in_err-following : goal.returns-in_err-following
returns-in_err-following g c = handed_on _ _ c.from_residual-in_err-following.result _ c.from_residual-in_err-following.ensures.1 (refuses_second (gives_next _ c.in_ok-word.ensures refl) (refuses_unclosed c.in_ok-inner.ensures (at_inside (λ r. IsName r.source.now) c.in_ok-inner.ensures (c.in_ok-set.ensures g.F.ExactField.limit)).gives c.in_err-following.ensures))

pub returns-then-is_ord : goal.returns-then-is_ord
returns-then-is_ord g c = set_call_got c.in_ok-word.ensures c.in_ok-inner.ensures (at_inside (λ r. IsName r.source.now) c.in_ok-inner.ensures (c.in_ok-set.ensures g.F.ExactField.limit)) c.in_ok-following.ensures (ap (in_numbers g.F.ExactField.value) (tree_of-Ord c.in_ok-word.word.at c.in_ok-set.set) ∙ ap (λ b. if b then place_in_set c.in_ok-word.word.at c.in_ok-set.set else size_of_set c.in_ok-word.word.at c.in_ok-set.set) (sym (sym (c.is_ord.ensures ∙ ap (λ t. is_word t (codes "ord")) c.text.ensures) ∙ c.if-is_ord.true)))

pub returns : goal.returns
returns g c = set_call_got c.in_ok-word.ensures c.in_ok-inner.ensures (at_inside (λ r. IsName r.source.now) c.in_ok-inner.ensures (c.in_ok-set.ensures g.F.ExactField.limit)) c.in_ok-following.ensures (ap (in_numbers g.F.ExactField.value) (tree_of-Card c.in_ok-word.word.at c.in_ok-set.set) ∙ ap (λ b. if b then place_in_set c.in_ok-word.word.at c.in_ok-set.set else size_of_set c.in_ok-word.word.at c.in_ok-set.set) (sym (sym (c.is_ord.ensures ∙ ap (λ t. is_word t (codes "ord")) c.text.ensures) ∙ c.if-is_ord.false)))
