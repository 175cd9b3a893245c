use Rattle.std.proofs.Common.{◌+◌, [], ◌∷◌, refl}
use Rattle.std.proofs.lemmas.Slice.{pushed}
use Rattle.gms_grammar.specs.Grammar.{the, ◌·◌}
use Rattle.gms_grammar.specs.Terminals.{is}
use Rattle.gms_grammar.specs.declared.terminal.Terminal.TheVariants.{LeftParen, RightParen}
use Rattle.gms_grammar.specs.GamsGrammar.{IndexList, token, bracketed}
use Rattle.gms_expressions.specs.InnerReadings.{IsIndex, AreIndices, seen_from}
use Rattle.gms_expressions.proofs.Signs.{handed_on}
use Rattle.gms_expressions.proofs.Steps.{refuses_the, refuses_first, refuses_some, refuses_memory}
use Rattle.gms_expressions.proofs.Nexts.{refuses_unopened, refuses_inside, falls, unled_next}
use Rattle.gms_expressions.proofs.Nesting.{deeper_inside}
use Rattle.gms_expressions.proofs.Closings.{next_inside, closing_answer}
use Rattle.gms_expressions.proofs.Operands.{at_inside, refused_inside}
use Rattle.gms_expressions.proofs.Grows.{none_led, some_led}
use Rattle.gms_expressions.proofs.Indexing.{no_indices, indices_start, indices_on, indices_got, indices_refuses, some_answer}
use Rattle.gms_expressions.proofs.Extending.{went_by}
use Rattle.gms_expressions.proofs.grammar.Grammar.indices.Goals as goal

pub index-requires : goal.index-requires
index-requires g c = deeper_inside c.requires c.in_ok-inner.ensures

pub returns-then-not-is_next : goal.returns-then-not-is_next
returns-then-not-is_next g c = no_indices g.F.ExactField.value c.new-indices.result c.new-indices.ensures.items
    (unled_next (is LeftParen) (the IndexList · token RightParen) (seen_from c.args.self.now.reader c.args.at) (none_led c.is_next.ensures c.if-not-is_next.true))

pub returns-in_err-inner : goal.returns-in_err-inner
returns-in_err-inner g c = handed_on _ _ c.from_residual.result _ c.from_residual.ensures.1
    (refuses_some (some_led (is LeftParen) (the IndexList · token RightParen) (seen_from c.args.self.now.reader c.args.at) c.is_next.ensures c.if-not-is_next.false) (refuses_unopened (the IndexList) c.args.tables.now c.in_err-inner.ensures))

pub returns-in_err-first : goal.returns-in_err-first
returns-in_err-first g c = handed_on _ _ c.from_residual-in_err-first.result _ c.from_residual-in_err-first.ensures.1
    (refuses_some (some_led (is LeftParen) (the IndexList · token RightParen) (seen_from c.args.self.now.reader c.args.at) c.is_next.ensures c.if-not-is_next.false)
    (refuses_inside c.in_ok-inner.ensures (refuses_the IndexList (refuses_first (refused_inside c.in_ok-inner.ensures c.in_ok-inner.start c.in_err-first.ensures)))))

pub returns-in_err-push : goal.returns-in_err-push
returns-in_err-push g c = handed_on _ _ c.from_residual-in_err-push.result _ c.from_residual-in_err-push.ensures.1 (refuses_memory (went_by c.in_ok-first.ensures.gives) refl)

pub loop-following-init : goal.loop-following-init
loop-following-init g c = indices_start (at_inside (λ r. IsIndex g.F.ExactField.value r.source.now) c.in_ok-inner.ensures c.in_ok-first.ensures) _ (pushed (c.in_ok-first.first ∷ []) c.new-indices.ensures.items c.in_ok-push.was c.push.ensures.items)

pub index-requires-in-Some : goal.index-requires-in-Some
index-requires-in-Some g c = deeper_inside c.requires c.in_ok-inner.ensures

pub returns-in_err-index : goal.returns-in_err-index
returns-in_err-index g c = handed_on _ _ c.from_residual-in_err-index.result _ c.from_residual-in_err-index.ensures.1
    (refuses_some (some_led (is LeftParen) (the IndexList · token RightParen) (seen_from c.args.self.now.reader c.args.at) c.is_next.ensures c.if-not-is_next.false)
    (refuses_inside c.in_ok-inner.ensures (indices_refuses c.loop-following.invariant (next_inside (c.args.self.now.reader.unclosed + 1) c.in-Some.ensures) (refused_inside c.in_ok-inner.ensures _ c.in_err-index.ensures))))

pub returns-in_err-push-2 : goal.returns-in_err-push-2
returns-in_err-push-2 g c = handed_on _ _ c.from_residual-in_err-push-2.result _ c.from_residual-in_err-push-2.ensures.1
    (refuses_some (some_led (is LeftParen) (the IndexList · token RightParen) (seen_from c.args.self.now.reader c.args.at) c.is_next.ensures c.if-not-is_next.false)
    (refuses_inside c.in_ok-inner.ensures (c.loop-following.invariant.within.refuses _ _ (refuses_memory (went_by (at_inside (λ r. IsIndex g.F.ExactField.value r.source.now) c.in_ok-inner.ensures c.in_ok-index.ensures).gives) refl))))

pub loop-following-smaller : goal.loop-following-smaller
loop-following-smaller g c = falls c.in-Some.ensures _ c.in_ok-index.ensures.further

pub loop-following-preserved : goal.loop-following-preserved
loop-following-preserved g c = indices_on c.loop-following.invariant (next_inside (c.args.self.now.reader.unclosed + 1) c.in-Some.ensures)
    (at_inside (λ r. IsIndex g.F.ExactField.value r.source.now) c.in_ok-inner.ensures c.in_ok-index.ensures) _ c.in_ok-push-2.ensures.items

pub returns : goal.returns
returns g c = some_answer g.F.ExactField.limit (bracketed (the IndexList)) c.args.self.now.reader c.args.at c.args.tables.now _ c.before-2.result
    (some_led (is LeftParen) (the IndexList · token RightParen) (seen_from c.args.self.now.reader c.args.at) c.is_next.ensures c.if-not-is_next.false)
    (closing_answer c.before-2.result c.in_ok-inner.ensures (indices_got c.loop-following.indices c.loop-following.invariant c.in_default.ensures) c.before-2.ensures
    _ (λ sense tree l m k. k)) (AreIndices g.F.ExactField.value c.args.self.now.reader.source.now) (λ sense tree x k. k)
