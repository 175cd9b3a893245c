use Rattle.std.proofs.Common.{[], ◌∷◌, refl, sym, ◌∙◌}
use Rattle.std.proofs.lemmas.Slice.{pushed}
use Rattle.gms_grammar.specs.Grammar.{the, ◌·◌, right}
use Rattle.gms_grammar.specs.Terminals.{is}
use Rattle.gms_grammar.specs.declared.terminal.Terminal.TheVariants.{LeftParen, RightParen}
use Rattle.gms_grammar.specs.GamsGrammar.{NameList, token, name, bracketed}
use Rattle.gms_expressions.specs.InnerReadings.{AreNames, AreSets, seen_from}
use Rattle.gms_expressions.proofs.Signs.{handed_on}
use Rattle.gms_expressions.proofs.Steps.{refuses_right, refuses_either, refuses_memory}
use Rattle.gms_expressions.proofs.Nexts.{refuses_unopened, refuses_inside, unled_next}
use Rattle.gms_expressions.proofs.Grows.{none_led, some_led}
use Rattle.gms_expressions.proofs.Closings.{closing_answer}
use Rattle.gms_expressions.proofs.Operands.{at_inside, refused_inside, sets_one}
use Rattle.gms_expressions.proofs.Alternatives.{no_name, right_answer}
use Rattle.gms_expressions.proofs.Extending.{went_by}
use Rattle.gms_expressions.proofs.reader.Reader.sets.Goals as goal

pub returns-in_err-set : goal.returns-in_err-set
returns-in_err-set c limit = handed_on _ _ c.from_residual.result _ c.from_residual.ensures.1
    (refuses_either (unled_next (is LeftParen) (the NameList · token RightParen) (seen_from c.args.self.now c.args.at) (none_led c.is_next.ensures c.if-not-is_next.true)) (c.in_err-set.ensures limit))

pub returns-in_err-sets : goal.returns-in_err-sets
returns-in_err-sets c limit = handed_on _ _ c.from_residual-in_err-sets.result _ c.from_residual-in_err-sets.ensures.1
    (refuses_right (no_name (seen_from c.args.self.now c.args.at) (sym c.is_next.ensures ∙ c.if-not-is_next.false)) (some_led (is LeftParen) (the NameList · token RightParen) (seen_from c.args.self.now c.args.at) c.is_next.ensures c.if-not-is_next.false) (refuses_inside c.in_ok-inner.ensures (refused_inside c.in_ok-inner.ensures c.in_ok-inner.start (c.in_err-sets.ensures limit))))

pub returns-in_err-push : goal.returns-in_err-push
returns-in_err-push c limit = handed_on _ _ c.from_residual-in_err-push.result _ c.from_residual-in_err-push.ensures.1 (refuses_memory (went_by (c.in_ok-set.ensures limit).gives) refl)

pub returns-then-not-is_next : goal.returns-then-not-is_next
returns-then-not-is_next c limit = sets_one _ (c.in_ok-set.ensures limit) (pushed (c.in_ok-set.set ∷ []) c.new-sets.ensures.items c.in_ok-push.was c.push.ensures.items)

pub returns-in_err-inner : goal.returns-in_err-inner
returns-in_err-inner c limit = handed_on _ _ c.from_residual-in_err-inner.result _ c.from_residual-in_err-inner.ensures.1
    (refuses_right (no_name (seen_from c.args.self.now c.args.at) (sym c.is_next.ensures ∙ c.if-not-is_next.false)) (some_led (is LeftParen) (the NameList · token RightParen) (seen_from c.args.self.now c.args.at) c.is_next.ensures c.if-not-is_next.false) (refuses_unopened (the NameList) c.args.tables.now c.in_err-inner.ensures))

pub returns : goal.returns
returns c limit = right_answer limit name (bracketed (the NameList)) c.args.self.now c.args.at c.args.tables.now _ c.before-2.result (no_name (seen_from c.args.self.now c.args.at) (sym c.is_next.ensures ∙ c.if-not-is_next.false)) (some_led (is LeftParen) (the NameList · token RightParen) (seen_from c.args.self.now c.args.at) c.is_next.ensures c.if-not-is_next.false)
    (closing_answer c.before-2.result c.in_ok-inner.ensures (at_inside (λ r. AreNames r.source.now) c.in_ok-inner.ensures (c.in_ok-sets.ensures limit)) c.before-2.ensures (λ sense tree sets. AreSets c.args.self.now.source.now sense (right tree) sets) (λ sense tree l m k. k)) _ (λ sense tree x k. k)
