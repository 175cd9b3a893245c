use Rattle.gms_expressions.proofs.Signs.{handed_on}
use Rattle.std.proofs.Common.{refl, sym, ◌∙◌}
use Rattle.gms_grammar.specs.Grammar.{the}
use Rattle.gms_grammar.specs.GamsGrammar.{Segment, KeywordStatement}
use Rattle.gms_parse.specs.InnerReadings.{seen_from}
use Rattle.gms_parse.proofs.Steps.{refuses_the, refuses_first, refuses_memory}
use Rattle.gms_parse.proofs.Nexts.{somewhere, starts_somewhere}
use Rattle.gms_parse.proofs.Segments.{led_keyword, fewer, segment_start, segment_on, segment_refuses, segment_got}
use Rattle.gms_parse.proofs.reader.Reader.segment.Goals as goal

pub returns-in_err-next : goal.returns-in_err-next
returns-in_err-next g c read_state s other = handed_on _ _ c.from_residual.result _ c.from_residual.ensures.1 (refuses_the Segment (refuses_first (c.in_err-next.ensures read_state s other)))

pub loop-tables-init : goal.loop-tables-init
loop-tables-init g c read_state s other = segment_start g.F.ExactField.value c.args.statements.now (c.in_ok-next.ensures read_state s other)

pub keyword_act-requires-clause-keyword : goal.keyword_act-requires-clause-keyword
keyword_act-requires-clause-keyword g c = led_keyword (seen_from c.args.self.now c.loop-tables.next) (sym c.is_any_next.ensures ∙ c.loop-tables-test.true)

pub returns-in_err-act : goal.returns-in_err-act
returns-in_err-act g c read_state s other =
    let l = c.loop-tables.invariant read_state s other in
    handed_on _ _ c.from_residual-in_err-act.result _ c.from_residual-in_err-act.ensures.1
    (segment_refuses g.F.ExactField.value l (sym c.is_any_next.ensures ∙ c.loop-tables-test.true) (c.in_err-act.ensures l.following l.holds))

pub returns-in_err-push : goal.returns-in_err-push
returns-in_err-push g c read_state s other = handed_on _ _ c.from_residual-in_err-push.result _ c.from_residual-in_err-push.ensures.1 (refuses_memory refl)

pub loop-tables-smaller : goal.loop-tables-smaller
loop-tables-smaller g c = fewer (the KeywordStatement) refl (c.in_ok-act.ensures (somewhere c.args.self.now c.loop-tables.tables) (starts_somewhere c.args.self.now c.loop-tables.tables).has.holds)

pub loop-tables-preserved : goal.loop-tables-preserved
loop-tables-preserved g c read_state s other =
    let l = c.loop-tables.invariant read_state s other in
    segment_on g.F.ExactField.value l (sym c.is_any_next.ensures ∙ c.loop-tables-test.true) (c.in_ok-act.ensures l.following l.holds) _ c.place.ensures refl _ c.in_ok-push.ensures.items

pub returns : goal.returns
returns g c read_state s other =
    segment_got g.F.ExactField.value (c.loop-tables.invariant read_state s other) (sym c.is_any_next.ensures ∙ c.loop-tables-test.false) c.args.statements.now c.loop-tables.statements refl refl
