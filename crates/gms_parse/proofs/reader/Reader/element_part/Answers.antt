use Rattle.std.proofs.Common.{false, refl, sym, ◌∙◌}
use Rattle.gms_grammar.specs.GamsGrammar.{RangeList}
use Rattle.gms_expressions.proofs.Signs.{handed_on}
use Rattle.gms_parse.proofs.Steps.{refuses_the, refuses_first}
use Rattle.gms_parse.proofs.Nexts.{falls, opened, open_has, tableless_on, refuses_within, starts_somewhere}
use Rattle.gms_parse.proofs.Elements.{gathering_start, gathering_on, gathering_refuses, comma_stays, lone_got, lone_refused, part_refused, part_unclosed, part_got, unopened_part}
use Rattle.gms_parse.proofs.reader.Reader.element_part.Goals as goal

pub returns-in_err-next : goal.returns-in_err-next
returns-in_err-next c limit read_state h clean other = handed_on _ _ c.from_residual.result _ c.from_residual.ensures.1 (lone_refused (sym c.is_next.ensures ∙ c.if-not-is_next.true) (c.in_err-next.ensures limit read_state h clean other))

pub returns-then-not-is_next : goal.returns-then-not-is_next
returns-then-not-is_next c limit read_state h clean other = lone_got (record { labels = c.new.result; bad_range = false }) _ c.new.ensures.items refl (c.in_ok-next.ensures limit read_state h clean other)

pub returns-in_err-inner : goal.returns-in_err-inner
returns-in_err-inner c limit read_state h clean other = handed_on _ _ c.from_residual-in_err-inner.result _ c.from_residual-in_err-inner.ensures.1 (unopened_part h c.in_err-inner.ensures (sym c.is_next.ensures ∙ c.if-not-is_next.false))

pub returns-in_err-next-2 : goal.returns-in_err-next-2
returns-in_err-next-2 c limit read_state h clean other =
    let io = c.in_ok-inner.ensures in
    handed_on _ _ c.from_residual-in_err-next-2.result _ c.from_residual-in_err-next-2.ensures.1 (part_refused io h (refuses_the RangeList (refuses_first (refuses_within c.in_ok-inner.start io (c.in_err-next-2.ensures limit (opened read_state io) (open_has io h) refl other)))))

pub loop-following-init : goal.loop-following-init
loop-following-init c limit read_state h clean other = gathering_start (record { labels = c.new.result; bad_range = false }) c.new.ensures.items refl (c.in_ok-next-2.ensures limit read_state h clean other)

pub returns-in_err-next-3 : goal.returns-in_err-next-3
returns-in_err-next-3 c limit read_state h clean other =
    let io = c.in_ok-inner.ensures in
    let l = c.loop-following.invariant limit (opened read_state io) (open_has io h) refl other in
    let s = comma_stays l c.in-Some.ensures in
    handed_on _ _ c.from_residual-in_err-next-3.result _ c.from_residual-in_err-next-3.ensures.1 (part_refused io h (refuses_within c.in_ok-inner.start io (gathering_refuses l c.in-Some.ensures (c.in_err-next-3.ensures limit _ s.has refl (tableless_on s.keyword other)))))

pub loop-following-smaller : goal.loop-following-smaller
loop-following-smaller c = let s = starts_somewhere c.in_ok-inner.inner c.loop-following.tables in falls c.in-Some.ensures _ (c.in_ok-next-3.ensures 0 _ s.has refl refl).further

pub loop-following-preserved : goal.loop-following-preserved
loop-following-preserved c limit read_state h clean other =
    let l = c.loop-following.invariant limit read_state h clean other in
    let s = comma_stays l c.in-Some.ensures in
    gathering_on l c.in-Some.ensures (c.in_ok-next-3.ensures limit _ s.has refl (tableless_on s.keyword other))

pub returns-in_err-following : goal.returns-in_err-following
returns-in_err-following c limit read_state h clean other =
    let io = c.in_ok-inner.ensures in
    handed_on _ _ c.from_residual-in_err-following.result _ c.from_residual-in_err-following.ensures.1 (part_unclosed io h (c.loop-following.invariant limit (opened read_state io) (open_has io h) refl other) c.in_default.ensures c.in_err-following.ensures)

pub returns : goal.returns
returns c limit read_state h clean other =
    let io = c.in_ok-inner.ensures in
    part_got io h (c.loop-following.invariant limit (opened read_state io) (open_has io h) refl other) c.in_default.ensures other c.in_ok-following.ensures.next
