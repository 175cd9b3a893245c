use Rattle.gms_expressions.proofs.Signs.{handed_on}
use Rattle.std.proofs.Common.{[], ◌∷◌, refl, sym, ◌∙◌}
use Rattle.std.proofs.lemmas.Slice.{pushed}
use Rattle.gms_grammar.specs.Grammar.{the}
use Rattle.gms_grammar.specs.GamsGrammar.{LoopStatement, LoopBody, Assignment}
use Rattle.gms_grammar.specs.declared.terminal.Terminal.TheVariants.{Display, Option, Solve, Abort, Loop}
use Rattle.gms_parse.specs.InnerReadings.{seen_from}
use Rattle.gms_parse.proofs.Steps.{refuses_the, refuses_first, refuses_second, refuses_memory, refuses_at}
use Rattle.gms_parse.proofs.Nexts.{refuses_lacking, gives_exact, refuses_unopened, falls, starts_somewhere}
use Rattle.gms_parse.proofs.Ends.{led_within}
use Rattle.gms_parse.proofs.Choices.{at_once, in_first, in_other, way_within, through}
use Rattle.gms_parse.proofs.Looped.{loop_inside, loop_has, control_starts, loop_refused, loop_unclosed, loop_got, body_starts, body_tableless, body_refused, looped_got, body_start, body_on, body_ended, body_got, body_refuses, semicolon_starts, inner_got, inner_assigned, inner_other, inner_within, leads_assignment, none_stuck, unled_other}
use Rattle.gms_parse.proofs.reader.Reader.+loops.Goals as goal

pub act-returns-in-Display-clause-read : goal.act-returns-in-Display-clause-read
act-returns-in-Display-clause-read g t c read_state h = through _ _ c.args.self.now c.args.at c.display.new.tables read_state c.display.result (way_within {kind = Display} (in_first refl at_once) (sym c.next.ensures ∙ c.in-Display.is) refl) (c.display.ensures read_state h) (λ v l. l) (λ sense tree x m. m)

pub act-returns-in-Display-clause-other : goal.act-returns-in-Display-clause-other
act-returns-in-Display-clause-other g t c unled = absurd (unled_other Display (seen_from c.args.self.now c.args.at) (sym c.next.ensures ∙ c.in-Display.is) refl refl unled)

pub act-returns-in-Option-clause-read : goal.act-returns-in-Option-clause-read
act-returns-in-Option-clause-read g t c read_state h = through _ _ c.args.self.now c.args.at c.args.tables.now read_state c.options.result (way_within {kind = Option} (in_other refl refl (in_first refl at_once)) (sym c.next.ensures ∙ c.in-Option.is) refl) (c.options.ensures c.args.tables.now read_state h) (λ v l. l) (λ sense tree x m. m)

pub act-returns-in-Option-clause-other : goal.act-returns-in-Option-clause-other
act-returns-in-Option-clause-other g t c unled = absurd (unled_other Option (seen_from c.args.self.now c.args.at) (sym c.next.ensures ∙ c.in-Option.is) refl refl unled)

pub act-returns-in-Solve-clause-read : goal.act-returns-in-Solve-clause-read
act-returns-in-Solve-clause-read g t c read_state h = through _ _ c.args.self.now c.args.at c.solve.new.tables read_state c.solve.result (way_within {kind = Solve} (in_other refl refl (in_other refl refl (in_first refl at_once))) (sym c.next.ensures ∙ c.in-Solve.is) refl) (c.solve.ensures read_state h) (λ v l. l) (λ sense tree x m. m)

pub act-returns-in-Solve-clause-other : goal.act-returns-in-Solve-clause-other
act-returns-in-Solve-clause-other g t c unled = absurd (unled_other Solve (seen_from c.args.self.now c.args.at) (sym c.next.ensures ∙ c.in-Solve.is) refl refl unled)

pub act-returns-in-Abort-clause-read : goal.act-returns-in-Abort-clause-read
act-returns-in-Abort-clause-read g t c read_state h = through _ _ c.args.self.now c.args.at c.abort.new.tables read_state c.abort.result (way_within {kind = Abort} (in_other refl refl (in_other refl refl (in_other refl refl (in_first refl at_once)))) (sym c.next.ensures ∙ c.in-Abort.is) refl) (c.abort.ensures read_state h) (λ v l. l) (λ sense tree x m. m)

pub act-returns-in-Abort-clause-other : goal.act-returns-in-Abort-clause-other
act-returns-in-Abort-clause-other g t c unled = absurd (unled_other Abort (seen_from c.args.self.now c.args.at) (sym c.next.ensures ∙ c.in-Abort.is) refl refl unled)

pub act-returns-in-Loop-clause-read : goal.act-returns-in-Loop-clause-read
act-returns-in-Loop-clause-read g t c read_state h = through _ _ c.args.self.now c.args.at c.loop_statement.new.tables read_state c.loop_statement.result (way_within {kind = Loop} (in_other refl refl (in_other refl refl (in_other refl refl (in_other refl refl at_once)))) (sym c.next.ensures ∙ c.in-Loop.is) refl) (c.loop_statement.ensures read_state h) (λ v l. l) (λ sense tree x m. m)

pub act-returns-in-Loop-clause-other : goal.act-returns-in-Loop-clause-other
act-returns-in-Loop-clause-other g t c unled = absurd (unled_other Loop (seen_from c.args.self.now c.args.at) (sym c.next.ensures ∙ c.in-Loop.is) refl refl unled)

pub act-returns-in_default-clause-read : goal.act-returns-in_default-clause-read
act-returns-in_default-clause-read g t c read_state h = refuses_at (none_stuck (seen_from c.args.self.now c.args.at) c.next.ensures (c.in_default.not-Display, (c.in_default.not-Option, (c.in_default.not-Solve, (c.in_default.not-Abort, (c.in_default.not-Loop, tt)))))) c.unexpected.ensures

pub act-returns-in_default-clause-other : goal.act-returns-in_default-clause-other
act-returns-in_default-clause-other g t c unled = c.unexpected.ensures

pub loop_statement-returns-in_err-opening : goal.loop_statement-returns-in_err-opening
loop_statement-returns-in_err-opening g t c read_state h = handed_on _ _ c.from_residual.result _ c.from_residual.ensures.1 (refuses_the LoopStatement (refuses_first (refuses_lacking c.in_err-opening.ensures)))

pub loop_statement-returns-in_err-inner : goal.loop_statement-returns-in_err-inner
loop_statement-returns-in_err-inner g t c read_state h =
    let n = c.in_ok-opening.ensures.next in
    handed_on _ _ c.from_residual-in_err-inner.result _ c.from_residual-in_err-inner.ensures.1
    (refuses_the LoopStatement (refuses_second (gives_exact n refl) (refuses_unopened loop_inside c.in_err-inner.ensures (loop_has h n).holds)))

pub loop_statement-control-requires-clause-within : goal.loop_statement-control-requires-clause-within
loop_statement-control-requires-clause-within g t c = inner_within c.requires c.in_ok-inner.ensures

pub loop_statement-returns-in_err-control : goal.loop_statement-returns-in_err-control
loop_statement-returns-in_err-control g t c read_state h =
    let n = c.in_ok-opening.ensures.next in
    let o = c.in_ok-inner.ensures in
    handed_on _ _ c.from_residual-in_err-control.result _ c.from_residual-in_err-control.ensures.1
    (loop_refused h n o (refuses_first (c.in_err-control.ensures _ (control_starts h n o) refl)))

pub loop_statement-returns-in_err-first : goal.loop_statement-returns-in_err-first
loop_statement-returns-in_err-first g t c read_state h =
    let n = c.in_ok-opening.ensures.next in
    let o = c.in_ok-inner.ensures in
    let f = c.in_ok-control.ensures _ (control_starts h n o) refl in
    handed_on _ _ c.from_residual-in_err-first.result _ c.from_residual-in_err-first.ensures.1
    (loop_refused h n o (refuses_second f.gives (refuses_first (refuses_lacking c.in_err-first.ensures))))

pub loop_statement-returns-in_err-body : goal.loop_statement-returns-in_err-body
loop_statement-returns-in_err-body g t c read_state h =
    let n = c.in_ok-opening.ensures.next in
    let o = c.in_ok-inner.ensures in
    let f = c.in_ok-control.ensures _ (control_starts h n o) refl in
    let m = c.in_ok-first.ensures.next in
    handed_on _ _ c.from_residual-in_err-body.result _ c.from_residual-in_err-body.ensures.1
    (loop_refused h n o (body_refused g.F.ExactField.value refl f m (c.in_err-body.ensures _ (body_starts g.F.ExactField.value refl f m) (body_tableless g.F.ExactField.value refl f m))))

pub loop_statement-returns-in_err-following : goal.loop_statement-returns-in_err-following
loop_statement-returns-in_err-following g t c read_state h =
    let n = c.in_ok-opening.ensures.next in
    let o = c.in_ok-inner.ensures in
    let f = c.in_ok-control.ensures _ (control_starts h n o) refl in
    let m = c.in_ok-first.ensures.next in
    let b = c.in_ok-body.ensures _ (body_starts g.F.ExactField.value refl f m) (body_tableless g.F.ExactField.value refl f m) in
    handed_on _ _ c.from_residual-in_err-following.result _ c.from_residual-in_err-following.ensures.1
    (loop_unclosed h n o g.F.ExactField.value (looped_got g.F.ExactField.value refl f m b) c.in_err-following.ensures)

pub loop_statement-returns : goal.loop_statement-returns
loop_statement-returns g t c read_state h =
    let n = c.in_ok-opening.ensures.next in
    let o = c.in_ok-inner.ensures in
    let f = c.in_ok-control.ensures _ (control_starts h n o) refl in
    let m = c.in_ok-first.ensures.next in
    let b = c.in_ok-body.ensures _ (body_starts g.F.ExactField.value refl f m) (body_tableless g.F.ExactField.value refl f m) in
    loop_got h n o g.F.ExactField.value (looped_got g.F.ExactField.value refl f m b) c.in_ok-following.ensures.next

pub loop_body-returns-in_err-first : goal.loop_body-returns-in_err-first
loop_body-returns-in_err-first g t c read_state s other = handed_on _ _ c.from_residual.result _ c.from_residual.ensures.1 (refuses_the LoopBody (refuses_first (c.in_err-first.ensures read_state s other)))

pub loop_body-returns-in_err-push : goal.loop_body-returns-in_err-push
loop_body-returns-in_err-push g t c read_state s other = handed_on _ _ c.from_residual-in_err-push.result _ c.from_residual-in_err-push.ensures.1 (refuses_memory refl)

pub loop_body-loop-following-init : goal.loop_body-loop-following-init
loop_body-loop-following-init g t c read_state s other = body_start g.F.ExactField.value (c.in_ok-first.ensures read_state s other) _ (pushed (c.in_ok-first.first ∷ []) c.new-body.ensures.items c.in_ok-push.was c.push.ensures.items)

pub loop_body-returns-in_err-statement : goal.loop_body-returns-in_err-statement
loop_body-returns-in_err-statement g t c read_state s other =
    let l = c.loop-following.invariant read_state s other in
    handed_on _ _ c.from_residual-in_err-statement.result _ c.from_residual-in_err-statement.ensures.1
    (body_refuses g.F.ExactField.value l c.in-Some.ensures (sym c.is_any_next.ensures ∙ c.if-not-is_any_next.false) (c.in_err-statement.ensures _ (semicolon_starts l.ends.holds c.in-Some.ensures) refl))

pub loop_body-returns-in_err-push-2 : goal.loop_body-returns-in_err-push-2
loop_body-returns-in_err-push-2 g t c read_state s other = handed_on _ _ c.from_residual-in_err-push-2.result _ c.from_residual-in_err-push-2.ensures.1 (refuses_memory refl)

pub loop_body-loop-following-smaller : goal.loop_body-loop-following-smaller
loop_body-loop-following-smaller g t c = falls c.in-Some.ensures _ (c.in_ok-statement.ensures _ (starts_somewhere c.args.self.now c.loop-following.tables) refl).further

pub loop_body-loop-following-preserved : goal.loop_body-loop-following-preserved
loop_body-loop-following-preserved g t c read_state s other =
    let l = c.loop-following.invariant read_state s other in
    body_on g.F.ExactField.value l c.in-Some.ensures (sym c.is_any_next.ensures ∙ c.if-not-is_any_next.false) (c.in_ok-statement.ensures _ (semicolon_starts l.ends.holds c.in-Some.ensures) refl) _ c.in_ok-push-2.ensures.items

pub loop_body-returns-then-not-is_any_next : goal.loop_body-returns-then-not-is_any_next
loop_body-returns-then-not-is_any_next g t c read_state s other = body_ended g.F.ExactField.value (c.loop-following.invariant read_state s other) c.in-Some.ensures (sym c.is_any_next.ensures ∙ c.if-not-is_any_next.true) c.loop-following.body refl

pub loop_body-returns : goal.loop_body-returns
loop_body-returns g t c read_state s other = body_got g.F.ExactField.value (c.loop-following.invariant read_state s other) c.in_default.ensures c.loop-following.body refl

pub inner_statement-returns-in_err-act : goal.inner_statement-returns-in_err-act
inner_statement-returns-in_err-act g t c read_state s other = handed_on _ _ c.from_residual.result _ c.from_residual.ensures.1 (c.in_err-act.ensures read_state s other)

pub inner_statement-returns : goal.inner_statement-returns
inner_statement-returns g t c read_state s other = inner_got g.F.ExactField.value (c.in_ok-act.ensures read_state s other) _ c.place.ensures refl

pub inner_act-returns-then-is_any_next : goal.inner_act-returns-then-is_any_next
inner_act-returns-then-is_any_next g t c read_state s other = inner_assigned g.F.ExactField.value g.F.ExactField.limit c.args.self.now c.args.at c.assignment.new.tables read_state c.assignment.result (sym c.is_any_next.ensures ∙ c.if-is_any_next.true) other (c.assignment.ensures read_state s other)

pub inner_act-returns : goal.inner_act-returns
inner_act-returns g t c read_state s other = inner_other g.F.ExactField.value g.F.ExactField.limit c.args.self.now c.args.at c.act.new.tables read_state c.act.result (sym c.is_any_next.ensures ∙ c.if-is_any_next.false) (c.act.ensures.read read_state s.has.holds) c.act.ensures.other

pub inner_act-assignment-requires-clause-within : goal.inner_act-assignment-requires-clause-within
inner_act-assignment-requires-clause-within g t c = led_within (the Assignment) c.args.self.now c.args.at (leads_assignment (seen_from c.args.self.now c.args.at) ∙ sym c.is_any_next.ensures ∙ c.if-is_any_next.true)
