use Rattle.std.proofs.Common.{[], ◌∷◌, ◌++◌, refl, ap, ◌∙◌}
use Rattle.std.proofs.lemmas.Slice.{pushed}
use Rattle.gms_grammar.specs.GamsGrammar.{Element}
use Rattle.gms_expressions.proofs.Signs.{handed_on}
use Rattle.gms_parse.proofs.Steps.{refuses_the, refuses_first, refuses_memory}
use Rattle.gms_parse.proofs.Nexts.{falls, tableless_on, starts_somewhere}
use Rattle.gms_parse.proofs.Listing.{listing_refuses, separated_stays, separated_starless}
use Rattle.gms_parse.proofs.Items.{positions_start, positions_on, element_got}
use Rattle.gms_parse.proofs.reader.Reader.element.Goals as goal

pub returns-in_err-first : goal.returns-in_err-first
returns-in_err-first c limit read_state h clean other = handed_on _ _ c.from_residual.result _ c.from_residual.ensures.1 (refuses_the Element (refuses_first (c.in_err-first.ensures limit read_state h clean other)))

pub returns-in_err-push : goal.returns-in_err-push
returns-in_err-push c limit read_state h clean other = handed_on _ _ c.from_residual-in_err-push.result _ c.from_residual-in_err-push.ensures.1 (refuses_memory refl)

pub loop-following-init : goal.loop-following-init
loop-following-init c limit read_state h clean other = positions_start (c.in_ok-first.ensures limit read_state h clean other) _ (pushed (_ ∷ []) c.new-parts.ensures.items c.in_ok-push.was c.push.ensures.items ∙ ap (λ x. x ∷ []) c.new.ensures) refl

pub returns-in_err-part : goal.returns-in_err-part
returns-in_err-part c limit read_state h clean other =
    let l = (c.loop-following.invariant limit read_state h clean other).listing in
    let s = separated_stays l c.in-Some.ensures refl in
    handed_on _ _ c.from_residual-in_err-part.result _ c.from_residual-in_err-part.ensures.1 (refuses_the Element (listing_refuses l c.in-Some.ensures refl (c.in_err-part.ensures limit _ s.has (separated_starless l c.in-Some.ensures refl) (tableless_on s.keyword other))))

pub returns-in_err-push-2 : goal.returns-in_err-push-2
returns-in_err-push-2 c limit read_state h clean other = handed_on _ _ c.from_residual-in_err-push-2.result _ c.from_residual-in_err-push-2.ensures.1 (refuses_memory refl)

pub loop-following-smaller : goal.loop-following-smaller
loop-following-smaller c = let s = starts_somewhere c.args.self.now c.loop-following.tables in falls c.in-Some.ensures _ (c.in_ok-part.ensures 0 _ s.has refl refl).further

pub loop-following-preserved : goal.loop-following-preserved
loop-following-preserved c limit read_state h clean other =
    let p = c.loop-following.invariant limit read_state h clean other in
    let s = separated_stays p.listing c.in-Some.ensures refl in
    positions_on p c.in-Some.ensures (c.in_ok-part.ensures limit _ s.has (separated_starless p.listing c.in-Some.ensures refl) (tableless_on s.keyword other)) _ (c.in_ok-push-2.ensures.items ∙ ap (λ x. c.loop-following.parts.items ++ x ∷ []) c.new-in-Some.ensures) _ refl

pub returns : goal.returns
returns c limit read_state h clean other = element_got (c.loop-following.invariant limit read_state h clean other) c.in_default.ensures _ refl refl c.place.ensures
