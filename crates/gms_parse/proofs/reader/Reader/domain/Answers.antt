use Rattle.std.proofs.Common.{[], ◌∷◌, refl}
use Rattle.std.proofs.lemmas.Slice.{pushed}
use Rattle.gms_grammar.specs.Grammar.{the}
use Rattle.gms_grammar.specs.GamsGrammar.{Domain, DomainList}
use Rattle.gms_expressions.proofs.Signs.{handed_on}
use Rattle.gms_parse.specs.InnerMeanings.{IsPosition}
use Rattle.gms_parse.proofs.Steps.{refuses_the, refuses_first, refuses_memory, gives_the}
use Rattle.gms_parse.proofs.Nexts.{falls, opened, open_starts, refuses_unopened, refuses_inside, refuses_unclosed, refuses_within, got_inside, starts_somewhere}
use Rattle.gms_parse.proofs.Listing.{AreAll, listing_start, listing_on, listing_got, listing_refuses, separated_starts}
use Rattle.gms_parse.proofs.Domains.{domain_got}
use Rattle.gms_parse.proofs.reader.Reader.domain.Goals as goal

pub returns-in_err-inner : goal.returns-in_err-inner
returns-in_err-inner c limit read_state h o = handed_on _ _ c.from_residual.result _ c.from_residual.ensures.1 (refuses_the Domain (refuses_unopened (the DomainList) c.in_err-inner.ensures h.holds))

pub returns-in_err-first : goal.returns-in_err-first
returns-in_err-first c limit read_state h o =
    let io = c.in_ok-inner.ensures in
    handed_on _ _ c.from_residual-in_err-first.result _ c.from_residual-in_err-first.ensures.1
    (refuses_the Domain (refuses_inside io h (refuses_the DomainList (refuses_first (refuses_within c.in_ok-inner.start io (c.in_err-first.ensures limit (opened read_state io) (open_starts io h o)))))))

pub returns-in_err-push : goal.returns-in_err-push
returns-in_err-push c limit read_state h o = handed_on _ _ c.from_residual-in_err-push.result _ c.from_residual-in_err-push.ensures.1 (refuses_memory refl)

pub loop-following-init : goal.loop-following-init
loop-following-init c limit read_state s = listing_start (c.in_ok-first.ensures limit read_state s) _ (pushed (c.in_ok-first.first ∷ []) c.new-positions.ensures.items c.in_ok-push.was c.push.ensures.items)

pub returns-in_err-position : goal.returns-in_err-position
returns-in_err-position c limit read_state h o =
    let io = c.in_ok-inner.ensures in
    let s = open_starts io h o in
    let l = c.loop-following.invariant limit (opened read_state io) s in
    handed_on _ _ c.from_residual-in_err-position.result _ c.from_residual-in_err-position.ensures.1
    (refuses_the Domain (refuses_inside io h (refuses_the DomainList (refuses_within c.in_ok-inner.start io (listing_refuses l c.in-Some.ensures refl (c.in_err-position.ensures limit _ (separated_starts l c.in-Some.ensures refl refl s)))))))

pub returns-in_err-push-2 : goal.returns-in_err-push-2
returns-in_err-push-2 c limit read_state h o = handed_on _ _ c.from_residual-in_err-push-2.result _ c.from_residual-in_err-push-2.ensures.1 (refuses_memory refl)

pub loop-following-smaller : goal.loop-following-smaller
loop-following-smaller c = falls c.in-Some.ensures _ (c.in_ok-position.ensures 0 _ (starts_somewhere c.in_ok-inner.inner c.loop-following.tables)).further

pub loop-following-preserved : goal.loop-following-preserved
loop-following-preserved c limit read_state s =
    let l = c.loop-following.invariant limit read_state s in
    listing_on l c.in-Some.ensures refl (c.in_ok-position.ensures limit _ (separated_starts l c.in-Some.ensures refl refl s)) _ c.in_ok-push-2.ensures.items

pub returns-in_err-following : goal.returns-in_err-following
returns-in_err-following c limit read_state h o =
    let io = c.in_ok-inner.ensures in
    let l = c.loop-following.invariant limit (opened read_state io) (open_starts io h o) in
    let got = got_inside (λ r. AreAll (IsPosition r.source.now)) io (listing_got l c.in_default.ensures) in
    handed_on _ _ c.from_residual-in_err-following.result _ c.from_residual-in_err-following.ensures.1 (refuses_the Domain (refuses_unclosed io h got.leaves (gives_the DomainList got.gives) c.in_err-following.ensures))

pub returns : goal.returns
returns c limit read_state h o =
    let io = c.in_ok-inner.ensures in
    let l = c.loop-following.invariant limit (opened read_state io) (open_starts io h o) in
    domain_got io h (got_inside (λ r. AreAll (IsPosition r.source.now)) io (listing_got l c.in_default.ensures)) c.in_ok-following.ensures.next
