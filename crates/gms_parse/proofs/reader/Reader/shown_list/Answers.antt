use Rattle.gms_expressions.proofs.Signs.{handed_on}
use Rattle.std.proofs.Common.{[], ◌∷◌, refl}
use Rattle.std.proofs.lemmas.Slice.{pushed}
use Rattle.gms_grammar.specs.GamsGrammar.{ShownList}
use Rattle.gms_parse.proofs.Steps.{refuses_the, refuses_first, refuses_memory}
use Rattle.gms_parse.proofs.Nexts.{falls}
use Rattle.gms_parse.proofs.Listing.{listing_start, listing_on, listing_got, listing_refuses, separated_starts, separated_stays}
use Rattle.gms_parse.proofs.Acts.{shows_on, shown_list_got, starts_showing}
use Rattle.gms_parse.proofs.reader.Reader.shown_list.Goals as goal

pub returns-in_err-first : goal.returns-in_err-first
returns-in_err-first c limit read_state s k l = handed_on _ _ c.from_residual.result _ c.from_residual.ensures.1 (refuses_the ShownList (refuses_first (c.in_err-first.ensures limit read_state s k l)))

pub returns-in_err-push : goal.returns-in_err-push
returns-in_err-push c limit read_state s k l = handed_on _ _ c.from_residual-in_err-push.result _ c.from_residual-in_err-push.ensures.1 (refuses_memory refl)

pub loop-following-init : goal.loop-following-init
loop-following-init c limit read_state s k l = listing_start (c.in_ok-first.ensures limit read_state s k l) _ (pushed (c.in_ok-first.first ∷ []) c.new-items.ensures.items c.in_ok-push.was c.push.ensures.items)

pub returns-in_err-item : goal.returns-in_err-item
returns-in_err-item c limit read_state s k l =
    let items = c.loop-following.invariant limit read_state s k l in
    let shows = shows_on s.has.holds (separated_stays items c.in-Some.ensures refl) (k, l) in
    handed_on _ _ c.from_residual-in_err-item.result _ c.from_residual-in_err-item.ensures.1
    (refuses_the ShownList (listing_refuses items c.in-Some.ensures refl (c.in_err-item.ensures limit _ (separated_starts items c.in-Some.ensures refl refl s) shows.0 shows.1)))

pub returns-in_err-push-2 : goal.returns-in_err-push-2
returns-in_err-push-2 c limit read_state s k l = handed_on _ _ c.from_residual-in_err-push-2.result _ c.from_residual-in_err-push-2.ensures.1 (refuses_memory refl)

pub loop-following-smaller : goal.loop-following-smaller
loop-following-smaller c = falls c.in-Some.ensures _ (c.in_ok-item.ensures 0 _ (starts_showing c.args.self.now c.loop-following.tables) refl refl).further

pub loop-following-preserved : goal.loop-following-preserved
loop-following-preserved c limit read_state s k l =
    let items = c.loop-following.invariant limit read_state s k l in
    let shows = shows_on s.has.holds (separated_stays items c.in-Some.ensures refl) (k, l) in
    listing_on items c.in-Some.ensures refl (c.in_ok-item.ensures limit _ (separated_starts items c.in-Some.ensures refl refl s) shows.0 shows.1) _ c.in_ok-push-2.ensures.items

pub returns : goal.returns
returns c limit read_state s k l = shown_list_got (rw c.new.ensures (listing_got (c.loop-following.invariant limit read_state s k l) c.in_default.ensures))
