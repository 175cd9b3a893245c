use Rattle.std.proofs.Common.{[], ◌∷◌, refl}
use Rattle.std.proofs.lemmas.Slice.{pushed}
use Rattle.gms_expressions.proofs.Signs.{handed_on}
use Rattle.gms_parse.proofs.Steps.{refuses_first, refuses_memory}
use Rattle.gms_parse.proofs.Nexts.{falls, tableless_on, starts_somewhere}
use Rattle.gms_parse.proofs.Values.{slash_stays}
use Rattle.gms_parse.proofs.Listing.{listing_start, listing_on, listing_got, listing_refuses, separated_stays, separated_starless}
use Rattle.gms_parse.proofs.Items.{no_list, list_refused, list_unclosed, list_got}
use Rattle.gms_parse.proofs.reader.Reader.list.Goals as goal

pub returns-in_default : goal.returns-in_default
returns-in_default g c read_state h other = no_list g.F.ExactField.value c.args.list c.new-items.result c.new-items.ensures.items c.in_default.ensures h

pub returns-in_err-first : goal.returns-in_err-first
returns-in_err-first g c read_state h other =
    let s = slash_stays h c.in-Some.ensures in
    handed_on _ _ c.from_residual.result _ c.from_residual.ensures.1 (list_refused c.args.list h c.in-Some.ensures (refuses_first (c.in_err-first.ensures _ s.has refl (tableless_on s.keyword other))))

pub returns-in_err-push : goal.returns-in_err-push
returns-in_err-push g c read_state h other = handed_on _ _ c.from_residual-in_err-push.result _ c.from_residual-in_err-push.ensures.1 (refuses_memory refl)

pub loop-following-init : goal.loop-following-init
loop-following-init g c read_state h clean other = listing_start (c.in_ok-first.ensures read_state h clean other) _ (pushed (c.in_ok-first.first ∷ []) c.new-items.ensures.items c.in_ok-push.was c.push.ensures.items)

pub returns-in_err-item : goal.returns-in_err-item
returns-in_err-item g c read_state h other =
    let s = slash_stays h c.in-Some.ensures in
    let l = c.loop-following.invariant _ s.has refl (tableless_on s.keyword other) in
    let t = separated_stays l c.in-Some-after_separator.ensures.next refl in
    handed_on _ _ c.from_residual-in_err-item.result _ c.from_residual-in_err-item.ensures.1
    (list_refused c.args.list h c.in-Some.ensures (listing_refuses l c.in-Some-after_separator.ensures.next refl (c.in_err-item.ensures _ t.has (separated_starless l c.in-Some-after_separator.ensures.next refl) (tableless_on t.keyword (tableless_on s.keyword other)))))

pub returns-in_err-push-2 : goal.returns-in_err-push-2
returns-in_err-push-2 g c read_state h other = handed_on _ _ c.from_residual-in_err-push-2.result _ c.from_residual-in_err-push-2.ensures.1 (refuses_memory refl)

pub loop-following-smaller : goal.loop-following-smaller
loop-following-smaller g c = let s = starts_somewhere c.args.self.now c.loop-following.tables in falls c.in-Some-after_separator.ensures.next _ (c.in_ok-item.ensures _ s.has refl refl).further

pub loop-following-preserved : goal.loop-following-preserved
loop-following-preserved g c read_state h clean other =
    let l = c.loop-following.invariant read_state h clean other in
    let t = separated_stays l c.in-Some-after_separator.ensures.next refl in
    listing_on l c.in-Some-after_separator.ensures.next refl (c.in_ok-item.ensures _ t.has (separated_starless l c.in-Some-after_separator.ensures.next refl) (tableless_on t.keyword other)) _ c.in_ok-push-2.ensures.items

pub returns-in_err-following : goal.returns-in_err-following
returns-in_err-following g c read_state h other =
    let s = slash_stays h c.in-Some.ensures in
    let l = c.loop-following.invariant _ s.has refl (tableless_on s.keyword other) in
    handed_on _ _ c.from_residual-in_err-following.result _ c.from_residual-in_err-following.ensures.1 (list_unclosed c.args.list h c.in-Some.ensures g.F.ExactField.value (listing_got l c.in_default-after_separator.ensures) c.in_err-following.ensures)

pub returns : goal.returns
returns g c read_state h other =
    let s = slash_stays h c.in-Some.ensures in
    let l = c.loop-following.invariant _ s.has refl (tableless_on s.keyword other) in
    list_got c.args.list h c.in-Some.ensures g.F.ExactField.value (listing_got l c.in_default-after_separator.ensures) c.in_ok-following.ensures.next c.loop-following.items refl
