use Rattle.std.proofs.Common.{[], ◌∷◌, refl}
use Rattle.std.proofs.lemmas.Slice.{pushed}
use Rattle.gms_expressions.proofs.Signs.{handed_on}
use Rattle.gms_parse.proofs.Steps.{refuses_first, refuses_memory}
use Rattle.gms_parse.proofs.Nexts.{stays_then, optionless_on, tableless_on, starts_somewhere}
use Rattle.gms_parse.proofs.Itemized.{items_start, items_on, items_refused, items_got, further_stays, further_starts, further_falls}
use Rattle.gms_parse.proofs.Declarations.{form_items}
use Rattle.gms_parse.proofs.reader.Reader.items.Goals as goal

pub returns-in_err-first : goal.returns-in_err-first
returns-in_err-first g c read_state s other = handed_on _ _ c.from_residual.result _ c.from_residual.ensures.1
    (((form_items c.args.form).enters g.F.ExactField.limit c.args.self.now.source.now _ _).refuses _ (refuses_first (c.in_err-first.ensures read_state s other)))

pub returns-in_err-push : goal.returns-in_err-push
returns-in_err-push g c read_state s other = handed_on _ _ c.from_residual-in_err-push.result _ c.from_residual-in_err-push.ensures.1 (refuses_memory refl)

pub loop-following-init : goal.loop-following-init
loop-following-init g c read_state s other = items_start (λ sense tree x k. k) (form_items c.args.form) (c.in_ok-first.ensures read_state s other) _ (pushed (c.in_ok-first.first ∷ []) c.new-items.ensures.items c.in_ok-push.was c.push.ensures.items)

pub returns-in_err-item : goal.returns-in_err-item
returns-in_err-item g c read_state s other =
    let l = c.loop-following.invariant read_state s other in
    let k = stays_then l.stays (further_stays c.args.self.now _ _ c.in-Some.ensures l.stays.has) in
    handed_on _ _ c.from_residual-in_err-item.result _ c.from_residual-in_err-item.ensures.1
    (items_refused (λ sense tree x k. k) (form_items c.args.form) l c.in-Some.ensures
    (c.in_err-item.ensures _ (further_starts c.args.self.now _ _ c.in-Some.ensures l.stays.has (optionless_on l.stays.keyword s.optionless)) (tableless_on k.keyword other)))

pub returns-in_err-push-2 : goal.returns-in_err-push-2
returns-in_err-push-2 g c read_state s other = handed_on _ _ c.from_residual-in_err-push-2.result _ c.from_residual-in_err-push-2.ensures.1 (refuses_memory refl)

pub loop-following-smaller : goal.loop-following-smaller
loop-following-smaller g c = further_falls c.args.self.now _ _ c.in-Some.ensures _ (c.in_ok-item.ensures _ (starts_somewhere c.args.self.now c.loop-following.tables) refl).further

pub loop-following-preserved : goal.loop-following-preserved
loop-following-preserved g c read_state s other =
    let l = c.loop-following.invariant read_state s other in
    let k = stays_then l.stays (further_stays c.args.self.now _ _ c.in-Some.ensures l.stays.has) in
    items_on (λ sense tree x k. k) (form_items c.args.form) l c.in-Some.ensures
    (c.in_ok-item.ensures _ (further_starts c.args.self.now _ _ c.in-Some.ensures l.stays.has (optionless_on l.stays.keyword s.optionless)) (tableless_on k.keyword other)) _ c.in_ok-push-2.ensures.items

pub returns : goal.returns
returns g c read_state s other = rw c.new.ensures (items_got (λ sense tree x k. k) (form_items c.args.form) (c.loop-following.invariant read_state s other) c.in_default.ensures (c.after_last_item.ensures c.in_default.ensures))
