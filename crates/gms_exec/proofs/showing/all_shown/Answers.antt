use Rattle.std.proofs.Common.{◌∙◌, ap, sym, drop, map, ◌+◌}
use Rattle.std.proofs.lemmas.List.{map_push}
use Rattle.gms_event.specs.EventView.{shown_in}
use Rattle.gms_eval.proofs.Answering.{stops-same, stops-along, handed_on, going_on, going_on-start, going_on-more, going_on-fault}
use Rattle.gms_exec.specs.Showing.{shown_of}
use Rattle.gms_exec.proofs.showing.all_shown.Goals as goal

pub loop-item-init : goal.loop-item-init
loop-item-init g c =
    going_on-start (shown_of c.args.labels c.args.store.now c.args.b.now) c.args.items.now ∙ ap (λ items. going_on (shown_of c.args.labels c.args.store.now c.args.b.now) (map (shown_in g.F.ExactField.value) items) c.args.items.now) (sym c.new-all.ensures.items)

pub loop-item-preserved : goal.loop-item-preserved
loop-item-preserved g c =
    c.loop-item.invariant ∙ going_on-more (shown_of c.args.labels c.args.store.now c.args.b.now) (map (shown_in g.F.ExactField.value) c.loop-item.all.items) c.args.items.now c.loop-item.item-index c.item-item.result (shown_in g.F.ExactField.value c.in_ok-one.one) c.loop-item-test.true c.item-item.is c.in_ok-one.ensures ∙ ap (λ done. going_on (shown_of c.args.labels c.args.store.now c.args.b.now) done (drop (c.loop-item.item-index + 1) c.args.items.now)) (sym (ap (map (shown_in g.F.ExactField.value)) c.in_ok-push.ensures.items ∙ map_push (shown_in g.F.ExactField.value) c.loop-item.all.items c.in_ok-one.one))

pub returns-in_err-one : goal.returns-in_err-one
returns-in_err-one g c =
    handed_on g.F.ExactField.value (map (shown_in g.F.ExactField.value)) c.from_residual.result c.in_err-one.field-0.0 _ c.from_residual.ensures.1 (stops-same g.F.ExactField.value c.in_err-one.field-0.0 _ _ c.loop-item.invariant (stops-along g.F.ExactField.value c.in_err-one.field-0.0 (shown_of c.args.labels c.args.store.now c.args.b.now c.item-item.result) _ (λ fault e. going_on-fault (shown_of c.args.labels c.args.store.now c.args.b.now) (map (shown_in g.F.ExactField.value) c.loop-item.all.items) c.args.items.now c.loop-item.item-index c.item-item.result fault c.loop-item-test.true c.item-item.is e) c.in_err-one.ensures))
