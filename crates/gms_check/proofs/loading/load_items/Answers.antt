use Rattle.std.proofs.Common.{◌∙◌, ◌+◌, ◌∷◌, ap, sym, subst, refl, drop}
use Rattle.std.specs.List.{fold}
use Rattle.std.proofs.lemmas.List.{at_drop_more, drop_all}
use Rattle.gms_ast.specs.declared.declaration.Decl.{Decl}
use Rattle.gms_store.specs.State.{State}
use Rattle.gms_check.specs.InnerLoadable.{AreLoadable}
use Rattle.gms_check.specs.Past.{with_item}
use Rattle.gms_check.proofs.LoadedData.{next-item}
use Rattle.gms_check.proofs.loading.load_items.Goals as goal

pub loop-item-init : goal.loop-item-init
loop-item-init g c = record { loadable = c.requires; same = refl }

pub load_item-requires : goal.load_item-requires
load_item-requires g c =
    (next-item g.F.ExactField.value c.args.kind c.loop-item.store c.args.items.now c.loop-item.item-index c.item-item.result c.loop-item-test.true c.item-item.is c.loop-item.invariant.loadable).0

pub loop-item-preserved : goal.loop-item-preserved
loop-item-preserved g c =
    let value = g.F.ExactField.value in
    let items = c.args.items.now in
    let i = c.loop-item.item-index in
    let item = c.item-item.result in
    let now = c.loop-item.store in
    record {
      loadable = subst (λ (state : State). AreLoadable value c.args.kind state (drop (i + 1) items)) (sym c.in_ok-load_item.ensures) (next-item value c.args.kind now items i item c.loop-item-test.true c.item-item.is c.loop-item.invariant.loadable).1;
      same = ap (λ (state : State). fold (with_item value c.args.kind) state (drop (i + 1) items)) c.in_ok-load_item.ensures ∙ sym (at_drop_more (fold (with_item value c.args.kind) now) items i item c.loop-item-test.true ∙ ap (λ (x : Decl _). fold (with_item value c.args.kind) now (x ∷ drop (i + 1) items)) (sym c.item-item.is)) ∙ c.loop-item.invariant.same;
    }

pub returns : goal.returns
returns g c =
    let value = g.F.ExactField.value in
    sym (ap (fold (with_item value c.args.kind) c.loop-item.store) (drop_all c.loop-item.item-index c.args.items.now c.loop-item-test.false)) ∙ c.loop-item.invariant.same
