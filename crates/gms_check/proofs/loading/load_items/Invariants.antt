use Rattle.std.proofs.Common.{◌≡◌, drop}
use Rattle.std.specs.List.{fold}
use Rattle.gms_check.specs.InnerLoadable.{AreLoadable}
use Rattle.gms_check.specs.Past.{with_item}
use Rattle.gms_check.proofs.loading.load_items.Given as goal

abbrev pub invariant-loop-item : goal.invariant-loop-item
invariant-loop-item g l = record {
  loadable : AreLoadable g.F.ExactField.value l.kind l.store (drop l.item-index l.items);
  same : fold (with_item g.F.ExactField.value l.kind) l.store (drop l.item-index l.items) ≡ fold (with_item g.F.ExactField.value l.kind) l.fn.store l.items;
}
