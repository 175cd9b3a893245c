use Rattle.std.proofs.Common.{◌∙◌, ap, sym, List, ℕ}
use Rattle.std.specs.Prelude.{flat_map}
use Rattle.gms_ast.specs.declared.declaration.Item.{Item}
use Rattle.gms_scope.specs.Data.{labels_of_items, least_after}
use Rattle.gms_scope.proofs.Ascents.{ascending, done, goes, is_there, stops}
use Rattle.gms_scope.proofs.data.are_ascending.Goals as goal

-- the labels of an item
abbrev labels_in : {F : Type 0} → Item F → List ℕ
labels_in item = flat_map (λ labels. labels) item.parts

pub returns-in-None : goal.returns-in-None
returns-in-None g c =
    ap is_there (stops labels_in c.args.items.now c.loop-item.item-index c.loop-item.least _ c.item-item.result c.loop-item-test.true c.item-item.is c.loop-item.invariant (c.in-None.ensures ∙ ap (λ parts. least_after c.loop-item.least (flat_map (λ labels. labels) parts)) c.as_slice.ensures)) ∙ sym (ascending (labels_of_items c.args.items.now))

pub loop-item-preserved : goal.loop-item-preserved
loop-item-preserved g c =
    goes labels_in c.args.items.now c.loop-item.item-index c.loop-item.least c.in-Some.next _ c.item-item.result c.loop-item-test.true c.item-item.is c.loop-item.invariant (c.in-Some.ensures ∙ ap (λ parts. least_after c.loop-item.least (flat_map (λ labels. labels) parts)) c.as_slice.ensures)

pub returns : goal.returns
returns g c =
    ap is_there (done labels_in c.args.items.now c.loop-item.item-index c.loop-item.least _ c.loop-item-test.false c.loop-item.invariant) ∙ sym (ascending (labels_of_items c.args.items.now))
