use Rattle.std.proofs.Common.{◌≡◌, ◌∙◌, ap, subst, None}
use Rattle.std.specs.FinMap as finite
use Rattle.gms_tuple.specs.TupleOrder.{tuple_cmp}
use Rattle.gms_store.specs.InnerParts.{IsAtPlace}
use Rattle.gms_store.proofs.Parts.{get-following, get-tree}
use Rattle.gms_store.proofs.values.Values.get.Goals as goal

pub returns-in-Some : goal.returns-in-Some
returns-in-Some g c =
    get-following c.self.inside.following.items c.self.inside.tree.entries c.in-Some.place c.args.t.now c.index.result.now c.self.invariant (subst (λ b. IsAtPlace b c.in-Some.place c.args.t.now) c.deref.ensures.value c.in-Some.ensures.there) c.index.ensures
    ∙ ap (λ m. finite.get m c.args.t.now) c.self.view_is

pub returns-in-None : goal.returns-in-None
returns-in-None g c =
    c.copied.ensures
    ∙ c.get.ensures.value
    ∙ get-tree c.self.inside.following.items c.self.inside.tree.entries c.args.t.now (subst (λ b. finite.find tuple_cmp c.args.t.now b ≡ None) c.deref.ensures.value c.in-None.ensures.absent)
    ∙ ap (λ m. finite.get m c.args.t.now) c.self.view_is
