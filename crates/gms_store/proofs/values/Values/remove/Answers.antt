use Rattle.std.proofs.Common.{◌≡◌, ◌∙◌, ap, subst, None}
use Rattle.std.specs.FinMap as finite
use Rattle.gms_tuple.specs.TupleOrder.{tuple_cmp}
use Rattle.gms_store.proofs.Parts.{push_absent, keys_put, tree_written}
use Rattle.gms_store.proofs.values.Values.remove.Goals as goal

pub invariant_of-self : goal.invariant_of-self
invariant_of-self g c =
    keys_put c.self.inside.following.items c.deref.result.now c.put_at.new.following.items c.in-Some.place c.args.t.now None c.self.invariant c.deref.ensures.value c.in-Some.ensures.there c.put_at.ensures

pub returns-in-Some : goal.returns-in-Some
returns-in-Some g c =
    push_absent c.self.inside.following.items c.deref.result.now c.put_at.new.following.items c.self.inside.tree.entries c.in-Some.place c.args.t.now None c.self.invariant c.deref.ensures.value c.in-Some.ensures.there c.put_at.ensures
    ∙ ap (λ m. finite.remove m c.args.t.now) c.self.view_is

pub returns-in-None : goal.returns-in-None
returns-in-None g c =
    tree_written c.self.inside.following.items c.self.inside.tree.entries c.remove.new.self.entries c.args.t.now None (subst (λ b. finite.find tuple_cmp c.args.t.now b ≡ None) c.deref.ensures.value c.in-None.ensures.absent) c.remove.ensures.updates.0
    ∙ ap (λ m. finite.remove m c.args.t.now) c.self.view_is
