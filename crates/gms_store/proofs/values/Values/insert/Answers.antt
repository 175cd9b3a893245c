use Rattle.std.proofs.Common.{◌≡◌, ◌∙◌, ◌++◌, ◌∷◌, [], ap, subst, Some, None}
use Rattle.std.specs.Map.{keys_of}
use Rattle.std.specs.FinMap as finite
use Rattle.gms_tuple.specs.TupleOrder.{tuple_cmp, IsOrdered}
use Rattle.gms_store.specs.InnerParts.{in_two_parts}
use Rattle.gms_store.proofs.Maps.{Writes}
use Rattle.gms_store.proofs.Parts.{pushed, push_absent, keys_put, tree_written}
use Rattle.gms_store.proofs.values.Values.insert.Goals as goal

pub returns-then-comes_last-clause-ok : goal.returns-then-comes_last-clause-ok
returns-then-comes_last-clause-ok g c =
    ap (λ b. in_two_parts b c.self.inside.tree.entries) c.in_ok-push.ensures.items
    ∙ ap (λ key. in_two_parts (c.self.inside.following.items ++ (key, Some c.args.value) ∷ []) c.self.inside.tree.entries) c.in_ok-tuple.ensures
    ∙ pushed c.self.inside.following.items c.self.inside.tree.entries c.args.t.now (Some c.args.value) (subst (λ b. IsOrdered (keys_of b ++ c.args.t.now ∷ [])) c.deref.ensures.value (c.comes_last.ensures c.if-comes_last.true))
    ∙ ap (λ m. finite.insert m c.args.t.now c.args.value) c.self.view_is

pub invariant_of-self-in-Some : goal.invariant_of-self-in-Some
invariant_of-self-in-Some g c =
    keys_put c.self.inside.following.items c.deref-2.result.now c.put_at.new.following.items c.in-Some.place c.args.t.now (Some c.args.value) c.self.invariant c.deref-2.ensures.value c.in-Some.ensures.there c.put_at.ensures

pub returns-in-Some-clause-ok : goal.returns-in-Some-clause-ok
returns-in-Some-clause-ok g c =
    push_absent c.self.inside.following.items c.deref-2.result.now c.put_at.new.following.items c.self.inside.tree.entries c.in-Some.place c.args.t.now (Some c.args.value) c.self.invariant c.deref-2.ensures.value c.in-Some.ensures.there c.put_at.ensures
    ∙ ap (λ m. finite.insert m c.args.t.now c.args.value) c.self.view_is

pub returns-clause-ok : goal.returns-clause-ok
returns-clause-ok g c =
    tree_written c.self.inside.following.items c.self.inside.tree.entries c.insert.new.self.entries c.args.t.now (Some c.args.value) (subst (λ b. finite.find tuple_cmp c.args.t.now b ≡ None) c.deref-2.ensures.value c.in_default.ensures.absent) (subst (λ key. Writes c.self.inside.tree.entries c.insert.new.self.entries key (Some c.args.value)) c.in_ok-tuple-2.ensures c.in_ok-insert.ensures.updates.0)
    ∙ ap (λ m. finite.insert m c.args.t.now c.args.value) c.self.view_is
