-- The left side of the left side stays on the left; what is to the right of it is the new right
-- side.
use Rattle.std.proofs.Common.{◌++◌, ◌<◌, length, sym, ap, subst, ◌∙◌}
use Rattle.gms_tuple.specs.declared.tree.Fork.{Fork}
use Rattle.gms_tuple.proofs.Turns.{turned-right, sized-again, turned-fork}
use Rattle.gms_tuple.proofs.tree.Fork.turn_right.Goals as goal

pub returns-in_default-clause-tuples : goal.returns-in_default-clause-tuples
returns-in_default-clause-tuples c =
    ap (λ left. left ++ (c.args.self.now.own.items ++ c.args.self.now.right)) (c.take.ensures.none ∙ c.in_default.ensures.tuples ∙ c.take.ensures.all)

pub returns-in_default-clause-counted : goal.returns-in_default-clause-counted
returns-in_default-clause-counted c = turned-fork c.args.self.now c.args.self.now.own.items c.requires (returns-in_default-clause-tuples c) c.requires.1

pub of-requires : goal.of-requires
of-requires c =
    let own =
    ap (λ (g : Fork). g.own) c.deref_mut-8.ensures.value ∙ ap (λ (g : Fork). g.own) c.deref_mut-6.ensures.value ∙ ap (λ (g : Fork). g.own) c.deref_mut-4.ensures.value
    ∙ ap (λ (g : Fork). g.own) c.deref_mut-3.ensures.value ∙ ap (λ (g : Fork). g.own) c.deref_mut-2.ensures.value ∙ c.swap.ensures.y_after
    in (
      sized-again c.deref_mut-8.result.now c.deref.result.now c.deref-2.result.now c.deref-3.result.now (c.deref.ensures ∙ sym c.deref_mut-8.ensures.value) (c.deref-2.ensures ∙ sym c.deref_mut-8.ensures.value) (c.deref-3.ensures ∙ sym c.deref_mut-8.ensures.value) c.len.ensures c.len-2.ensures c.len-3.ensures,
      subst (λ v. 0 < length v.items) (sym own) c.requires.1,
    )

pub returns-clause-tuples : goal.returns-clause-tuples
returns-clause-tuples c =
    let o = c.in-Fork.other.value in
    let own =
    ap (λ (g : Fork). g.own.items) c.deref_mut-8.ensures.value ∙ ap (λ (g : Fork). g.own.items) c.deref_mut-6.ensures.value ∙ ap (λ (g : Fork). g.own.items) c.deref_mut-4.ensures.value
    ∙ ap (λ (g : Fork). g.own.items) c.deref_mut-3.ensures.value ∙ ap (λ (g : Fork). g.own.items) c.deref_mut-2.ensures.value ∙ ap (λ v. v.items) c.swap.ensures.y_after
    in
    let left =
    ap (λ (g : Fork). g.left) c.deref_mut-8.ensures.value ∙ ap (λ (g : Fork). g.left) c.deref_mut-6.ensures.value ∙ c.take-3.ensures.all
    ∙ ap (λ (g : Fork). g.right) c.deref_mut-3.ensures.value ∙ ap (λ (g : Fork). g.right) c.deref_mut-2.ensures.value ∙ ap (λ (g : Fork). g.right) c.deref_mut.ensures.value
    in
    let right = ap (λ (g : Fork). g.right) c.deref_mut-8.ensures.value ∙ c.take-4.ensures.all in
    let outer = c.take-2.ensures.all ∙ ap (λ (g : Fork). g.left) c.deref_mut-2.ensures.value ∙ ap (λ (g : Fork). g.left) c.deref_mut.ensures.value in
    let block = ap (λ v. v.items) c.swap.ensures.x_after ∙ ap (λ (g : Fork). g.own.items) c.deref_mut.ensures.value in
    turned-right o.left o.own.items o.right c.args.self.now.own.items c.args.self.now.right outer block c.of.ensures own left right (c.in-Fork.ensures.tuples ∙ c.take.ensures.all)

pub returns-clause-counted : goal.returns-clause-counted
returns-clause-counted c =
    let some : 0 < length c.in-Fork.other.value.own.items = c.in-Fork.ensures.counted.1 in
    turned-fork c.args.self.now c.swap.new.x.items c.requires (returns-clause-tuples c) (subst (λ v. 0 < length v.items) (sym (c.swap.ensures.x_after ∙ ap (λ (g : Fork). g.own) c.deref_mut.ensures.value)) some)
