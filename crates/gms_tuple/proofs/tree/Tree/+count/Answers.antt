use Rattle.std.proofs.Common.{◌≡◌, ◌∙◌, ◌<◌, [], false, refl, sym, ap, subst, length, get_or, arith}
use Rattle.std.specs.List.{count_by}
use Rattle.std.proofs.lemmas.Option.{slice_get_read, get_or_from_slice_get}
use Rattle.gms_tuple.specs.declared.tree.Fork.{Fork}
use Rattle.gms_tuple.specs.TupleOrder.{IsOrdered}
use Rattle.gms_tuple.specs.TupleSet.{is_within}
use Rattle.gms_tuple.specs.InnerTrees.{listed, tuples, IsFork, IsCounted}
use Rattle.gms_tuple.proofs.Forks.{length-block, own-ordered, ordered-left, is_within-closed, first-fails}
use Rattle.gms_tuple.proofs.tree.Tree.+count.Goals as goal

pub count-requires : goal.count-requires
count-requires t c =
    let f = c.in-Fork.fork.value in
    let is : listed f ≡ c.args.self.now = sym (ap tuples c.in-Fork.is) ∙ c.self.view_is in
    let ordered : IsOrdered (listed f) = subst IsOrdered (sym is) c.requires in
    let fork : IsFork f = subst IsCounted c.in-Fork.is c.self.invariant in
    (omega (arith, c.decreases, ap length is, length-block f.left f.own.items f.right, fork.1, ap (λ (g : Fork). length g.left) c.deref-then-not-is_within.ensures), subst (λ (g : Fork). IsOrdered g.left) (sym c.deref-then-not-is_within.ensures) (ordered-left f.left _ ordered))

pub returns-then-not-is_within : goal.returns-then-not-is_within
returns-then-not-is_within t c =
    let f = c.in-Fork.fork.value in
    let p = is_within c.args.through c.args.t.now in
    let is : listed f ≡ c.args.self.now = sym (ap tuples c.in-Fork.is) ∙ c.self.view_is in
    let ordered : IsOrdered (listed f) = subst IsOrdered (sym is) c.requires in
    let fork : IsFork f = subst IsCounted c.in-Fork.is c.self.invariant in
    let some : 0 < length c.deref.result.now.own.items = subst (λ (g : Fork). 0 < length g.own.items) (sym c.deref.ensures) fork.1 in
    let first : get_or c.deref.result.now.own.items 0 [] ≡ c.index.result.now = get_or_from_slice_get c.deref.result.now.own.items 0 c.index.result.now [] (slice_get_read c.deref.result.now.own.items _ 0 c.index.result.now refl some c.index.ensures) in
    let fails : p (get_or f.own.items 0 []) ≡ false = ap (λ (g : Fork). p (get_or g.own.items 0 [])) (sym c.deref.ensures) ∙ ap p first ∙ sym c.is_within.ensures ∙ c.if-not-is_within.true in
    c.count.ensures ∙ ap (λ (g : Fork). count_by p g.left) c.deref-then-not-is_within.ensures
    ∙ sym (first-fails p (is_within-closed c.args.through c.args.t.now) f.left f.own.items f.right ordered fork.1 fails) ∙ ap (count_by p) is

pub count-after-requires : goal.count-after-requires
count-after-requires t c =
    let f = c.in-Fork.fork.value in
    let is : listed f ≡ c.args.self.now = sym (ap tuples c.in-Fork.is) ∙ c.self.view_is in
    let ordered : IsOrdered (listed f) = subst IsOrdered (sym is) c.requires in
    let fork : IsFork f = subst IsCounted c.in-Fork.is c.self.invariant in
    (omega (arith, c.decreases, ap length is, length-block f.left f.own.items f.right, fork.1, ap (λ (g : Fork). length g.right) c.deref-2.ensures), subst (λ (g : Fork). IsOrdered g.right) (sym c.deref-2.ensures) (own-ordered f.own.items f.right (own-ordered f.left _ ordered)))
