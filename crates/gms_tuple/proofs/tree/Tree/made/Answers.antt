-- The numbers of the three parts have the number of all tuples as their sum.
use Rattle.std.proofs.Common.{◌∙◌, ◌<◌, sym, ap, subst, length}
use Rattle.std.specs.Vec.{vec_len}
use Rattle.gms_tuple.specs.declared.tree.Fork.{Fork}
use Rattle.gms_tuple.specs.InnerTrees.{listed}
use Rattle.gms_tuple.proofs.Forks.{length-block}
use Rattle.gms_tuple.proofs.Steps.{two_fit, three_fit, outer_sum, none_of, some_of}
use Rattle.gms_tuple.proofs.Turns.{sized-again}
use Rattle.gms_tuple.proofs.tree.Tree.made.Goals as goal

pub overflow_add-size : goal.overflow_add-size
overflow_add-size c =
    let f = c.args.fork.value in
    let left = c.len.ensures ∙ ap (λ (g : Fork). length g.left) c.deref.ensures in
    let own = c.len-2.ensures ∙ c.deref-2.result.now.own.ok.0 ∙ ap (λ (g : Fork). length g.own.items) c.deref-2.ensures in
    two_fit (length (listed f)) (length f.left) (length f.own.items) (length f.right) (length-block f.left f.own.items f.right) c.len.result c.len-2.result c.requires left own

pub overflow_add-size-2 : goal.overflow_add-size-2
overflow_add-size-2 c =
    let f = c.args.fork.value in
    let left = c.len.ensures ∙ ap (λ (g : Fork). length g.left) c.deref.ensures in
    let own = c.len-2.ensures ∙ c.deref-2.result.now.own.ok.0 ∙ ap (λ (g : Fork). length g.own.items) c.deref-2.ensures in
    let right = c.len-3.ensures ∙ ap (λ (g : Fork). length g.right) c.deref-3.ensures in
    three_fit (length (listed f)) (length f.left) (length f.own.items) (length f.right) (length-block f.left f.own.items f.right) c.len.result c.len-2.result c.len-3.result c.requires left own right

pub joined-requires : goal.joined-requires
joined-requires c =
    let none = none_of (vec_len c.deref-4.result.now.own) c.is_empty.result c.is_empty.ensures c.if-is_empty.true in
    let left = c.len.ensures ∙ ap (λ (g : Fork). length g.left) (c.deref.ensures ∙ sym c.deref_mut.ensures.value) ∙ sym (ap length c.take.ensures.all) in
    let own = c.len-2.ensures ∙ ap (λ (g : Fork). vec_len g.own) (c.deref-2.ensures ∙ sym c.deref-4.ensures) ∙ none in
    let right =
    c.len-3.ensures ∙ ap (λ (g : Fork). length g.right) (c.deref-3.ensures ∙ sym c.deref_mut.ensures.value) ∙ sym (ap (λ (g : Fork). length g.right) c.deref_mut-then-is_empty.ensures.value)
    ∙ sym (ap length c.take-then-is_empty.ensures.all)
    in
    outer_sum c.len.result c.len-2.result c.len-3.result (length c.take.result) (length c.take-then-is_empty.result) left own right

pub balance-requires : goal.balance-requires
balance-requires c =
    let size =
    ap (λ (g : Fork). g.size) c.deref_mut-3.ensures.value
    ∙ sized-again c.args.fork.value c.deref.result.now c.deref-2.result.now c.deref-3.result.now c.deref.ensures c.deref-2.ensures c.deref-3.ensures c.len.ensures c.len-2.ensures c.len-3.ensures
    ∙ sym (ap length (ap listed c.deref_mut-3.ensures.value ∙ ap listed c.deref_mut-2.ensures.value))
    in
    let own =
    c.deref-4.result.now.own.ok.0 ∙ ap (λ (g : Fork). length g.own.items) (c.deref-4.ensures ∙ sym c.deref_mut-2.ensures.value) ∙ sym (ap (λ (g : Fork). length g.own.items) c.deref_mut-3.ensures.value)
    in
    (size, subst (λ n. 0 < n) own (some_of (vec_len c.deref-4.result.now.own) c.is_empty.result c.is_empty.ensures c.if-is_empty.false))

pub of-requires : goal.of-requires
of-requires c = c.balance.ensures.counted

pub returns : goal.returns
returns c = c.of.ensures ∙ c.balance.ensures.tuples ∙ ap listed c.deref_mut-3.ensures.value ∙ ap listed c.deref_mut-2.ensures.value
