-- The tuples that follow are joined to the tree, or appended to its right side.
use Rattle.std.proofs.Common.{◌≡◌, ℕ, List, ◌+◌, ◌<◌, ◌++◌, ◌∙◌, sym, ap, ap₂, subst, length, append_assoc}
use Rattle.std.proofs.lemmas.List.{length-append}
use Rattle.gms_tuple.specs.declared.tree.Fork.{Fork}
use Rattle.gms_tuple.specs.InnerTrees.{listed}
use Rattle.gms_tuple.proofs.Forks.{length-block}
use Rattle.gms_tuple.proofs.Steps.{fewer-part_right, right_bound, sum_fits}
use Rattle.gms_tuple.proofs.tree.Tree.+append.Goals as goal

pub overflow_add-size : goal.overflow_add-size
overflow_add-size t c = sum_fits c.len.result c.len-2.result (length c.args.self.now) (length c.args.following) c.len.ensures c.len-2.ensures c.requires

pub returns-in_default : goal.returns-in_default
returns-in_default t c = ap (λ xs. xs ++ c.args.following) (c.in_default.ensures.tuples ∙ c.take.ensures.all)

pub of-requires : goal.of-requires
of-requires t c = c.in-Fork.ensures.counted

pub joined-requires : goal.joined-requires
joined-requires t c = ap₂ (λ n m. n + m) (c.len.ensures ∙ ap length (sym (c.of.ensures ∙ c.in-Fork.ensures.tuples ∙ c.take.ensures.all))) c.len-2.ensures

pub returns-then-deref-len : goal.returns-then-deref-len
returns-then-deref-len t c = c.joined.ensures ∙ ap (λ xs. xs ++ c.args.following) (c.of.ensures ∙ c.in-Fork.ensures.tuples ∙ c.take.ensures.all)

pub append-requires : goal.append-requires
append-requires t c =
    let f = c.in-Fork.fork.value in
    let is : listed f ≡ c.args.self.now = c.in-Fork.ensures.tuples ∙ c.take.ensures.all in
    let whole = ap length (sym is) ∙ length-block f.left f.own.items f.right in
    let right = ap (λ (g : Fork). length g.right) c.deref_mut.ensures.value in (
      fewer-part_right t (length c.args.self.now) (length c.deref_mut.result.now.right) (length f.left) (length f.own.items) (length f.right) c.decreases whole c.in-Fork.ensures.counted.1 right,
      right_bound (length c.args.self.now) (length f.left) (length f.own.items) (length f.right) whole (length c.deref_mut.result.now.right) (length c.args.following) c.requires right,
    )

-- a list after a fork is a list after the fork's right side
appended : (l m r xs : List (List ℕ)) → l ++ (m ++ (r ++ xs)) ≡ (l ++ (m ++ r)) ++ xs
appended l m r xs = sym (append_assoc l (m ++ r) xs ∙ ap (λ ys. l ++ ys) (append_assoc m r xs))

pub balance-requires : goal.balance-requires
balance-requires t c =
    let f = c.in-Fork.fork.value in
    let now : listed c.deref_mut-3.result.now ≡ c.args.self.now ++ c.args.following =
    ap listed c.deref_mut-3.ensures.value ∙ ap listed c.deref_mut-2.ensures.value
    ∙ ap (λ right. c.deref_mut.result.now.left ++ (c.deref_mut.result.now.own.items ++ right)) c.append.ensures
    ∙ ap (λ (g : Fork). g.left ++ (g.own.items ++ (g.right ++ c.args.following))) c.deref_mut.ensures.value
    ∙ appended f.left f.own.items f.right c.args.following ∙ ap (λ xs. xs ++ c.args.following) (c.in-Fork.ensures.tuples ∙ c.take.ensures.all)
    in
    let own =
    ap (λ (g : Fork). length g.own.items) c.deref_mut-3.ensures.value ∙ ap (λ (g : Fork). length g.own.items) c.deref_mut-2.ensures.value
    ∙ ap (λ (g : Fork). length g.own.items) c.deref_mut.ensures.value
    in (
      ap (λ (g : Fork). g.size) c.deref_mut-3.ensures.value ∙ ap₂ (λ n m. n + m) c.len.ensures c.len-2.ensures ∙ sym (length-append c.args.self.now c.args.following) ∙ sym (ap length now),
      subst (λ n. 0 < n) (sym own) c.in-Fork.ensures.counted.1,
    )

pub returns : goal.returns
returns t c =
    let f = c.in-Fork.fork.value in
    c.of-2.ensures ∙ c.balance.ensures.tuples ∙ ap listed c.deref_mut-3.ensures.value ∙ ap listed c.deref_mut-2.ensures.value
    ∙ ap (λ right. c.deref_mut.result.now.left ++ (c.deref_mut.result.now.own.items ++ right)) c.append.ensures
    ∙ ap (λ (g : Fork). g.left ++ (g.own.items ++ (g.right ++ c.args.following))) c.deref_mut.ensures.value
    ∙ appended f.left f.own.items f.right c.args.following ∙ ap (λ xs. xs ++ c.args.following) (c.in-Fork.ensures.tuples ∙ c.take.ensures.all)

pub of-requires-2 : goal.of-requires-2
of-requires-2 t c = c.balance.ensures.counted
