-- The tuples go before the left side, or are all that the tree has.
use Rattle.std.proofs.Common.{◌≡◌, ℕ, ◌+◌, ◌<◌, ◌++◌, ◌∙◌, List, sym, ap, subst, length, arith}
use Rattle.std.proofs.lemmas.List.{append_assoc, append-nil, length-append}
use Rattle.gms_tuple.specs.declared.tree.Fork.{Fork}
use Rattle.gms_tuple.specs.InnerTrees.{listed, IsSingle}
use Rattle.gms_tuple.proofs.Forks.{length-block}
use Rattle.gms_tuple.proofs.Steps.{fewer-part}
use Rattle.gms_tuple.proofs.tree.Tree.+prepend.Goals as goal

first_fits : (n m : ℕ) → n + m < 18446744073709551616 → n < 18446744073709551616
first_fits n m bound = omega arith

left_fits : (n whole l m r part : ℕ) → whole ≡ l + (m + r) → n + whole < 18446744073709551616 → part ≡ l → n + part < 18446744073709551616
left_fits n whole l m r part is bound e = omega arith

single-listed : (g : Fork) → IsSingle g → listed g ≡ g.own.items
single-listed g single = ap (λ left. left ++ (g.own.items ++ g.right)) single.0 ∙ ap (λ right. g.own.items ++ right) single.1 ∙ append-nil g.own.items

prepended : (f g : Fork) (all own left : List (List ℕ)) → g ≡ f → listed f ≡ all → left ≡ own ++ g.left → left ++ (g.own.items ++ g.right) ≡ own ++ all
prepended f g all own left same is e =
    ap (λ left. left ++ (g.own.items ++ g.right)) e ∙ append_assoc own g.left (g.own.items ++ g.right) ∙ ap (λ xs. own ++ xs) (ap listed same ∙ is)

pub made-requires : goal.made-requires
made-requires t c =
    subst (λ xs. length xs < 18446744073709551616) (sym (single-listed c.args.new.value c.requires.single)) (first_fits (length c.args.new.value.own.items) (length c.args.self.now) c.requires.within_bound)

pub returns-in_default : goal.returns-in_default
returns-in_default t c =
    let own = c.args.new.value.own.items in
    c.made.ensures ∙ single-listed c.args.new.value c.requires.single ∙ sym (append-nil own) ∙ ap (λ xs. own ++ xs) (c.in_default.ensures.tuples ∙ c.take.ensures.all)

pub prepend-requires : goal.prepend-requires
prepend-requires t c =
    let f = c.in-Fork.fork.value in
    let whole = ap length (sym (c.in-Fork.ensures.tuples ∙ c.take.ensures.all)) ∙ length-block f.left f.own.items f.right in
    let left = ap (λ (g : Fork). length g.left) c.deref_mut.ensures.value in (
      fewer-part t (length c.args.self.now) (length c.deref_mut.result.now.left) (length f.left) (length f.own.items) (length f.right) c.decreases whole c.in-Fork.ensures.counted.1 left,
      (
        left_fits (length c.args.new.value.own.items) (length c.args.self.now) (length f.left) (length f.own.items) (length f.right) (length c.deref_mut.result.now.left) whole c.requires.within_bound left,
        c.requires.single,
      ),
    )

pub made-requires-2 : goal.made-requires-2
made-requires-2 t c =
    let own = c.args.new.value.own.items in
    let is = prepended c.in-Fork.fork.value c.deref_mut.result.now c.args.self.now own c.prepend.new.self c.deref_mut.ensures.value (c.in-Fork.ensures.tuples ∙ c.take.ensures.all) c.prepend.ensures in
    subst (λ n. n < 18446744073709551616) (sym (ap length is ∙ length-append own c.args.self.now)) c.requires.within_bound

pub returns : goal.returns
returns t c =
    c.made-2.ensures
    ∙ prepended c.in-Fork.fork.value c.deref_mut.result.now c.args.self.now c.args.new.value.own.items c.prepend.new.self c.deref_mut.ensures.value (c.in-Fork.ensures.tuples ∙ c.take.ensures.all) c.prepend.ensures
