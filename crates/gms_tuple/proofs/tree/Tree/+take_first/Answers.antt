-- The first block of the left side is taken, or else the root's block, which has the rest after it.
use Rattle.std.proofs.Common.{◌≡◌, ◌<◌, ◌++◌, ◌∙◌, sym, ap, subst, length, append_assoc}
use Rattle.std.proofs.lemmas.List.{length-append}
use Rattle.gms_tuple.specs.declared.tree.Fork.{Fork}
use Rattle.gms_tuple.specs.InnerTrees.{listed}
use Rattle.gms_tuple.proofs.Forks.{length-block}
use Rattle.gms_tuple.proofs.Steps.{fewer-part, first_within, first_taken}
use Rattle.gms_tuple.proofs.tree.Tree.+take_first.Goals as goal

pub returns-in_default-clause-none : goal.returns-in_default-clause-none
returns-in_default-clause-none t c = sym (c.in_default.ensures.tuples ∙ c.take.ensures.all)

pub take_first-requires : goal.take_first-requires
take_first-requires t c =
    let f = c.in-Fork.fork.value in
    let is : listed f ≡ c.args.self.now = c.in-Fork.ensures.tuples ∙ c.take.ensures.all in
    (fewer-part t (length c.args.self.now) (length c.deref_mut.result.now.left) (length f.left) (length f.own.items) (length f.right) c.decreases (ap length (sym is) ∙ length-block f.left f.own.items f.right) c.in-Fork.ensures.counted.1 (ap (λ (g : Fork). length g.left) c.deref_mut.ensures.value), tt)

pub returns-in_default-take_first-clause-first : goal.returns-in_default-take_first-clause-first
returns-in_default-take_first-clause-first t c =
    let f = c.in-Fork.fork.value in
    let own = c.deref_mut-in_default-take_first.result.now.own.items in
    let rest : own ++ c.deref_mut-in_default-take_first.result.now.right ≡ f.own.items ++ f.right =
    ap (λ (g : Fork). g.own.items ++ g.right) c.deref_mut-in_default-take_first.ensures.value ∙ ap (λ (g : Fork). g.own.items ++ g.right) c.deref_mut.ensures.value
    in
    sym (c.in-Fork.ensures.tuples ∙ c.take.ensures.all)
    ∙ ap (λ left. left ++ (f.own.items ++ f.right)) (ap (λ (g : Fork). g.left) (sym c.deref_mut.ensures.value) ∙ c.in_default-take_first.ensures.none)
    ∙ sym rest ∙ ap (λ right. own ++ right) (sym c.take-in_default-take_first.ensures.all)

pub returns-in_default-take_first-clause-some : goal.returns-in_default-take_first-clause-some
returns-in_default-take_first-clause-some t c =
    let own = ap (λ (g : Fork). length g.own.items) c.deref_mut-in_default-take_first.ensures.value ∙ ap (λ (g : Fork). length g.own.items) c.deref_mut.ensures.value in
    subst (λ n. 0 < n) (sym own) c.in-Fork.ensures.counted.1

pub overflow_sub-deref_mut : goal.overflow_sub-deref_mut
overflow_sub-deref_mut t c =
    let f = c.in-Fork.fork.value in
    let first = c.in-Some.first.value.own.items in
    let len = c.len.ensures ∙ c.deref.result.now.own.ok.0 ∙ ap (λ (g : Fork). length g.own.items) c.deref.ensures in
    let left = ap (λ (g : Fork). length g.left) (sym c.deref_mut.ensures.value) ∙ ap length c.in-Some.ensures.first ∙ length-append first c.take_first.new.self in
    let size = ap (λ (g : Fork). g.size) c.deref_mut-2.ensures.value ∙ ap (λ (g : Fork). g.size) c.deref_mut.ensures.value ∙ c.in-Fork.ensures.counted.0 in
    first_within (length (listed f)) (length f.left) (length f.own.items) (length f.right) (length-block f.left f.own.items f.right) c.deref_mut-2.result.now.size c.len.result (length first) (length c.take_first.new.self) size len left

pub balance-requires : goal.balance-requires
balance-requires t c =
    let f = c.in-Fork.fork.value in
    let first = c.in-Some.first.value.own.items in
    let rest = c.take_first.new.self in
    let len = c.len.ensures ∙ c.deref.result.now.own.ok.0 ∙ ap (λ (g : Fork). length g.own.items) c.deref.ensures in
    let left = ap (λ (g : Fork). length g.left) (sym c.deref_mut.ensures.value) ∙ ap length c.in-Some.ensures.first ∙ length-append first rest in
    let size = ap (λ (g : Fork). g.size) c.deref_mut-2.ensures.value ∙ ap (λ (g : Fork). g.size) c.deref_mut.ensures.value ∙ c.in-Fork.ensures.counted.0 in
    let now : listed c.deref_mut-3.result.now ≡ rest ++ (f.own.items ++ f.right) =
    ap listed c.deref_mut-3.ensures.value ∙ ap listed c.deref_mut-2.ensures.value ∙ ap (λ (g : Fork). rest ++ (g.own.items ++ g.right)) c.deref_mut.ensures.value
    in
    let own =
    ap (λ (g : Fork). length g.own.items) c.deref_mut-3.ensures.value ∙ ap (λ (g : Fork). length g.own.items) c.deref_mut-2.ensures.value
    ∙ ap (λ (g : Fork). length g.own.items) c.deref_mut.ensures.value
    in (
      first_taken (length (listed f)) (length f.left) (length f.own.items) (length f.right) (length-block f.left f.own.items f.right) c.deref_mut-2.result.now.size c.len.result (length first) (length rest) c.deref_mut-3.result.now.size (length (listed c.deref_mut-3.result.now)) size len left (ap (λ (g : Fork). g.size) c.deref_mut-3.ensures.value) (ap length now ∙ length-block rest f.own.items f.right),
      subst (λ n. 0 < n) (sym own) c.in-Fork.ensures.counted.1,
    )

pub of-requires : goal.of-requires
of-requires t c = c.balance.ensures.counted

pub returns-clause-first : goal.returns-clause-first
returns-clause-first t c =
    let f = c.in-Fork.fork.value in
    let first = c.in-Some.first.value.own.items in
    let rest = c.take_first.new.self in
    let now : listed c.deref_mut-3.result.now ≡ rest ++ (f.own.items ++ f.right) =
    ap listed c.deref_mut-3.ensures.value ∙ ap listed c.deref_mut-2.ensures.value ∙ ap (λ (g : Fork). rest ++ (g.own.items ++ g.right)) c.deref_mut.ensures.value
    in
    sym (c.in-Fork.ensures.tuples ∙ c.take.ensures.all)
    ∙ ap (λ left. left ++ (f.own.items ++ f.right)) (ap (λ (g : Fork). g.left) (sym c.deref_mut.ensures.value) ∙ c.in-Some.ensures.first)
    ∙ append_assoc first rest (f.own.items ++ f.right) ∙ ap (λ xs. first ++ xs) (sym (c.of.ensures ∙ c.balance.ensures.tuples ∙ now))

pub returns-clause-some : goal.returns-clause-some
returns-clause-some t c = c.in-Some.ensures.some
