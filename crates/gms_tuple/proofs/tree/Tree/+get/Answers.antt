-- A place is on the left, in the block, or on the right, and the tuple there is the tree's tuple.
use Rattle.std.proofs.Common.{◌≡◌, ◌∙◌, ◌-◌, ◌<◌, ◌≤◌, ◌++◌, refl, sym, ap, subst, length, slice_get}
use Rattle.std.specs.Vec.{vec_len}
use Rattle.std.proofs.lemmas.Option.{slice_get_read}
use Rattle.gms_tuple.specs.declared.tree.Fork.{Fork}
use Rattle.gms_tuple.specs.InnerTrees.{listed, tuples, IsFork, IsCounted}
use Rattle.gms_tuple.proofs.Forks.{length-block}
use Rattle.gms_tuple.proofs.Steps.{none_below, fewer-part, fewer-part_right, rest_right, at-first, at-rest}
use Rattle.gms_tuple.proofs.tree.Tree.+get.Goals as goal

pub unreachable-requires : goal.unreachable-requires
unreachable-requires t c = none_below c.args.place (length c.args.self.now) c.requires (ap length (sym (ap tuples c.in_default.is) ∙ c.self.view_is))

pub get-requires : goal.get-requires
get-requires t c =
    let f = c.in-Fork.fork.value in
    let is : listed f ≡ c.args.self.now = sym (ap tuples c.in-Fork.is) ∙ c.self.view_is in
    let fork : IsFork f = subst IsCounted c.in-Fork.is c.self.invariant in
    let left = ap (λ (g : Fork). length g.left) c.deref-then-place-before.ensures in (
      fewer-part t (length c.args.self.now) (length c.deref-then-place-before.result.now.left) (length f.left) (length f.own.items) (length f.right) c.decreases (ap length (sym is) ∙ length-block f.left f.own.items f.right) fork.1 left,
      subst (λ n. c.args.place < n) (c.len-before.ensures ∙ ap (λ (g : Fork). length g.left) c.deref.ensures ∙ sym left) c.if-place-before.true,
    )

pub returns-then-place-before : goal.returns-then-place-before
returns-then-place-before t c =
    let f = c.in-Fork.fork.value in
    let is : listed f ≡ c.args.self.now = sym (ap tuples c.in-Fork.is) ∙ c.self.view_is in
    let before : c.len-before.result ≡ length f.left = c.len-before.ensures ∙ ap (λ (g : Fork). length g.left) c.deref.ensures in
    let within : c.args.place < length f.left = subst (λ n. c.args.place < n) before c.if-place-before.true in
    sym (ap (λ xs. slice_get xs c.args.place) is) ∙ at-first f.left (f.own.items ++ f.right) c.args.place within
    ∙ ap (λ (g : Fork). slice_get g.left c.args.place) (sym c.deref-then-place-before.ensures) ∙ c.get.ensures

pub index-requires : goal.index-requires
index-requires t c =
    subst (λ n. c.args.place - c.len-before.result < n) (c.len.ensures ∙ ap (λ (g : Fork). vec_len g.own) (c.deref-2.ensures ∙ sym c.deref-then-rest-len.ensures)) c.if-rest-len.true

pub returns-then-rest-len : goal.returns-then-rest-len
returns-then-rest-len t c =
    let f = c.in-Fork.fork.value in
    let own = c.deref-then-rest-len.result.now.own in
    let rest = c.args.place - c.len-before.result in
    let is : listed f ≡ c.args.self.now = sym (ap tuples c.in-Fork.is) ∙ c.self.view_is in
    let before : c.len-before.result ≡ length f.left = c.len-before.ensures ∙ ap (λ (g : Fork). length g.left) c.deref.ensures in
    let from : length f.left ≤ c.args.place = subst (λ n. n ≤ c.args.place) before c.if-place-before.false in
    let here : rest < length own.items = subst (λ n. rest < n) (c.len.ensures ∙ ap (λ (g : Fork). vec_len g.own) (c.deref-2.ensures ∙ sym c.deref-then-rest-len.ensures) ∙ own.ok.0) c.if-rest-len.true in
    let within : rest < length f.own.items = subst (λ (g : Fork). rest < length g.own.items) c.deref-then-rest-len.ensures here in
    sym (ap (λ xs. slice_get xs c.args.place) is) ∙ at-rest f.left (f.own.items ++ f.right) c.args.place from
    ∙ ap (λ n. slice_get (f.own.items ++ f.right) (c.args.place - n)) (sym before) ∙ at-first f.own.items f.right rest within
    ∙ ap (λ (g : Fork). slice_get g.own.items rest) (sym c.deref-then-rest-len.ensures) ∙ slice_get_read own.items _ rest c.index.result.now refl here c.index.ensures

pub overflow_sub-rest-else-rest-len : goal.overflow_sub-rest-else-rest-len
overflow_sub-rest-else-rest-len t c =
    subst (λ n. n ≤ c.args.place - c.len-before.result) (c.len.ensures ∙ ap (λ (g : Fork). vec_len g.own) (c.deref-2.ensures ∙ sym c.deref-else-rest-len-2.ensures) ∙ sym c.len-else-rest-len.ensures) c.if-rest-len.false

pub get-requires-else-rest-len : goal.get-requires-else-rest-len
get-requires-else-rest-len t c =
    let f = c.in-Fork.fork.value in
    let is : listed f ≡ c.args.self.now = sym (ap tuples c.in-Fork.is) ∙ c.self.view_is in
    let fork : IsFork f = subst IsCounted c.in-Fork.is c.self.invariant in
    let whole = ap length (sym is) ∙ length-block f.left f.own.items f.right in
    let before = c.len-before.ensures ∙ ap (λ (g : Fork). length g.left) c.deref.ensures in
    let own : c.len-else-rest-len.result ≡ length f.own.items = c.len-else-rest-len.ensures ∙ c.deref-else-rest-len-2.result.now.own.ok.0 ∙ ap (λ (g : Fork). length g.own.items) c.deref-else-rest-len-2.ensures in
    let right = ap (λ (g : Fork). length g.right) c.deref-else-rest-len.ensures in (
      fewer-part_right t (length c.args.self.now) (length c.deref-else-rest-len.result.now.right) (length f.left) (length f.own.items) (length f.right) c.decreases whole fork.1 right,
      rest_right c.args.place (length c.args.self.now) (length f.left) (length f.own.items) (length f.right) c.len-before.result c.len-else-rest-len.result (length c.deref-else-rest-len.result.now.right) c.requires whole before own right c.if-place-before.false (overflow_sub-rest-else-rest-len t c),
    )

pub returns-else-rest-len : goal.returns-else-rest-len
returns-else-rest-len t c =
    let f = c.in-Fork.fork.value in
    let rest = c.args.place - c.len-before.result in
    let is : listed f ≡ c.args.self.now = sym (ap tuples c.in-Fork.is) ∙ c.self.view_is in
    let before : c.len-before.result ≡ length f.left = c.len-before.ensures ∙ ap (λ (g : Fork). length g.left) c.deref.ensures in
    let from : length f.left ≤ c.args.place = subst (λ n. n ≤ c.args.place) before c.if-place-before.false in
    let own : c.len-else-rest-len.result ≡ length f.own.items = c.len-else-rest-len.ensures ∙ c.deref-else-rest-len-2.result.now.own.ok.0 ∙ ap (λ (g : Fork). length g.own.items) c.deref-else-rest-len-2.ensures in
    let upto : length f.own.items ≤ rest = subst (λ n. n ≤ rest) (c.len.ensures ∙ c.deref-2.result.now.own.ok.0 ∙ ap (λ (g : Fork). length g.own.items) c.deref-2.ensures) c.if-rest-len.false in
    sym (ap (λ xs. slice_get xs c.args.place) is) ∙ at-rest f.left (f.own.items ++ f.right) c.args.place from
    ∙ ap (λ n. slice_get (f.own.items ++ f.right) (c.args.place - n)) (sym before) ∙ at-rest f.own.items f.right rest upto
    ∙ ap (λ n. slice_get f.right (rest - n)) (sym own) ∙ ap (λ (g : Fork). slice_get g.right (rest - c.len-else-rest-len.result)) (sym c.deref-else-rest-len.ensures) ∙ c.get-else-rest-len.ensures
